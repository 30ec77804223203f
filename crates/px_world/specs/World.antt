-- What a world keeps, and the cluster that it is.
use Rattle.std.specs.Prelude.{◌≡◌, length}
use Rattle.px_cluster.specs.Cluster.{Cluster}
use Rattle.px_cluster.specs.Core.{Core}
use Rattle.issued.specs.Draws.{ledger_of}
use Rattle.issued.specs.Entries.{Entries}
use Rattle.issued.specs.Issued.{pushed_of, worked_of}
use Rattle.nodes.specs.State.{KeptNodes, NodesState, state_of}

pub record Kept : Type 0 where
  pub core : Core
  pub nodes : KeptNodes
  pub issued : Entries

-- the cluster of a core and its nodes, to which this was issued
abbrev pub world : Core → NodesState → Entries → Cluster
world core nodes issued = record {
  core = core;
  node = nodes.node;
  ledger = ledger_of issued.draws;
  pushed = pushed_of issued.pushes;
  worked = worked_of issued.works;
}

abbrev pub cluster_of : Kept → Cluster
cluster_of kept = world kept.core (state_of kept.nodes) kept.issued

-- each storage has a node
abbrev pub HasNodes : Core → NodesState → Type 0
HasNodes core nodes = nodes.count ≡ length core.storages
