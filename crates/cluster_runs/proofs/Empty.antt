-- The nodes of the empty cluster are fit to begin with.
use Rattle.std.proofs.Common.{◌≡◌, None, Some, refl}
use Rattle.node_calls.proofs.WholeLemmas.{nothing_is_whole}
use Rattle.cluster_runs.specs.Lists.{EmptyNodesAreFit}

pub empty_nodes_are_fit : EmptyNodesAreFit
empty_nodes_are_fit = record {
  whole = λ storage path. nothing_is_whole;
  quiet = λ storage path. record {
    idle = refl;
    below = λ lease is. absurd (let z : None ≡ Some lease = is in cc);
  };
}
