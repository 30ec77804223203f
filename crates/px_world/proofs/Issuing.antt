-- What is issued for an open push, as the cluster has it.
use Rattle.std.proofs.Common.{◌≡◌, ℕ, List, Some, ap}
use Rattle.px_base.specs.declared.hash.Hash.{Hash}
use Rattle.px_base.specs.declared.ids.TxId.{TxId}
use Rattle.issued.specs.Entries.{Entries}
use Rattle.issued.specs.Issued.{IssuesCommit, IssuesPush}
use Rattle.nodes.specs.State.{NodesState}
use Rattle.px_cluster.specs.Cluster.{Cluster}
use Rattle.px_cluster.specs.Core.{Core, OpenPush}
use Rattle.px_cluster.specs.Issues.{issues_commit_at, issues_push}
use Rattle.px_world.specs.World.{world}

module _ (core : Core) (nodes : NodesState) (was now : Entries) (push : OpenPush) where
  abbrev in_world : Cluster → Cluster
  in_world cluster = record cluster { core = core; node = nodes.node }

  -- a prepare and an abort for each member
  pub push_begun : (tx : TxId) (repo : ℕ) (members : List ℕ) (lease begun : ℕ)
      → IssuesPush tx repo members lease begun was now → push.tx ≡ tx → push.repo ≡ repo
      → push.members ≡ members → push.lease ≡ lease → push.begun ≡ begun
      → world core nodes now ≡ issues_push (world core nodes was) push
  push_begun tx repo members lease begun issues of_tx of_repo of_members of_lease of_begun =
      ap in_world (issues push of_tx of_repo of_members of_lease of_begun)

  -- a commit for a member
  pub commit_told : (repo storage lease : ℕ) (hash : Hash)
      → IssuesCommit repo storage lease hash was now → push.repo ≡ repo → push.lease ≡ lease
      → world core nodes now
      ≡ issues_commit_at (world core nodes was) push (Some storage) (Some hash)
  commit_told repo storage lease hash issues of_repo of_lease =
      ap in_world (issues push of_repo of_lease)
