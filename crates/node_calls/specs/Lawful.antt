-- What a node may have of its repositories, so that its rows can be read again.
use Rattle.std.specs.Prelude.{◌≡◌, ◌⊎◌, ◌<◌, ◌-◌, ◌^◌, ℕ, false, List, [], IfSome, Some}
use Rattle.px_base.specs.Hash.{IsHash}
use Rattle.px_base.specs.RefList.{IsRefList, ref_at}
use Rattle.px_base.specs.RepoPath.{IsRepoPath}
use Rattle.px_base.specs.declared.hash.Hash.{Hash}
use Rattle.objstore.specs.Entries.{AreSmall, IsStore}
use Rattle.node_calls.specs.ReplicaState.{NodeState, ReplicaState, nothing}

-- of one repository: a fence and a last lease that fit into their bytes, references and objects that
-- a repository may have, and none of them where it is not held
pub record IsLawfulReplica (place : ReplicaState) : Type 0 where
  pub fence : place.fence < 2 ^ 64
  pub last : IfSome place.last (λ lease. lease < 2 ^ 64 - 1)
  pub refs : IsRefList place.refs
  pub ids : (name : List ℕ) (id : Hash) → ref_at place.refs name ≡ Some id → IsHash id
  pub store : IsStore place.objects
  pub small : AreSmall place.objects
  pub empty : place.held ≡ false → (place.refs ≡ []) × (place.objects ≡ [])

-- such a replica under each path, and nothing under what is no path
pub record IsLawful (node : NodeState) : Type 0 where
  pub places : (path : List ℕ) → IsLawfulReplica (node path)
  pub paths : (path : List ℕ) → IsRepoPath path ⊎ (node path ≡ nothing)
