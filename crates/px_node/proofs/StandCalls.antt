-- The rows that stand for a node after the batch of each call.
use Rattle.std.proofs.Common.{◌≡◌, ◌+◌, ◌<◌, ◌≤◌, ℕ, List, true, false, not, max, None, refl, ap, arith}
use Rattle.std.proofs.Math.Nat.{max-eq_right}
use Rattle.std.proofs.lemmas.Bool.{and_right}
use Rattle.px_base.specs.Object.{GitObject}
use Rattle.px_base.specs.RefList.{References}
use Rattle.px_base.specs.RepoPath.{IsRepoPath}
use Rattle.px_base.specs.declared.push.Push.{Push}
use Rattle.objstore.specs.Bundle.{bundle_fault}
use Rattle.refstore.proofs.After.{Ascends}
use Rattle.px_keeper.specs.Change.{applied}
use Rattle.px_keeper.specs.Row.{Rows}
use Rattle.node_rows.proofs.Stands.{stand_applied, stand_emptied, stand_fenced, stand_pushed, touched_fence}
use Rattle.node_calls.specs.Calls.{aborted, committed, created, prepared, removed}
use Rattle.node_replica.specs.Effects.{taken_over}
use Rattle.node_calls.specs.ReplicaState.{Changes, NodeState, ReplicaState, ReadyPush, raised}
use Rattle.node_rows.specs.Rows.{StandFor, is_untouched}
use Rattle.refstore.specs.Updates.{Fits}
use Rattle.node_rows.specs.Writes.{applied_rows, committed_rows, emptied_rows, fenced_rows}

-- ---- the batch of each call

-- where the repository is held, something was done
touched_held : (place : ReplicaState) → place.held ≡ true → is_untouched place ≡ false
touched_held place held = and_right _ (not place.held) (ap not held)

above_fence : (fence lease : ℕ) → fence ≤ lease → max fence (lease + 1) ≡ lease + 1
above_fence fence lease below =
    max-eq_right (let above : fence ≤ lease + 1 = omega (arith, below) in above)

module _ (rows : Rows) (old new : NodeState) (path : List ℕ) (stand : StandFor rows old)
    (lawful : IsRepoPath path) where
  -- the lease is not below the fence
  module _ (lease : ℕ) (below : (old path).fence ≤ lease) where
    pub stand_created : Changes old new path (created lease (old path))
        → StandFor (applied rows (emptied_rows path lease true (old path))) new
    stand_created changes =
        stand_emptied rows old new path (created lease (old path)) stand lawful changes lease true
        (above_fence (old path).fence lease below) refl refl refl refl

    pub stand_removed : Changes old new path (removed lease (old path))
        → StandFor (applied rows (emptied_rows path lease false (old path))) new
    stand_removed changes =
        stand_emptied rows old new path (removed lease (old path)) stand lawful changes lease false
        (above_fence (old path).fence lease below) refl refl refl refl

    pub stand_aborted : Changes old new path (aborted lease (old path))
        → StandFor (applied rows (fenced_rows path (lease + 1) (old path))) new
    stand_aborted changes =
        let fence = above_fence (old path).fence lease below in
        stand_fenced rows old new path (aborted lease (old path)) stand lawful changes (lease + 1)
        (touched_fence (aborted lease (old path)) (lease + 1) fence (omega arith)) fence
        refl refl refl refl

    pub stand_prepared : (push : Push) → (old path).held ≡ true
        → Changes old new path (prepared lease push (old path))
        → StandFor (applied rows (fenced_rows path lease (old path))) new
    stand_prepared push held changes =
        stand_fenced rows old new path (prepared lease push (old path)) stand lawful changes lease
        (touched_held (prepared lease push (old path)) held) (max-eq_right below)
        refl refl refl refl

    pub stand_taken_over : (refs : References) (objects : List GitObject)
        → bundle_fault (old path).objects 0 objects ≡ None → Ascends refs
        → Changes old new path (taken_over lease refs objects (old path))
        → StandFor (applied rows (applied_rows path lease refs objects (old path))) new
    stand_taken_over refs objects comes ascends changes =
        stand_applied rows old new path (taken_over lease refs objects (old path)) stand lawful
        changes lease refs objects comes ascends (above_fence (old path).fence lease below)
        refl refl refl refl

    -- the push that was ready is done
    pub stand_committed : (push : ReadyPush) → (old path).held ≡ true → Ascends (old path).refs
        → Fits push.updates (old path).refs
        → bundle_fault (old path).objects 0 push.objects ≡ None
        → Changes old new path (committed lease push (old path))
        → StandFor (applied rows (committed_rows path lease push (old path))) new
    stand_committed push held ascends fits comes changes =
        stand_pushed rows old new path (committed lease push (old path)) stand lawful changes lease
        push ascends fits comes (above_fence (old path).fence lease below) refl held refl refl

  -- the fence is raised where it is below the lease
  pub stand_raised : (lease : ℕ) → (old path).fence < lease
      → Changes old new path (raised lease (old path))
      → StandFor (applied rows (fenced_rows path lease (old path))) new
  stand_raised lease below changes =
      let fence : max (old path).fence lease ≡ lease =
      max-eq_right (let least : (old path).fence ≤ lease = omega (arith, below) in least) in
      stand_fenced rows old new path (raised lease (old path)) stand lawful changes lease
      (touched_fence (raised lease (old path)) lease fence (omega (arith, below))) fence
      refl refl refl refl
