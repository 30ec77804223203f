-- Worked rows of deliveries, by computation: what nodes answer, what the ledger keeps of it, and
-- what a restart keeps.
use Rattle.std.proofs.Common.{◌≡◌, ℕ, [], ◌∷◌, None, Some, refl, inl, inr}
use Rattle.px_ops.specs.declared.job.JobState.TheVariants.{Completed}
use Rattle.px_ops.specs.declared.node_refusal.NodeRefusal.TheVariants.{Fenced}
use Rattle.px_ops.specs.declared.refusal.Refusal.TheVariants.{Node, NotOut}
use Rattle.px_ops.specs.declared.reply.Reply.TheVariants as reply
use Rattle.node_calls.specs.Calls as node
use Rattle.node_calls.specs.ReplicaState.{ReplicaState, nothing, raised}
use Rattle.voters.specs.Marks.{committed_hash, is_lost}
use Rattle.voters.specs.Votes.{decision}
use Rattle.px_cluster.specs.Acknowledged.{op_next, op_reply}
use Rattle.px_cluster.specs.Cluster.{Cluster}
use Rattle.px_cluster.specs.Core.{restarted}
use Rattle.px_cluster.specs.Deliveries.{fence_kept, with_answer, with_state_at}
use Rattle.px_cluster.specs.Effects.{effect_of, state_at}
use Rattle.px_cluster.specs.Events.{Delivered, LastIs, Replied, refused}
use Rattle.px_cluster.specs.Events as event
use Rattle.px_cluster.specs.Ledger.{Purpose, answered}
use Rattle.px_cluster.specs.Step.{Step, settling}
use Rattle.px_cluster.proofs.Asking.{a, at, b, begin, collect, done, enrol, factor, finish, prepared, reconcile, settle, take, tx, v, withdraw}
use Rattle.px_cluster.proofs.ClusterRows.{after_all, created, effect_for, told}

-- what the node of a storage has of the repository
abbrev state_on : Cluster → ℕ → ReplicaState
state_on cluster storage = state_at cluster (effect_for storage 0).at

-- the node of a storage changed its replica, and its answer to the effect under a lease is kept
abbrev done_on : Cluster → ℕ → ℕ → ReplicaState → (Purpose → Purpose) → Cluster
done_on cluster storage lease state keeps = with_answer
    (with_state_at cluster (effect_for storage lease).at state) (effect_for storage lease) keeps

-- ---- creation

abbrev made_on_b : Cluster
made_on_b = done_on created 1 1 (node.created 1 nothing) answered

b_makes_its_replica : Step created (event.Make 1 0 1) Delivered made_on_b
b_makes_its_replica = inr (record {
  result = tt;
  state = node.created 1 nothing;
  does_ = record { accepted = refl; is = refl };
  answer_ = refl;
  changes = refl;
})

-- it comes again, and the fence refuses it; under a lease that was not drawn it is not out
again_it_is_fenced : Step made_on_b (event.Make 1 0 1) (refused (Node (Fenced 2))) made_on_b
again_it_is_fenced =
    inl (record { why = Fenced 2; refuses_ = refl; answer_ = refl; same = refl })

under_another_lease : Step created (event.Make 1 0 2) (refused NotOut) created
under_another_lease = (refl, refl)

b_may_be_enrolled : op_reply made_on_b (enrol 1 1) ≡ reply.Done
b_may_be_enrolled = refl

abbrev made : Cluster
made = done_on made_on_b 0 1 (node.created 1 nothing) answered

-- ---- a push is decided, both commits are issued, and neither is delivered

abbrev undelivered : Cluster
undelivered = after_all made
    (enrol 0 1 ∷ enrol 1 1 ∷ begin ∷ prepared 1 a v ∷ prepared 1 b v ∷ collect 1 a ∷ collect 1 b
    ∷ withdraw 1 a ∷ finish 1 ∷ settle 1 ∷ [])

-- the fence is raised, and the node tells that it committed nothing
abbrev fenced : Cluster
fenced = done_on undelivered 1 3 (raised 3 (state_on undelivered 1))
    (fence_kept (state_on undelivered 1))

b_is_fenced : Step undelivered (event.Fence 1 0 3) (LastIs None) fenced
unfolding decision committed_hash is_lost
b_is_fenced = (refl, refl)

-- so the commit does nothing when it comes
the_late_commit : Step fenced (event.Commit (tx 1) 1) (refused (Node (Fenced 3))) fenced
unfolding decision committed_hash is_lost
the_late_commit = inl (record { why = Fenced 3; refuses_ = refl; answer_ = refl; same = refl })

abbrev settled : Cluster
settled = op_next fenced (settling fenced 0 1 3)

b_is_settled : Step fenced (event.Settled 0 1 3) (Replied (reply.BookedIs (at 0))) settled
unfolding decision committed_hash is_lost
b_is_settled = record { replied = refl; leads = refl }

-- ---- a delete

abbrev deleting : Cluster
deleting = after_all made
    (enrol 0 1 ∷ enrol 1 1 ∷ factor 1 ∷ reconcile ∷ take 1 5 ∷ [])

abbrev removed : Cluster
removed = done_on deleting 1 2 (node.removed 2 (state_on deleting 1)) answered

b_removes_its_replica : Step deleting (event.Remove 1 2) Delivered removed
b_removes_its_replica = inr (record {
  result = tt;
  state = node.removed 2 (state_on deleting 1);
  does_ = record { accepted = refl; is = refl };
  answer_ = refl;
  changes = refl;
})

then_the_job_is_done : op_reply removed (done 1 2) ≡ reply.JobIs Completed
then_the_job_is_done = refl

-- ---- a restart keeps what was issued: the commit of a member that was told may still come

abbrev restarted_cluster : Cluster
restarted_cluster = record told { core = restarted told.core }

it_restarts : Step told event.Restart (Replied reply.Done) restarted_cluster
unfolding decision committed_hash is_lost
it_restarts = record { replied = refl; leads = refl }

the_commit_is_still_out : effect_of restarted_cluster (event.Commit (tx 1) 0)
    ≡ Some (effect_for 0 2)
unfolding decision committed_hash is_lost
the_commit_is_still_out = refl
