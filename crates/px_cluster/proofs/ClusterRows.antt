-- Worked rows on the whole cluster, by computation: what is issued, and which answers are asked
-- for. The answers of nodes are put into the ledger by hand.
use Rattle.std.proofs.Common.{◌≡◌, ℕ, List, [], ◌∷◌, true, false, None, Some, refl}
use Rattle.px_ops.specs.declared.op.Op.{Op}
use Rattle.px_ops.specs.declared.refusal.Refusal.TheVariants as refusal
use Rattle.px_ops.specs.declared.reply.Reply.TheVariants as reply
use Rattle.voters.specs.Marks.{committed_hash, is_lost}
use Rattle.voters.specs.Votes.{decision}
use Rattle.px_cluster.specs.Acknowledged.{op_next, op_reply}
use Rattle.px_cluster.specs.Cluster.{Cluster, empty, with_ledger}
use Rattle.px_cluster.specs.Effects.{Effect, effect_of}
use Rattle.px_cluster.specs.Events.{Commit, Apply, Make, Remove, TakeSnapshot}
use Rattle.px_cluster.specs.Ledger.{Creation, Fencing, Purpose, Pushing, Updating, with_purpose}
use Rattle.px_cluster.proofs.Asking.{a, admit, at, b, begin, collect, committed, create, done, enrol, open_2, prepared, reconcile, refused, settle, settled, take, tx, up, v, withdraw, finish, x}

-- what a list of operations leaves
abbrev pub after_all : Cluster → List Op → Cluster
after_all cluster [] = cluster
after_all cluster (asked ∷ ops) = after_all (op_next cluster asked) ops

-- the purpose of a lease of the repository at a storage, put by hand: a node answered
abbrev answered_so : Cluster → ℕ → ℕ → Purpose → Cluster
answered_so cluster storage lease purpose =
    with_ledger cluster (with_purpose cluster.ledger 0 storage lease purpose)

-- an effect for the repository's replica on a storage, under a lease
abbrev pub effect_for : ℕ → ℕ → Effect
effect_for storage lease = record {
  at = record { repo = 0; path = x; storage = storage };
  lease = lease;
}

-- ---- creation

abbrev pub created : Cluster
created = after_all empty (admit a ∷ admit b ∷ up 0 ∷ up 1 ∷ create ∷ [])

create_is_issued : created.ledger 0 1 1 ≡ Creation false
create_is_issued = refl

no_create_under_another_lease : effect_of created (Make 1 0 2) ≡ None
no_create_under_another_lease = refl

create_is_out : effect_of created (Make 1 0 1) ≡ Some (effect_for 1 1)
create_is_out = refl

enrol_waits : op_reply created (enrol 0 1) ≡ refused refusal.NotAcked
enrol_waits = refl

abbrev made : Cluster
made = answered_so (answered_so created 0 1 (Creation true)) 1 1 (Creation true)

-- ---- a push

abbrev decided : Cluster
decided = after_all made (enrol 0 1 ∷ enrol 1 1 ∷ begin ∷ prepared 1 a v ∷ prepared 1 b v ∷ [])

no_commit_before_it_is_told : effect_of decided (Commit (tx 1) 0) ≡ None
unfolding decision committed_hash is_lost
no_commit_before_it_is_told = refl

abbrev pub told : Cluster
told = op_next decided (collect 1 a)

commit_is_issued : told.ledger 0 0 2 ≡ Pushing 0 (Some v) false
unfolding decision committed_hash is_lost
commit_is_issued = refl

none_for_the_other : effect_of told (Commit (tx 1) 1) ≡ None
unfolding decision committed_hash is_lost
none_for_the_other = refl

committed_cast_waits : op_reply told (committed 1 a v) ≡ refused refusal.NotAcked
unfolding decision committed_hash is_lost
committed_cast_waits = refl

abbrev voted : Cluster
voted = answered_so told 0 2 (Pushing 0 (Some v) true)

committed_cast_counts : op_reply voted (committed 1 a v) ≡ open_2
unfolding decision committed_hash is_lost
committed_cast_counts = refl

-- ---- settling: b's commit was issued, and its push ended without b's vote

abbrev ended : Cluster
ended = after_all voted (committed 1 a v ∷ collect 1 b ∷ withdraw 1 b ∷ finish 1 ∷ settle 1 ∷ [])

fence_is_issued : ended.ledger 0 1 3 ≡ Fencing None
unfolding decision committed_hash is_lost
fence_is_issued = refl

commit_is_out_after_the_push : effect_of ended (Commit (tx 1) 1) ≡ Some (effect_for 1 2)
unfolding decision committed_hash is_lost
commit_is_out_after_the_push = refl

settling_waits : op_reply ended (settled 1 3 (Some 2)) ≡ refused refusal.NotAcked
unfolding decision committed_hash is_lost
settling_waits = refl

-- the node answered that it committed nothing: only that may be told
abbrev fenced : Cluster
fenced = answered_so ended 1 3 (Fencing (Some None))

not_what_was_answered : op_reply fenced (settled 1 3 (Some 2)) ≡ refused refusal.NotAcked
unfolding decision committed_hash is_lost
not_what_was_answered = refl

what_was_answered : op_reply fenced (settled 1 3 None) ≡ reply.BookedIs (at 0)
unfolding decision committed_hash is_lost
what_was_answered = refl

-- ---- jobs: what is out belongs to the job that drew the lease

abbrev worked : Cluster
worked = after_all fenced (settled 1 3 None ∷ reconcile ∷ take 1 100 ∷ [])

update_is_taken : worked.ledger 0 1 4 ≡ Updating 1 0 1 None false
unfolding decision committed_hash is_lost
update_is_taken = refl

snapshot_is_out : effect_of worked (TakeSnapshot 1 4) ≡ Some (effect_for 1 4)
unfolding decision committed_hash is_lost
snapshot_is_out = refl

-- not under the lease of the fence, nor for another job, nor is anything to be removed
not_under_the_fence : effect_of worked (TakeSnapshot 1 3) ≡ None
unfolding decision committed_hash is_lost
not_under_the_fence = refl

no_apply_before_a_snapshot : effect_of worked (Apply 1 4) ≡ None
unfolding decision committed_hash is_lost
no_apply_before_a_snapshot = refl

nothing_to_remove : effect_of worked (Remove 1 4) ≡ None
unfolding decision committed_hash is_lost
nothing_to_remove = refl

good_end_waits : op_reply worked (done 1 4) ≡ refused refusal.NotAcked
unfolding decision committed_hash is_lost
good_end_waits = refl

-- two jobs were taken for b's replica, and lease 7 was drawn for the second
abbrev second_job : Cluster
second_job = record (answered_so made 1 7 (Updating 2 0 0 None false)) {
  worked = λ job. Some (record { repo = 0; number = 1 });
}

of_the_job_that_drew_it : effect_of second_job (TakeSnapshot 2 7) ≡ Some (effect_for 1 7)
of_the_job_that_drew_it = refl

not_of_the_job_before : effect_of second_job (TakeSnapshot 1 7) ≡ None
not_of_the_job_before = refl
