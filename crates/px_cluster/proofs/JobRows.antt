-- Worked rows of jobs, factors and accepting, by computation: what a list of operations answers.
use Rattle.std.proofs.Common.{◌≡◌, ℕ, List, [], ◌∷◌, true, false, None, Some, refl}
use Rattle.px_ops.specs.declared.booking.Booking.TheVariants.{Absent}
use Rattle.px_ops.specs.declared.job.JobKind.TheVariants.{Update, Delete}
use Rattle.px_ops.specs.declared.job.JobState.TheVariants.{Completed, Dead, Failed}
use Rattle.px_ops.specs.declared.op.Op.{Op}
use Rattle.px_ops.specs.declared.push.PushEnd.TheVariants as end
use Rattle.px_ops.specs.declared.refusal.Refusal.TheVariants as refusal
use Rattle.px_ops.specs.declared.reply.Reply.TheVariants as reply
use Rattle.voters.specs.Marks.{committed_hash, is_lost}
use Rattle.voters.specs.Votes.{decision}
use Rattle.px_cluster.specs.Core.{Core, empty}
use Rattle.px_cluster.specs.Ids.{gen, job_id}
use Rattle.px_cluster.proofs.Asking.{a, accept, accepted, admit, after, at, b, begin, begun, booked, books, c, committed, committed_1, committed_2, create, deletes, done, down, enrol, factor, fail, finish, planned, prepared, read, reconcile, refused, replies, row, row_with, stale, take, taken, tx, up, updates, v, withdraw}
use Rattle.px_cluster.proofs.PushRows.{after_doubt, two}

-- ---- updates

-- a worker is not heard of and the job is taken again; the late one is not heard any more
a_stale_worker : replies after_doubt
    (reconcile ∷ take 1 100 ∷ stale 199 100 ∷ stale 200 100 ∷ take 1 200 ∷ done 1 3 ∷ done 1 4
    ∷ done 1 3 ∷ booked ∷ [])
    ≡ updates 1 a b ∷ taken Update 1 (Some a) b 1 3 ∷ reply.StaleIs []
    ∷ reply.StaleIs (job_id 1 ∷ []) ∷ taken Update 1 (Some a) b 1 4
    ∷ refused (refusal.LeaseLost 4 3) ∷ reply.JobIs Completed ∷ refused (refusal.UnknownJob (job_id 1))
    ∷ books 1 (row 0 a (at 1) ∷ row 1 b (at 1) ∷ []) ∷ []
unfolding decision committed_hash is_lost
a_stale_worker = refl

-- while a job brings b to generation 1, a takes a push alone: b is booked at 1, and not at 2
a_push_beside_a_job : replies (after after_doubt (reconcile ∷ take 1 100 ∷ []))
    (begin ∷ prepared 2 a v ∷ committed 2 a v ∷ finish 2 ∷ done 1 3 ∷ booked ∷ reconcile ∷ [])
    ≡ begun 2 4 1 (a ∷ []) (b ∷ []) ∷ committed_1 v 1 1 1 ∷ committed_2 v 1 1 1
    ∷ reply.Finished (end.Committed (gen 2)) ∷ reply.JobIs Completed
    ∷ books 2 (row 0 a (at 2) ∷ row 1 b (at 1) ∷ []) ∷ updates 2 a b ∷ []
unfolding decision committed_hash is_lost
a_push_beside_a_job = refl

-- ---- deletes

-- a smaller factor, a delete, a greater factor, and an update that fails three times
a_factor_and_a_job_that_fails : replies two
    (factor 3 ∷ factor 1 ∷ reconcile ∷ take 1 5 ∷ booked ∷ done 1 2 ∷ factor 2 ∷ reconcile ∷ take 1 6
    ∷ fail 2 3 ∷ take 1 7 ∷ fail 2 4 ∷ take 1 8 ∷ fail 2 5 ∷ take 1 9 ∷ reconcile ∷ [])
    ≡ refused (refusal.BadFactor 2) ∷ reply.Assigned (a ∷ []) ∷ deletes 1 b
    ∷ taken Delete 1 None b 0 2
    ∷ books 0 (row 0 a (at 0) ∷ row_with 1 b false true Absent ∷ []) ∷ reply.JobIs Completed
    ∷ reply.Assigned (a ∷ b ∷ []) ∷ updates 2 a b ∷ taken Update 2 (Some a) b 0 3
    ∷ reply.JobIs Failed ∷ taken Update 2 (Some a) b 0 4 ∷ reply.JobIs Failed
    ∷ taken Update 2 (Some a) b 0 5 ∷ reply.JobIs Dead ∷ reply.NoJob ∷ updates 3 a b ∷ []
a_factor_and_a_job_that_fails = refl

abbrev three : Core
three = after empty
    (admit a ∷ admit b ∷ admit c ∷ up 0 ∷ up 1 ∷ up 2 ∷ create ∷ enrol 0 1 ∷ enrol 1 1 ∷ enrol 2 1
    ∷ [])

-- a delete at c was planned, and then b fell behind: it is dropped, as c may be needed
no_delete_while_a_replica_lags : replies three
    (factor 2 ∷ reconcile ∷ down 1 ∷ begin ∷ prepared 1 a v ∷ committed 1 a v ∷ finish 1 ∷ take 2 9
    ∷ booked ∷ [])
    ≡ reply.Assigned (a ∷ b ∷ []) ∷ deletes 1 c ∷ reply.Done ∷ begun 1 2 0 (a ∷ []) (b ∷ [])
    ∷ committed_1 v 1 1 1 ∷ committed_2 v 1 1 1 ∷ reply.Finished (end.Committed (gen 1))
    ∷ reply.Dropped (job_id 1)
    ∷ books 1 (row 0 a (at 1) ∷ row_with 1 b true false (at 0) ∷ row_with 2 c false true (at 0) ∷ [])
    ∷ []
unfolding decision committed_hash is_lost
no_delete_while_a_replica_lags = refl

-- ---- factors

-- c was the primary of the last push: a smaller factor spares it, and a greater one adds the least
-- number that has a replica
a_smaller_factor_spares_the_primary : replies three
    (factor 4 ∷ down 0 ∷ down 1 ∷ begin ∷ factor 2 ∷ withdraw 1 c ∷ finish 1 ∷ up 0 ∷ up 1 ∷ factor 1
    ∷ factor 2 ∷ [])
    ≡ refused (refusal.BadFactor 3) ∷ reply.Done ∷ reply.Done ∷ begun 1 2 0 (c ∷ []) (a ∷ b ∷ [])
    ∷ refused (refusal.Turn (tx 1)) ∷ reply.Done ∷ reply.Finished end.NoQuorum ∷ reply.Done
    ∷ reply.Done ∷ reply.Assigned (c ∷ []) ∷ reply.Assigned (a ∷ c ∷ []) ∷ []
unfolding decision committed_hash is_lost
a_smaller_factor_spares_the_primary = refl

-- ---- accepting

-- a alone takes two pushes
abbrev push_alone : ℕ → List Op
push_alone number = begin ∷ prepared number a v ∷ committed number a v ∷ finish number ∷ []

abbrev a_alone : Core
a_alone = after empty
    (admit a ∷ admit b ∷ admit c ∷ up 0 ∷ create ∷ enrol 0 1 ∷ enrol 1 1 ∷ enrol 2 1 ∷ [])

a_push_of_one : replies a_alone (push_alone 1)
    ≡ begun 1 2 0 (a ∷ []) (b ∷ c ∷ []) ∷ committed_1 v 1 1 1 ∷ committed_2 v 1 1 1
    ∷ reply.Finished (end.Committed (gen 1)) ∷ []
unfolding decision committed_hash is_lost
a_push_of_one = refl

abbrev two_pushes : Core
two_pushes = after (after a_alone (push_alone 1)) (push_alone 2)

-- what b holds, without both pushes, is accepted: it is generation 3, and a and c are to follow
b_is_accepted : replies two_pushes (up 1 ∷ up 2 ∷ accept 1 ∷ accepted 1 4 ∷ booked ∷ read ∷ [])
    ≡ reply.Done ∷ reply.Done ∷ reply.Leased 4 ∷ reply.Accepted (gen 3)
    ∷ books 3 (row 0 a (at 2) ∷ row 1 b (at 3) ∷ row 2 c (at 0) ∷ []) ∷ reply.Route b (gen 3) ∷ []
unfolding decision committed_hash is_lost
b_is_accepted = refl

planned_after_accepting : replies two_pushes (up 1 ∷ up 2 ∷ accept 1 ∷ accepted 1 4 ∷ reconcile ∷ [])
    ≡ reply.Done ∷ reply.Done ∷ reply.Leased 4 ∷ reply.Accepted (gen 3)
    ∷ reply.JobsAre (planned Update 1 (Some b) a ∷ planned Update 2 (Some b) c ∷ []) ∷ []
unfolding decision committed_hash is_lost
planned_after_accepting = refl
