-- Worked rows of pushes, by computation: what a list of operations answers.
use Rattle.std.proofs.Common.{map, ◌≡◌, List, [], ◌∷◌, None, Some, refl}
use Rattle.px_ops.specs.declared.op.Op.{Op}
use Rattle.px_ops.specs.declared.push.PushEnd.TheVariants as end
use Rattle.px_ops.specs.declared.refusal.Refusal.TheVariants as refusal
use Rattle.px_ops.specs.declared.reply.Reply.TheVariants as reply
use Rattle.voters.specs.Marks.{committed_hash, is_lost}
use Rattle.voters.specs.Votes.{decision}
use Rattle.px_cluster.specs.Core.{Core, empty, restarted}
use Rattle.px_cluster.specs.Ids.{gen, repo_id, storage_id}
use Rattle.px_cluster.specs.Members.{threshold_for}
use Rattle.px_cluster.proofs.Asking.{a, admit, after, at, b, begin, begun, booked, books, c, collect, committed, committed_1, committed_2, create, doubt, enrol, failed_1, finish, holder, open_1, open_2, prepared, read, refused, replies, row, settle, settled, tx, up, v, w, withdraw}

-- what decides beside 0 to 4 secondaries, where the primary weighs as much as all of them
thresholds : map threshold_for (0 ∷ 1 ∷ 2 ∷ 3 ∷ 4 ∷ []) ≡ 1 ∷ 2 ∷ 3 ∷ 5 ∷ 6 ∷ []
thresholds = refl

-- two storages are up; a repository is created on both, and its first push finds no quorum
first_push : replies empty
    (admit a ∷ admit b ∷ up 0 ∷ up 1 ∷ create ∷ begin ∷ enrol 0 1 ∷ enrol 1 1 ∷ begin ∷ begin ∷ holder
    ∷ prepared 1 a v ∷ withdraw 1 b ∷ finish 1 ∷ booked ∷ holder ∷ [])
    ≡ reply.Storage (storage_id 0) ∷ reply.Storage (storage_id 1) ∷ reply.Done ∷ reply.Done
    ∷ reply.Created (repo_id 0) 1 (a ∷ b ∷ []) ∷ refused (refusal.ReadOnly (gen 0) 0) ∷ reply.Done
    ∷ reply.Done ∷ begun 1 2 0 (a ∷ b ∷ []) [] ∷ refused (refusal.Turn (tx 1))
    ∷ reply.HolderIs (Some (tx 1)) ∷ open_1 ∷ reply.Done ∷ reply.Finished end.NoQuorum
    ∷ books 0 (row 0 a (at 0) ∷ row 1 b (at 0) ∷ []) ∷ reply.HolderIs None ∷ []
unfolding decision committed_hash is_lost
first_push = refl

-- two storages are up, and hold a new repository
abbrev pub two : Core
two = after empty
    (admit a ∷ admit b ∷ up 0 ∷ up 1 ∷ create ∷ enrol 0 1 ∷ enrol 1 1 ∷ [])

-- the push is decided: both are in doubt, and no read is routed; a confirms, b is withdrawn
abbrev pub doubtful : List Op
doubtful = begin ∷ prepared 1 a v ∷ prepared 1 b v ∷ booked ∷ read ∷ collect 1 a ∷ committed 1 a v
    ∷ read ∷ collect 1 b ∷ finish 1 ∷ withdraw 1 b ∷ finish 1 ∷ booked ∷ []

doubt_after_the_decision : replies two doubtful
    ≡ begun 1 2 0 (a ∷ b ∷ []) [] ∷ open_1 ∷ committed_1 v 2 2 2
    ∷ books 1 (row 0 a (doubt 2 0 1) ∷ row 1 b (doubt 2 0 1) ∷ []) ∷ refused (refusal.InFlight (tx 1))
    ∷ committed_1 v 2 2 2 ∷ open_2 ∷ reply.Route a (gen 1) ∷ committed_1 v 2 2 2
    ∷ refused refusal.StillOpen ∷ reply.Done ∷ reply.Finished (end.Unsure (gen 1))
    ∷ books 1 (row 0 a (at 1) ∷ row 1 b (doubt 2 0 1) ∷ []) ∷ []
unfolding decision committed_hash is_lost
doubt_after_the_decision = refl

-- the same, and b confirms too
both_confirm : replies two
    (begin ∷ prepared 1 a v ∷ prepared 1 b v ∷ committed 1 a v ∷ committed 1 b v ∷ finish 1 ∷ booked
    ∷ read ∷ read ∷ read ∷ [])
    ≡ begun 1 2 0 (a ∷ b ∷ []) [] ∷ open_1 ∷ committed_1 v 2 2 2 ∷ open_2 ∷ committed_2 v 2 2 2
    ∷ reply.Finished (end.Committed (gen 1)) ∷ books 1 (row 0 a (at 1) ∷ row 1 b (at 1) ∷ [])
    ∷ reply.Route a (gen 1) ∷ reply.Route b (gen 1) ∷ reply.Route a (gen 1) ∷ []
unfolding decision committed_hash is_lost
both_confirm = refl

-- ---- settling

abbrev pub after_doubt : Core
after_doubt = after two doubtful

-- b had committed under the lease of the doubt: it holds the push
b_had_committed : replies after_doubt (settle 1 ∷ settled 1 2 (Some 2) ∷ settled 1 3 (Some 2) ∷ [])
    ≡ reply.Leased 3 ∷ refused (refusal.LeaseLost 3 2) ∷ reply.BookedIs (at 1) ∷ []
unfolding decision committed_hash is_lost
b_had_committed = refl

-- both commits went unheard; only b had committed: a is back at 0, and reads go to b
only_b_had_committed : replies (after two (begin ∷ prepared 1 a v ∷ prepared 1 b v ∷ []))
    (withdraw 1 a ∷ finish 1 ∷ read ∷ settle 0 ∷ settled 0 3 None ∷ settle 1 ∷ settled 1 4 (Some 2)
    ∷ read ∷ [])
    ≡ reply.Done ∷ reply.Finished (end.Unsure (gen 1)) ∷ refused (refusal.NoCurrentReplica (gen 1) 0)
    ∷ reply.Leased 3 ∷ reply.BookedIs (at 0) ∷ reply.Leased 4 ∷ reply.BookedIs (at 1)
    ∷ reply.Route b (gen 1) ∷ []
unfolding decision committed_hash is_lost
only_b_had_committed = refl

-- ---- late voters: a and b decide, and c comes later

abbrev three : Core
three = after empty
    (admit a ∷ admit b ∷ admit c ∷ up 0 ∷ up 1 ∷ up 2 ∷ create ∷ enrol 0 1 ∷ enrol 1 1 ∷ enrol 2 1
    ∷ [])

-- for another hash: it fails, and its replica is as it was
late_for_another_hash : replies three
    (begin ∷ prepared 1 a v ∷ prepared 1 b v ∷ prepared 1 c w ∷ booked ∷ [])
    ≡ begun 1 2 0 (a ∷ b ∷ c ∷ []) [] ∷ open_1 ∷ committed_1 v 3 3 4 ∷ failed_1
    ∷ books 1 (row 0 a (doubt 2 0 1) ∷ row 1 b (doubt 2 0 1) ∷ row 2 c (at 0) ∷ []) ∷ []
unfolding decision committed_hash is_lost
late_for_another_hash = refl

-- for the decided one: it is in doubt from its own cast on
late_for_the_hash : replies three
    (begin ∷ prepared 1 a v ∷ prepared 1 b v ∷ booked ∷ prepared 1 c v ∷ booked ∷ [])
    ≡ begun 1 2 0 (a ∷ b ∷ c ∷ []) [] ∷ open_1 ∷ committed_1 v 3 3 4
    ∷ books 1 (row 0 a (doubt 2 0 1) ∷ row 1 b (doubt 2 0 1) ∷ row 2 c (at 0) ∷ [])
    ∷ committed_1 v 4 3 4
    ∷ books 1 (row 0 a (doubt 2 0 1) ∷ row 1 b (doubt 2 0 1) ∷ row 2 c (doubt 2 0 1) ∷ []) ∷ []
unfolding decision committed_hash is_lost
late_for_the_hash = refl

-- ---- a restart after the decision: the transaction is gone, what was booked stays

abbrev restarted_after_decision : Core
restarted_after_decision =
    restarted (after two (begin ∷ prepared 1 a v ∷ prepared 1 b v ∷ []))

restart_after_the_decision : replies restarted_after_decision
    (collect 1 a ∷ read ∷ up 0 ∷ up 1 ∷ booked ∷ holder ∷ [])
    ≡ refused (refusal.UnknownTx (tx 1)) ∷ refused (refusal.NoCurrentReplica (gen 1) 0) ∷ reply.Done
    ∷ reply.Done ∷ books 1 (row 0 a (doubt 2 0 1) ∷ row 1 b (doubt 2 0 1) ∷ [])
    ∷ reply.HolderIs None ∷ []
unfolding decision committed_hash is_lost
restart_after_the_decision = refl
