-- What a vote on a push books.
use Rattle.std.specs.Prelude.{ℕ, ◌+◌, ◌==◌, Bool, false, if◌then◌else◌, List, slice_get, Option, None, Some}
use Rattle.px_base.specs.Hash.{same_hash}
use Rattle.px_base.specs.declared.hash.Hash.{Hash}
use Rattle.px_base.specs.declared.ids.TxId.{TxId}
use Rattle.px_base.specs.declared.phase.Phase.{Phase}
use Rattle.px_base.specs.declared.phase.Phase.TheVariants.{Prepared, Committed}
use Rattle.px_ops.specs.declared.booking.Booking.{Booking}
use Rattle.px_ops.specs.declared.booking.Booking.TheVariants.{Absent, At, Doubt}
use Rattle.txmanager.specs.Registry.{with_transaction}
use Rattle.txmanager.specs.VoterCalls.{after_cast}
use Rattle.txmanager.specs.Voting.{Voting, number_of}
use Rattle.voters.specs.Results.{committed_in}
use Rattle.voters.specs.Votes.{Votes}
use Rattle.voters.specs.declared.outcome.Outcome.{Outcome}
use Rattle.voters.specs.declared.outcome.Outcome.TheVariants as outcome
use Rattle.px_cluster.specs.Book.{Replica, Repository, booked, in_doubt, with_replica_on, with_replicas}
use Rattle.px_cluster.specs.Core.{Core, OpenPush, push_of, voting, with_book_changed}
use Rattle.px_cluster.specs.Numbers.{place_in}
use Rattle.px_cluster.specs.Pushes.{prepared_outcome}

-- whether the voter's result is committed in the subtransaction, where there are both
abbrev pub is_committed_in : Option ℕ → Option Votes → Bool
is_committed_in None votes = false
is_committed_in (Some voter) None = false
is_committed_in (Some voter) (Some votes) = committed_in voter votes

-- the storage is told to commit: its result in the prepared phase is committed
abbrev pub is_told : OpenPush → Voting → ℕ → Bool
is_told push vote storage =
    is_committed_in (place_in push.members storage) (slice_get vote.subs 0)

-- the member that the voter of a number is, and that of a name
abbrev pub member_at : List ℕ → Option ℕ → Option ℕ
member_at members None = None
member_at members (Some voter) = slice_get members voter

abbrev pub member_named : OpenPush → Voting → List ℕ → Option ℕ
member_named push vote name = member_at push.members (number_of name vote)

-- ---- the vote on what is prepared

abbrev pub in_doubt_if_told : OpenPush → Voting → ℕ → Replica → Replica
in_doubt_if_told push vote due replica =
    if is_told push vote replica.storage then in_doubt push.lease due replica else replica

-- the cast that decides for a hash raises newest, and each storage that is told is in doubt from then
-- on, under the lease of the push
abbrev pub decided : OpenPush → Voting → Repository → Repository
decided push vote repo = with_replicas (in_doubt_if_told push vote (repo.newest + 1))
    (record repo { newest = repo.newest + 1 })

-- a cast that comes later puts its own storage in doubt, where that is told
abbrev pub came_late : OpenPush → Voting → Option ℕ → Repository → Repository
came_late push vote None repo = repo
came_late push vote (Some storage) repo =
    with_replica_on storage (in_doubt_if_told push vote repo.newest) repo

-- by the outcome before the cast and after it: it decides, it comes after the decision, or nothing is
-- decided for a hash
abbrev pub booked_by_outcomes : OpenPush → Voting → Option ℕ → Outcome → Outcome → Repository
    → Repository
booked_by_outcomes push vote storage outcome.Open (outcome.Commit hash) = decided push vote
booked_by_outcomes push vote storage (outcome.Commit before) now = came_late push vote storage
booked_by_outcomes push vote storage before now = λ repo. repo

-- ---- the vote on what is committed

-- the replica has the generation that it was told to commit, where that was under this lease
abbrev pub confirmed_as : ℕ → Booking → Booking
confirmed_as lease Absent = Absent
confirmed_as lease (At g) = At g
confirmed_as lease (Doubt under was due) = if under == lease then At due else Doubt under was due

abbrev pub confirmed : ℕ → Replica → Replica
confirmed lease replica = booked (confirmed_as lease replica.booking) replica

abbrev pub confirmed_on : OpenPush → Option ℕ → Repository → Repository
confirmed_on push None repo = repo
confirmed_on push (Some storage) repo = with_replica_on storage (confirmed push.lease) repo

-- a cast of the decided hash books its storage, whatever the outcome of this phase
abbrev pub booked_by_commit : OpenPush → Option ℕ → Hash → Outcome → Repository → Repository
booked_by_commit push storage hash (outcome.Commit decided_) =
    if same_hash decided_ hash then confirmed_on push storage else (λ repo. repo)
booked_by_commit push storage hash other = λ repo. repo

-- ---- a cast

-- what a cast books, by the transaction before it and after it
abbrev pub booked_by : OpenPush → List ℕ → Phase → Hash → Voting → Voting → Repository → Repository
booked_by push name Prepared hash old new = booked_by_outcomes push new
    (member_named push old name) (prepared_outcome old) (prepared_outcome new)
booked_by push name Committed hash old new =
    booked_by_commit push (member_named push old name) hash (prepared_outcome old)

-- for a transaction that is no push nothing is booked
abbrev pub with_cast_booked : Option OpenPush → List ℕ → Phase → Hash → Voting → Voting → Core → Core
with_cast_booked None name phase hash old new core = core
with_cast_booked (Some push) name phase hash old new core =
    with_book_changed push.repo (booked_by push name phase hash old new) core

-- the vote is counted, and booked
abbrev pub cast_on : TxId → List ℕ → Phase → Hash → Option Voting → Core → Core
cast_on tx name phase hash None core = core
cast_on tx name phase hash (Some old) core =
    let new = after_cast name phase hash old in
    with_cast_booked (push_of core tx) name phase hash old new
    (record core { transactions = with_transaction core.transactions tx (Some new) })

abbrev pub with_cast : TxId → List ℕ → Phase → Hash → Core → Core
with_cast tx name phase hash core = cast_on tx name phase hash (voting core tx) core
