-- How a push begins, and how it ends.
use Rattle.std.specs.Prelude.{ℕ, ◌+◌, ◌==◌, ◌&&◌, ◌||◌, not, Bool, true, false, if◌then◌else◌, [], ◌∷◌, ◌++◌, filter, length, Option, None, Some}
use Rattle.px_base.specs.Hash.{same_hash}
use Rattle.px_base.specs.declared.ids.TxId.{TxId}
use Rattle.px_ops.specs.declared.refusal.Refusal.{Refusal}
use Rattle.px_ops.specs.declared.refusal.Refusal.TheVariants as refusal
use Rattle.px_ops.specs.declared.push.PushEnd.{PushEnd}
use Rattle.px_ops.specs.declared.push.PushEnd.TheVariants as end
use Rattle.px_ops.specs.declared.reply.Reply.{Reply}
use Rattle.px_ops.specs.declared.reply.Reply.TheVariants as reply
use Rattle.txmanager.specs.Readings.{outcome_in}
use Rattle.txmanager.specs.Registry.{with_registered, without_transaction}
use Rattle.txmanager.specs.Voting.{Voting, voting_on}
use Rattle.voters.specs.declared.outcome.Outcome.{Outcome}
use Rattle.voters.specs.declared.outcome.Outcome.TheVariants as outcome
use Rattle.px_cluster.specs.Book.{Replica, Repository, drawn_for, is_newest, storages_where, with_replicas}
use Rattle.px_cluster.specs.Core.{Core, OpenPush, names_of, turn_of, with_repository}
use Rattle.px_cluster.specs.Ids.{gen}
use Rattle.px_cluster.specs.Members.{hosts, members, panel_of, targets}
use Rattle.px_cluster.specs.Numbers.{first_of, is_one_of}
use Rattle.px_cluster.specs.Refusals.{cause, first_cause, generations_spent, leases_spent, transactions_spent}

-- ---- Begin

-- another push has the turn of the repository
abbrev pub turn_taken : Option OpenPush → Option Refusal
turn_taken None = None
turn_taken (Some push) = Some (refusal.Turn push.tx)

-- how many replicas are at the newest generation, on healthy storages or not
abbrev pub count_newest : Repository → ℕ
count_newest repo = length (storages_where (is_newest repo) repo)

abbrev pub read_only : Core → Repository → Option Refusal
read_only core repo = cause (length (hosts core repo) == 0)
    (refusal.ReadOnly (gen repo.newest) (count_newest repo))

abbrev pub begin_refusal : Core → ℕ → Option Repository → Option Refusal
begin_refusal core repo None = Some refusal.UnknownRepo
begin_refusal core repo (Some book) = first_cause (
    turn_taken (turn_of core repo)
    ∷ read_only core book
    ∷ leases_spent book.last
    ∷ generations_spent book.newest
    ∷ transactions_spent core.last_tx ∷ [])

abbrev pub next_tx : Core → TxId
next_tx core = record { 0 = core.last_tx + 1 }

-- the push that begins
abbrev pub beginning : Core → ℕ → Repository → OpenPush
beginning core repo book = record {
  tx = next_tx core;
  repo = repo;
  lease = book.last + 1;
  begun = book.newest;
  members = members core book;
  canceled = false;
  stopped = false;
}

abbrev pub drawn_if_member : OpenPush → Replica → Replica
drawn_if_member push replica =
    if is_one_of replica.storage push.members then drawn_for push.lease replica else replica

-- one lease is drawn for all members, and the primary is kept
abbrev pub drawn_for_members : OpenPush → Repository → Repository
drawn_for_members push book = with_replicas (drawn_if_member push)
    (record book { last = push.lease; primary = first_of push.members })

-- the push has the turn, and a transaction of one round
abbrev pub with_begun : OpenPush → Repository → Core → Core
with_begun push book core =
    record (with_repository push.repo (drawn_for_members push book) core) {
      last_tx = push.tx.0;
      transactions = with_registered core.transactions push.tx
          (voting_on (panel_of core push.members) 1);
      pushes = core.pushes ++ push ∷ [];
    }

abbrev pub begun_at : ℕ → Option Repository → Core → Core
begun_at repo None core = core
begun_at repo (Some book) core = with_begun (beginning core repo book) book core

abbrev pub begun_reply : Core → OpenPush → Repository → Reply
begun_reply core push book = reply.Begun (record {
  tx = push.tx;
  lease = push.lease;
  generation = gen push.begun;
  members = names_of core push.members;
  targets = names_of core (targets core book);
})

-- ---- Finish

-- the outcome of a subtransaction, counted from 0
abbrev pub outcome_or_open : Option Outcome → Outcome
outcome_or_open None = outcome.Open
outcome_or_open (Some o) = o

-- a push has one round: the vote on what is prepared, and that on what is committed
abbrev pub prepared_outcome : Voting → Outcome
prepared_outcome vote = outcome_or_open (outcome_in 0 vote.subs)

abbrev pub committed_outcome : Voting → Outcome
committed_outcome vote = outcome_or_open (outcome_in 1 vote.subs)

abbrev pub is_open : Outcome → Bool
is_open outcome.Open = true
is_open (outcome.Commit hash) = false
is_open outcome.Fail = false
is_open outcome.Stop = false

abbrev pub is_commit : Outcome → Bool
is_commit outcome.Open = false
is_commit (outcome.Commit hash) = true
is_commit outcome.Fail = false
is_commit outcome.Stop = false

-- the first phase is open, or it commits and the second is open
abbrev pub is_still_open : Voting → Bool
is_still_open vote = is_open (prepared_outcome vote)
    || (is_commit (prepared_outcome vote) && is_open (committed_outcome vote))

abbrev pub finish_refusal : TxId → Option Voting → Option OpenPush → Option Refusal
finish_refusal tx None push = Some (refusal.UnknownTx tx)
finish_refusal tx (Some vote) None = Some refusal.NotAPush
finish_refusal tx (Some vote) (Some push) = cause (is_still_open vote) refusal.StillOpen

-- both commit one hash
abbrev pub commit_one : Outcome → Outcome → Bool
commit_one (outcome.Commit hash) (outcome.Commit other) = same_hash hash other
commit_one (outcome.Commit hash) other = false
commit_one outcome.Open other = false
commit_one outcome.Fail other = false
commit_one outcome.Stop other = false

-- the first of these that holds
abbrev pub end_of : Voting → OpenPush → PushEnd
end_of vote push =
    if commit_one (prepared_outcome vote) (committed_outcome vote)
    then end.Committed (gen (push.begun + 1))
    else if is_commit (prepared_outcome vote) then end.Unsure (gen (push.begun + 1))
    else if push.stopped then end.Stopped
    else if push.canceled then end.Canceled
    else end.NoQuorum

abbrev pub finish_reply : Option Voting → Option OpenPush → Reply
finish_reply None push = reply.Done
finish_reply (Some vote) None = reply.Done
finish_reply (Some vote) (Some push) = reply.Finished (end_of vote push)

-- the transaction goes, and the turn is free
abbrev pub ended : TxId → Core → Core
ended tx core = record core {
  transactions = without_transaction core.transactions tx;
  pushes = filter (λ (push : OpenPush). not (push.tx.0 == tx.0)) core.pushes;
}
