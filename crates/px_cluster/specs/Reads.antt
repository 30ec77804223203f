-- Where a read goes, and what the book tells of a repository.
use Rattle.std.specs.Prelude.{ℕ, ◌+◌, ◌^◌, ◌%◌, ◌==◌, ◌&&◌, Bool, false, if◌then◌else◌, List, length, map, set, slice_get, unwrap_or, Option, None, Some}
use Rattle.px_ops.specs.declared.booking.BookRow.{BookRow}
use Rattle.px_ops.specs.declared.refusal.Refusal.{Refusal}
use Rattle.px_ops.specs.declared.refusal.Refusal.TheVariants as refusal
use Rattle.px_ops.specs.declared.reply.Reply.{Reply}
use Rattle.px_ops.specs.declared.reply.Reply.TheVariants as reply
use Rattle.txmanager.specs.Voting.{Voting}
use Rattle.px_cluster.specs.Book.{Replica, Repository, storages_where}
use Rattle.px_cluster.specs.Core.{Core, OpenPush, is_current, is_up, name_of, turn_of, voting}
use Rattle.px_cluster.specs.Ids.{gen, storage_id}
use Rattle.px_cluster.specs.Pushes.{count_newest, is_commit, prepared_outcome}
use Rattle.px_cluster.specs.Refusals.{cause}

-- ---- RouteRead

-- the storages that may answer a read: healthy, and at the newest generation
abbrev pub current : Core → Repository → List ℕ
current core repo = storages_where (is_current core repo) repo

abbrev pub is_decided : Option Voting → Bool
is_decided None = false
is_decided (Some vote) = is_commit (prepared_outcome vote)

-- there is none: the open push is decided and no replica is known to have it yet, or no healthy
-- storage has a copy
abbrev pub no_route : Core → Repository → Option OpenPush → Refusal
no_route core repo None = refusal.NoCurrentReplica (gen repo.newest) (count_newest repo)
no_route core repo (Some push) =
    if is_decided (voting core push.tx) && (count_newest repo == 0) then refusal.InFlight push.tx
    else refusal.NoCurrentReplica (gen repo.newest) (count_newest repo)

abbrev pub read_refusal : Core → ℕ → Option Repository → Option Refusal
read_refusal core repo None = Some refusal.UnknownRepo
read_refusal core repo (Some book) =
    cause (length (current core book) == 0) (no_route core book (turn_of core repo))

-- how many reads of the repository were routed
abbrev pub reads_of : Core → ℕ → ℕ
reads_of core repo = unwrap_or (slice_get core.reads repo) 0

-- reads go to the current storages in turn
abbrev pub routed_to : Core → ℕ → Repository → ℕ
routed_to core repo book = unwrap_or
    (slice_get (current core book) (reads_of core repo % length (current core book))) 0

abbrev pub read_reply : Core → ℕ → Repository → Reply
read_reply core repo book =
    reply.Route (name_of core (routed_to core repo book)) (gen book.newest)

-- the count rises, and begins again after 2^64 - 1
abbrev pub with_read : ℕ → Core → Core
with_read repo core =
    record core { reads = set core.reads repo ((reads_of core repo + 1) % 2 ^ 64) }

-- ---- Booked

abbrev pub row_of : Core → Replica → BookRow
row_of core replica = record {
  storage = storage_id replica.storage;
  name = name_of core replica.storage;
  assigned = replica.assigned;
  healthy = is_up core replica.storage;
  booking = replica.booking;
}

abbrev pub booked_reply : Core → Repository → Reply
booked_reply core repo = reply.Books (gen repo.newest) (map (row_of core) repo.replicas)
