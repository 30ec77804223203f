-- Operations and answers by plain numbers, for the worked rows, and what a list of operations
-- answers.
use Rattle.std.proofs.Common.{ℕ, Bool, true, false, List, [], ◌∷◌, Option, None, Some}
use Rattle.px_base.specs.declared.hash.Hash.{Hash}
use Rattle.px_base.specs.declared.ids.TxId.{TxId}
use Rattle.px_base.specs.declared.phase.Phase.TheVariants.{Prepared, Committed}
use Rattle.px_ops.specs.declared.booking.BookRow.{BookRow}
use Rattle.px_ops.specs.declared.booking.Booking.{Booking}
use Rattle.px_ops.specs.declared.booking.Booking.TheVariants.{At, Doubt}
use Rattle.px_ops.specs.declared.job.JobKind.{JobKind}
use Rattle.px_ops.specs.declared.job.JobKind.TheVariants.{Update, Delete}
use Rattle.px_ops.specs.declared.job.PlannedJob.{PlannedJob}
use Rattle.px_ops.specs.declared.op.Op.{Op}
use Rattle.px_ops.specs.declared.op.Op.TheVariants as op
use Rattle.px_ops.specs.declared.refusal.Refusal.{Refusal}
use Rattle.px_ops.specs.declared.reply.Reply.{Reply}
use Rattle.px_ops.specs.declared.reply.Reply.TheVariants as reply
use Rattle.voters.specs.Verdict.{standing_with}
use Rattle.voters.specs.declared.voter_result.VoterResult.TheVariants as result
use Rattle.px_cluster.specs.Core.{Core}
use Rattle.px_cluster.specs.Ids.{gen, job_id, repo_id, storage_id}
use Rattle.px_cluster.specs.Ops.{next_core, reply_of}

-- what a list of operations leaves, and what it answers
abbrev pub after : Core → List Op → Core
after core [] = core
after core (asked ∷ ops) = after (next_core core asked) ops

abbrev pub replies : Core → List Op → List Reply
replies core [] = []
replies core (asked ∷ ops) = reply_of core asked ∷ replies (next_core core asked) ops

-- ---- names: a virtual storage d with storages a, b and c, and the path x

abbrev pub d : List ℕ
d = 100 ∷ []

abbrev pub a : List ℕ
a = 97 ∷ []

abbrev pub b : List ℕ
b = 98 ∷ []

abbrev pub c : List ℕ
c = 99 ∷ []

abbrev pub x : List ℕ
x = 120 ∷ []

-- stand-ins for the votes of two pushes
abbrev pub v : Hash
v = record { 0 = 17 ∷ [] }

abbrev pub w : Hash
w = record { 0 = 34 ∷ [] }

abbrev pub tx : ℕ → TxId
tx number = record { 0 = number }

-- ---- operations

abbrev pub admit : List ℕ → Op
admit name = op.Admit d name

abbrev pub up : ℕ → Op
up storage = op.Health (storage_id storage) true

abbrev pub down : ℕ → Op
down storage = op.Health (storage_id storage) false

abbrev pub create : Op
create = op.Create d x 0

abbrev pub enrol : ℕ → ℕ → Op
enrol storage lease = op.Enrol (repo_id 0) (storage_id storage) lease

abbrev pub begin : Op
begin = op.Begin (repo_id 0)

abbrev pub prepared : ℕ → List ℕ → Hash → Op
prepared number name hash = op.Cast (tx number) name Prepared hash

abbrev pub committed : ℕ → List ℕ → Hash → Op
committed number name hash = op.Cast (tx number) name Committed hash

abbrev pub collect : ℕ → List ℕ → Op
collect number name = op.Collect (tx number) name 1

abbrev pub withdraw : ℕ → List ℕ → Op
withdraw number name = op.Withdraw (tx number) name

abbrev pub finish : ℕ → Op
finish number = op.Finish (tx number)

abbrev pub booked : Op
booked = op.Booked (repo_id 0)

abbrev pub read : Op
read = op.RouteRead (repo_id 0)

abbrev pub holder : Op
holder = op.Holder (repo_id 0)

abbrev pub reconcile : Op
reconcile = op.Reconcile None

abbrev pub take : ℕ → ℕ → Op
take storage now = op.Dequeue (storage_id storage) now

abbrev pub done : ℕ → ℕ → Op
done job lease = op.Ack (job_id job) lease true

abbrev pub fail : ℕ → ℕ → Op
fail job lease = op.Ack (job_id job) lease false

abbrev pub stale : ℕ → ℕ → Op
stale now span = op.Stale now span

abbrev pub factor : ℕ → Op
factor count = op.SetFactor (repo_id 0) count

abbrev pub settle : ℕ → Op
settle storage = op.SettleBegin (repo_id 0) (storage_id storage)

abbrev pub settled : ℕ → ℕ → Option ℕ → Op
settled storage lease last = op.Settle (repo_id 0) (storage_id storage) lease last

abbrev pub accept : ℕ → Op
accept storage = op.AcceptBegin (repo_id 0) (storage_id storage)

abbrev pub accepted : ℕ → ℕ → Op
accepted storage lease = op.Accept (repo_id 0) (storage_id storage) lease

-- ---- answers

abbrev pub refused : Refusal → Reply
refused why = reply.Refused why

-- a vote of the prepared phase came to nothing yet; to a commit with this weight; to a failure
abbrev pub open_1 : Reply
open_1 = reply.Counted 1 result.Open

abbrev pub committed_1 : Hash → ℕ → ℕ → ℕ → Reply
committed_1 hash reached threshold total =
    reply.Counted 1 (result.Committed (standing_with hash reached threshold total))

abbrev pub failed_1 : Reply
failed_1 = reply.Counted 1 result.Failed

-- the same of the committed phase
abbrev pub open_2 : Reply
open_2 = reply.Counted 2 result.Open

abbrev pub committed_2 : Hash → ℕ → ℕ → ℕ → Reply
committed_2 hash reached threshold total =
    reply.Counted 2 (result.Committed (standing_with hash reached threshold total))

abbrev pub begun : ℕ → ℕ → ℕ → List (List ℕ) → List (List ℕ) → Reply
begun number lease generation members targets = reply.Begun (record {
  tx = tx number;
  lease = lease;
  generation = gen generation;
  members = members;
  targets = targets;
})

abbrev pub at : ℕ → Booking
at generation = At (gen generation)

abbrev pub doubt : ℕ → ℕ → ℕ → Booking
doubt lease was due = Doubt lease (gen was) (gen due)

-- a row of Books
abbrev pub row_with : ℕ → List ℕ → Bool → Bool → Booking → BookRow
row_with storage name assigned healthy booking = record {
  storage = storage_id storage;
  name = name;
  assigned = assigned;
  healthy = healthy;
  booking = booking;
}

-- a row of an assigned storage that is up
abbrev pub row : ℕ → List ℕ → Booking → BookRow
row storage name booking = row_with storage name true true booking

abbrev pub books : ℕ → List BookRow → Reply
books newest rows = reply.Books (gen newest) rows

-- a job of the repository as it is planned
abbrev pub planned : JobKind → ℕ → Option (List ℕ) → List ℕ → PlannedJob
planned kind job source target = record {
  job = job_id job;
  kind = kind;
  repo = repo_id 0;
  target = target;
  source = source;
}

abbrev pub updates : ℕ → List ℕ → List ℕ → Reply
updates job source target = reply.JobsAre (planned Update job (Some source) target ∷ [])

abbrev pub deletes : ℕ → List ℕ → Reply
deletes job target = reply.JobsAre (planned Delete job None target ∷ [])

-- and as it is taken
abbrev pub taken : JobKind → ℕ → Option (List ℕ) → List ℕ → ℕ → ℕ → Reply
taken kind job source target generation lease = reply.Taken (record {
  job = job_id job;
  kind = kind;
  repo = repo_id 0;
  target = target;
  source = source;
  generation = gen generation;
  lease = lease;
})
