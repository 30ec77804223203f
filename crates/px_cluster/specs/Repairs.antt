-- What an operator does by hand: a replica in doubt is settled, and what a replica holds is accepted.
use Rattle.std.specs.Prelude.{ℕ, ◌+◌, ◌==◌, not, Bool, false, if◌then◌else◌, [], ◌∷◌, Option, None, Some}
use Rattle.px_ops.specs.declared.booking.Booking.{Booking}
use Rattle.px_ops.specs.declared.booking.Booking.TheVariants.{Absent, At, Doubt}
use Rattle.px_ops.specs.declared.refusal.Refusal.{Refusal}
use Rattle.px_ops.specs.declared.refusal.Refusal.TheVariants as refusal
use Rattle.px_cluster.specs.Book.{Replica, Repository, booked, booking_on, is_absent, is_in_doubt, is_in_doubt_under, kept_on, with_lease_for, with_replica_on}
use Rattle.px_cluster.specs.Core.{Core, turn_of, with_book_changed}
use Rattle.px_cluster.specs.Creating.{lease_lost, unknown_storage}
use Rattle.px_cluster.specs.Ids.{gen}
use Rattle.px_cluster.specs.Jobs.{without_running}
use Rattle.px_cluster.specs.Pushes.{turn_taken}
use Rattle.px_cluster.specs.Refusals.{cause, first_cause, generations_spent, leases_spent}

-- ---- a lease is drawn for the fence, and a running job of the repository and storage goes

abbrev pub with_fence_drawn : ℕ → ℕ → Core → Core
with_fence_drawn repo storage core =
    with_book_changed repo (with_lease_for storage) (without_running repo storage core)

abbrev pub accept_begin_refusal : Core → ℕ → Option Repository → ℕ → Option Refusal
accept_begin_refusal core repo None storage = Some refusal.UnknownRepo
accept_begin_refusal core repo (Some book) storage = first_cause (
    unknown_storage core book storage
    ∷ turn_taken (turn_of core repo)
    ∷ cause (is_absent (booking_on book storage)) refusal.NotBooked
    ∷ leases_spent book.last
    ∷ generations_spent book.newest ∷ [])

abbrev pub settle_begin_refusal : Core → ℕ → Option Repository → ℕ → Option Refusal
settle_begin_refusal core repo None storage = Some refusal.UnknownRepo
settle_begin_refusal core repo (Some book) storage = first_cause (
    unknown_storage core book storage
    ∷ turn_taken (turn_of core repo)
    ∷ cause (not (is_in_doubt (booking_on book storage))) refusal.NotInDoubt
    ∷ leases_spent book.last ∷ [])

-- ---- Accept

abbrev pub accept_refusal : Core → ℕ → Option Repository → ℕ → ℕ → Option Refusal
accept_refusal core repo None storage lease = Some refusal.UnknownRepo
accept_refusal core repo (Some book) storage lease = first_cause (
    unknown_storage core book storage
    ∷ turn_taken (turn_of core repo)
    ∷ lease_lost (kept_on book storage) lease
    ∷ cause (is_absent (booking_on book storage)) refusal.NotBooked
    ∷ generations_spent book.newest ∷ [])

-- newest rises, and what the replica holds is that generation
abbrev pub accepted : ℕ → Repository → Repository
accepted storage book = with_replica_on storage (booked (At (gen (book.newest + 1))))
    (record book { newest = book.newest + 1 })

abbrev pub with_accepted : ℕ → ℕ → Core → Core
with_accepted repo storage core =
    with_book_changed repo (accepted storage) (without_running repo storage core)

-- ---- Settle

-- the lease has to be the kept one, and another than that of the doubt itself, under which the node
-- may still commit
abbrev pub settle_refusal : Core → Option Repository → ℕ → ℕ → Option Refusal
settle_refusal core None storage lease = Some refusal.UnknownRepo
settle_refusal core (Some book) storage lease = first_cause (
    unknown_storage core book storage
    ∷ lease_lost (kept_on book storage) lease
    ∷ cause (is_in_doubt_under lease (booking_on book storage))
    (refusal.LeaseLost (kept_on book storage) lease)
    ∷ cause (not (is_in_doubt (booking_on book storage))) refusal.NotInDoubt ∷ [])

abbrev pub is_lease : ℕ → Option ℕ → Bool
is_lease lease None = false
is_lease lease (Some last) = last == lease

-- the replica has the generation that it was told to commit, where the last lease that its node
-- committed is that of the doubt, and else the one before
abbrev pub settled_as : Option ℕ → Booking → Booking
settled_as last Absent = Absent
settled_as last (At g) = At g
settled_as last (Doubt lease was due) = if is_lease lease last then At due else At was

abbrev pub settled : Option ℕ → Replica → Replica
settled last replica = booked (settled_as last replica.booking) replica

abbrev pub with_settled : ℕ → ℕ → Option ℕ → Core → Core
with_settled repo storage last core = with_book_changed repo
    (with_replica_on storage (settled last)) (without_running repo storage core)
