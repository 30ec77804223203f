-- What is asked before a replica is accepted or settled by hand, and what is booked of it after.
use Rattle.std.specs.Prelude.{◌≡◌, ℕ, ◌+◌, [], ◌∷◌, IfSome, IsSome, Option, None, Some}
use Rattle.px_ops.specs.declared.booking.Booking.{Booking}
use Rattle.px_ops.specs.declared.booking.Booking.TheVariants.{Absent}
use Rattle.px_ops.specs.declared.refusal.Refusal.{Refusal}
use Rattle.px_cluster.specs.Book.{Repository, booking_on}
use Rattle.px_cluster.specs.Core.{Core, repository, turn_of}
use Rattle.px_cluster.specs.Pushes.{turn_taken}
use Rattle.px_cluster.specs.Refusals.{first_cause}
use Rattle.genbook.specs.Books.{place_refusal}

-- there is no such repository, it can have no replica on that storage, or a push has its turn
abbrev pub free_refusal : Core → ℕ → Option Repository → ℕ → Option Refusal
free_refusal core repo there storage = first_cause (
    place_refusal core there storage
    ∷ turn_taken (turn_of core repo) ∷ [])

-- the lease that is drawn next for a repository, where nothing refuses that
abbrev pub IsNextLease : Core → ℕ → Option Refusal → Option ℕ → Type 0
IsNextLease core repo refusal None = IsSome refusal
IsNextLease core repo refusal (Some lease) = (refusal ≡ None)
    × IfSome (repository core repo) (λ (book : Repository). lease ≡ book.last + 1)

-- what is booked of the replica on a storage
abbrev pub booking_at : Option Repository → ℕ → Booking
booking_at None storage = Absent
booking_at (Some book) storage = booking_on book storage
