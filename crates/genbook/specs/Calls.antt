-- Why a call on one repository is refused, where the repository and the storage are on the book.
use Rattle.std.specs.Prelude.{ℕ, ◌==◌, not, [], ◌∷◌, Option}
use Rattle.px_ops.specs.declared.refusal.Refusal.{Refusal}
use Rattle.px_ops.specs.declared.refusal.Refusal.TheVariants as refusal
use Rattle.px_cluster.specs.Book.{Repository, booking_on, is_absent, is_in_doubt, is_in_doubt_under, kept_on}
use Rattle.px_cluster.specs.Creating.{lease_lost}
use Rattle.px_cluster.specs.Refusals.{cause, first_cause, generations_spent, leases_spent}

-- the replica was not made, or not under this lease
abbrev pub enrol_cause : Repository → ℕ → ℕ → Option Refusal
enrol_cause repo storage lease = first_cause (
    lease_lost (kept_on repo storage) lease
    ∷ cause (not (repo.creation == lease)) refusal.NotMaking ∷ [])

-- what the replica holds cannot be a new generation
abbrev pub accept_cause : Repository → ℕ → ℕ → Option Refusal
accept_cause repo storage lease = first_cause (
    lease_lost (kept_on repo storage) lease
    ∷ cause (is_absent (booking_on repo storage)) refusal.NotBooked
    ∷ generations_spent repo.newest ∷ [])

-- the replica is in no doubt, or in one under this lease, under which the node may still commit
abbrev pub doubt_cause : Repository → ℕ → ℕ → Option Refusal
doubt_cause repo storage lease = first_cause (
    cause (is_in_doubt_under lease (booking_on repo storage))
    (refusal.LeaseLost (kept_on repo storage) lease)
    ∷ cause (not (is_in_doubt (booking_on repo storage))) refusal.NotInDoubt ∷ [])

-- there is no doubt that ends, or not under this lease
abbrev pub settle_cause : Repository → ℕ → ℕ → Option Refusal
settle_cause repo storage lease = first_cause (
    lease_lost (kept_on repo storage) lease
    ∷ cause (is_in_doubt_under lease (booking_on repo storage))
    (refusal.LeaseLost (kept_on repo storage) lease)
    ∷ cause (not (is_in_doubt (booking_on repo storage))) refusal.NotInDoubt ∷ [])

-- no lease can be drawn for a replica that is to be accepted
abbrev pub accept_draw_cause : Repository → ℕ → Option Refusal
accept_draw_cause repo storage = first_cause (
    cause (is_absent (booking_on repo storage)) refusal.NotBooked
    ∷ leases_spent repo.last
    ∷ generations_spent repo.newest ∷ [])

-- no lease can be drawn for a replica that is to be settled
abbrev pub settle_draw_cause : Repository → ℕ → Option Refusal
settle_draw_cause repo storage = first_cause (
    cause (not (is_in_doubt (booking_on repo storage))) refusal.NotInDoubt
    ∷ leases_spent repo.last ∷ [])
