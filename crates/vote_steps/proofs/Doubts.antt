-- What is seen of a replica that is put in doubt.
use Rattle.std.proofs.Common.{◌≡◌, ℕ, Bool, true, false, if◌then◌else◌, Option, None, Some, refl, ◌∙◌, ap}
use Rattle.std.specs.Option.{option_map}
use Rattle.px_ops.specs.declared.booking.Booking.{Booking as BookedSo}
use Rattle.px_ops.specs.declared.booking.Booking.TheVariants as booking
use Rattle.txmanager.specs.Voting.{Voting}
use Rattle.px_cluster.specs.Book.{Replica, Repository, booked, booking_in, booking_on, generation, in_doubt, replica_on}
use Rattle.px_cluster.specs.Casts.{in_doubt_if_told, is_told}
use Rattle.px_cluster.specs.Core.{OpenPush}
use Rattle.px_cluster.specs.Ids.{gen}
use Rattle.replica_invariant.specs.Booking.{Absent, generation as seen_generation}
use Rattle.cluster_form.proofs.Lists.{if_kept}
use Rattle.cluster_history.specs.Seen.{seen_booking}
use Rattle.cluster_history.proofs.Books.{KeepsStorage, found_on}

-- ---- what is seen of a booking

-- what a booking holds at least
pub same_generation : (booked_ : BookedSo)
    → generation booked_ ≡ seen_generation (seen_booking booked_)
same_generation booking.Absent = refl
same_generation (booking.At held) = refl
same_generation (booking.Doubt lease was due) = refl

-- where one is seen, there is a replica
pub replica_there : (book : Repository) (storage : ℕ)
    → (seen_booking (booking_on book storage) ≡ Absent → ⊥)
    → (replica : Replica) × (replica_on book storage ≡ Some replica)
replica_there book storage booked_ = by (replica_on book storage) refl
  where
    by : (there : Option Replica) → replica_on book storage ≡ there
        → (replica : Replica) × (replica_on book storage ≡ Some replica)
    by None is = absurd (booked_ (ap (λ r. seen_booking (booking_in r)) is))
    by (Some replica) is = (replica, is)

-- ---- who is told is in doubt

module _ (push : OpenPush) (vote : Voting) (due : ℕ) where
  abbrev change : Replica → Replica
  change = in_doubt_if_told push vote due

  -- a replica stays on its storage
  pub keeps_storage : KeepsStorage change
  keeps_storage replica = if_kept (λ (r : Replica). r.storage) (is_told push vote replica.storage)
      (in_doubt push.lease due replica) replica refl

  module _ (book : Repository) (storage : ℕ) where
    -- a replica changes where its storage is told
    by_told : (replica : Replica) → replica_on book storage ≡ Some replica → (is_so : Bool)
        → is_told push vote storage ≡ is_so
        → change replica ≡ (if is_so then in_doubt push.lease due replica else replica)
    by_told replica is is_so told =
        ap (λ (b : Bool). if b then in_doubt push.lease due replica else replica)
        (ap (is_told push vote) (found_on storage book.replicas replica is) ∙ told)

    -- the replica of a storage that is told
    pub told_replica : (replica : Replica) → replica_on book storage ≡ Some replica
        → is_told push vote storage ≡ true
        → option_map change (replica_on book storage)
        ≡ Some (booked
        (booking.Doubt push.lease (gen (generation replica.booking)) (gen due)) replica)
    told_replica replica is told = ap (option_map change) is
        ∙ ap (λ (r : Replica). let o : Option Replica = Some r in o) (by_told replica is true told)

    -- .. and of one that is not
    pub untold_replica : is_told push vote storage ≡ false
        → option_map change (replica_on book storage) ≡ replica_on book storage
    untold_replica told = by (replica_on book storage) refl
      where
        by : (there : Option Replica) → replica_on book storage ≡ there
            → option_map change there ≡ there
        by None is = refl
        by (Some replica) is = ap (λ (r : Replica). let o : Option Replica = Some r in o)
            (by_told replica is false told)
