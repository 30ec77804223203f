-- Which replicas are at the newest generation, as the argument over one repository sees them.
use Rattle.std.proofs.Common.{◌≡◌, ◌==◌, ◌&&◌, ◌||◌, ◌<◌, ℕ, not, List, [], ◌∷◌, Bool, true, false, Option, None, Some, refl, ◌∙◌, ap, subst, inl, inr, find, filter, map, arith}
use Rattle.std.specs.List.{AllByRecursion, list_all}
use Rattle.px_ops.specs.declared.booking.Booking.{Booking as BookedSo}
use Rattle.px_ops.specs.declared.booking.Booking.TheVariants as booked
use Rattle.px_cluster.specs.Book.{Replica, Repository, Storage, booking_in, booking_on, is_assigned, is_assigned_in, is_at, is_newest, is_on, replica_on}
use Rattle.px_cluster.specs.Core.{Core, is_current, is_up}
use Rattle.px_cluster.specs.Jobs.{are_assigned_newest, sources_for}
use Rattle.px_cluster.specs.Numbers.{is_one_of}
use Rattle.replica_invariant.specs.Booking.{At}
use Rattle.cluster_form.specs.Books.{IsDense}
use Rattle.cluster_form.proofs.Lists.{bool, both_left, both_right, choose, other_number, same_number, same_self, some_is}
use Rattle.cluster_form.proofs.OneOf.{one_has}
use Rattle.cluster_form.proofs.PlannedJobs.{AreRising, storages_rise}
use Rattle.cluster_history.specs.Seen.{seen_booking}

-- ---- bookings

-- a booking at a generation is seen so
seen_at : (n : ℕ) (booking : BookedSo) → is_at n booking ≡ true → seen_booking booking ≡ At n
seen_at n booked.Absent is = absurd (let z : false ≡ true = is in cc)
seen_at n (booked.At held) is = ap At (same_number held.0 n is)
seen_at n (booked.Doubt lease was due) is = absurd (let z : false ≡ true = is in cc)

-- and another one is not
pub not_seen_at : (n : ℕ) (booking : BookedSo) → is_at n booking ≡ false
    → seen_booking booking ≡ At n → ⊥
not_seen_at n booked.Absent fails is = cc
not_seen_at n (booked.At held) fails is =
    other_number held.0 n fails (let z : At held.0 ≡ At n = is in cc)
not_seen_at n (booked.Doubt lease was due) fails is = cc

-- ---- the replica on each storage

-- the replica is the one on its storage
abbrev pub IsFound : List Replica → Replica → Type 0
IsFound replicas replica = find (is_on replica.storage) replicas ≡ Some replica

-- where storages rise, each is
all_on : (replicas : List Replica) → AreRising (map (λ (r : Replica). r.storage) replicas)
    → AllByRecursion (IsFound replicas) replicas
all_on [] rise = tt
all_on (first ∷ rest) rise =
    (rw (same_self first.storage) refl, later rest rise.0 (all_on rest rise.1))
  where
    below : (n : ℕ) → first.storage < n → (first.storage == n) ≡ false
    below n less = elim (bool (first.storage == n)) [
      | inl holds ↦ absurd (
          let same = same_number first.storage n holds in omega (arith, less, same))
      | inr fails ↦ fails
    ]

    later : (more : List Replica)
        → AllByRecursion (λ n. first.storage < n) (map (λ (r : Replica). r.storage) more)
        → AllByRecursion (IsFound rest) more → AllByRecursion (IsFound (first ∷ rest)) more
    later [] above found = tt
    later (r ∷ rs) above found =
        ((rw (below r.storage above.0) found.0), later rs above.1 found.1)

-- so each of a dense book is
pub each_on : (storages : List Storage) (book : Repository) → IsDense storages book
    → AllByRecursion (IsFound book.replicas) book.replicas
each_on storages book dense = all_on book.replicas (storages_rise storages book dense)

-- ---- sources

-- what is true of each replica that passes a test is true of their storages
pub all_filtered : (P : Replica → Type 0) (Q : ℕ → Type 0) (test : Replica → Bool)
    → ((r : Replica) → P r → test r ≡ true → Q r.storage) → (replicas : List Replica)
    → AllByRecursion P replicas
    → AllByRecursion Q (map (λ (r : Replica). r.storage) (filter test replicas))
all_filtered P Q test on [] all = tt
all_filtered P Q test on (r ∷ rs) all =
    choose (λ (xs : List Replica). AllByRecursion Q (map (λ (x : Replica). x.storage) xs)) (test r)
    (r ∷ filter test rs) (filter test rs)
    (λ holds. (on r all.0 holds, all_filtered P Q test on rs all.1))
    (λ fails. all_filtered P Q test on rs all.1)

-- a source is at the newest generation
pub source_newest : (core : Core) (book : Repository) → IsDense core.storages book
    → (target source : ℕ) → is_one_of source (sources_for core book target) ≡ true
    → seen_booking (booking_on book source) ≡ At book.newest
source_newest core book dense target source is = one_has
    (λ storage. seen_booking (booking_on book storage) ≡ At book.newest)
    (sources_for core book target) source
    (all_filtered (IsFound book.replicas) _
    (λ (r : Replica). is_current core book r && not (r.storage == target))
    (λ r found passes. ap (λ (o : Option Replica). seen_booking (booking_in o)) found
    ∙ seen_at book.newest r.booking (both_right (is_up core r.storage) (is_newest book r)
    (both_left (is_current core book r) (not (r.storage == target)) passes)))
    book.replicas (each_on core.storages book dense)) is

-- ---- each assigned replica

-- what all pass, the one that is found passes
found_passes : (test other : Replica → Bool) (replicas : List Replica) (replica : Replica)
    → list_all test replicas ≡ true → find other replicas ≡ Some replica → test replica ≡ true
found_passes test other [] replica all is = absurd (let z : None ≡ Some replica = is in cc)
found_passes test other (r ∷ rs) replica all is = elim (bool (other r)) [
  | inl holds ↦ (subst (λ x. test x ≡ true) (some_is r replica (rw holds at is))
      (both_left (test r) (list_all test rs) all))
  | inr fails ↦ found_passes test other rs replica (both_right (test r) (list_all test rs) all)
      (rw fails at is)
]

-- an assigned replica is at the newest generation, where all are
pub assigned_newest : (book : Repository) → are_assigned_newest book ≡ true → (storage : ℕ)
    → is_assigned book storage ≡ true → seen_booking (booking_on book storage) ≡ At book.newest
assigned_newest book all storage is = by (replica_on book storage) refl is
  where
    by : (there : Option Replica) → replica_on book storage ≡ there → is_assigned_in there ≡ true
        → seen_booking (booking_in there) ≡ At book.newest
    by None at assigned = absurd (let z : false ≡ true = assigned in cc)
    by (Some r) at assigned = seen_at book.newest r.booking (
        let passes : (not r.assigned || is_newest book r) ≡ true =
        found_passes (λ (x : Replica). not x.assigned || is_newest book x) (is_on storage)
        book.replicas r all at in
        rw assigned at passes)
