-- The members of a push that begins are assigned and at the newest generation, and there is one.
use Rattle.std.proofs.Common.{◌≡◌, ◌<◌, ◌==◌, ◌||◌, ℕ, not, List, [], ◌∷◌, Bool, true, false, Option, None, Some, refl, ◌∙◌, ap, subst, inl, inr, filter, find, length, map, arith}
use Rattle.std.specs.List.{AllByRecursion}
use Rattle.px_ops.specs.declared.booking.Booking.{Booking}
use Rattle.px_ops.specs.declared.booking.Booking.TheVariants as booking
use Rattle.px_cluster.specs.Book.{Replica, Repository, booking_on, is_assigned, is_assigned_in, is_at, is_newest, is_on, booking_in, replica_on}
use Rattle.px_cluster.specs.Core.{Core, is_current, is_up}
use Rattle.px_cluster.specs.Members.{hosts, is_host, led_by, members, primary_of}
use Rattle.px_cluster.specs.Numbers.{is_one_of}
use Rattle.cluster_form.specs.Books.{IsDense}
use Rattle.cluster_form.proofs.Lists.{bool, both_left, both_right, same_number, same_self}
use Rattle.cluster_form.proofs.OneOf.{kept_one}
use Rattle.cluster_form.proofs.PlannedJobs.{AreRising, storages_rise}
use Rattle.replica_invariant.specs.Booking.{At}
use Rattle.cluster_history.specs.Seen.{seen_booking}

-- ---- a replica that passes a test, by the number of its storage

-- where the storages of the replicas rise, the replica that is found on a storage passes it
found_passing : (test : Replica → Bool) (storage : ℕ) (replicas : List Replica)
    → AreRising (map (λ (r : Replica). r.storage) replicas)
    → is_one_of storage (map (λ (r : Replica). r.storage) (filter test replicas)) ≡ true
    → (replica : Replica) × (find (is_on storage) replicas ≡ Some replica) × (test replica ≡ true)
found_passing test storage [] rise is = absurd (let z : false ≡ true = is in cc)
found_passing test storage (r ∷ rs) rise is = elim (bool (test r)) [
  | inl holds ↦ elim (bool (r.storage == storage)) [
    | inl here ↦ (r, rw here refl, holds)
    | inr fails ↦ (let there : ((r.storage == storage)
        || is_one_of storage (map (λ (x : Replica). x.storage) (filter test rs))) ≡ true =
        rw holds at is in
        let rest = found_passing test storage rs rise.1 (rw fails at there) in
        (rest.0, rw fails rest.1, rest.2))
  ]
  | inr drops ↦ (let rest = found_passing test storage rs rise.1 (rw drops at is) in
      (rest.0, rw (before rest.0 rest.1) rest.1, rest.2))
]
  where
    -- the storage of the first is below those of all others
    before : (found : Replica) → find (is_on storage) rs ≡ Some found
        → (r.storage == storage) ≡ false
    before found there = elim (bool (r.storage == storage)) [
      | inl here ↦ absurd (let above = below rs rise.0 found there in
          let same = same_number r.storage storage here in omega (arith, above, same))
      | inr fails ↦ fails
    ]
      where
        below : (xs : List Replica)
            → AllByRecursion (λ later. r.storage < later) (map (λ (x : Replica). x.storage) xs)
            → (one : Replica) → find (is_on storage) xs ≡ Some one → r.storage < storage
        below [] all one is_ = absurd (let none : None ≡ Some one = is_ in cc)
        below (x ∷ xs) all one is_ = elim (bool (x.storage == storage)) [
          | inl here ↦ subst (λ n. r.storage < n) (same_number x.storage storage here) all.0
          | inr fails ↦ below xs all.1 one (rw fails at is_)
        ]

-- ---- who is a member

-- what stands in a part stands in the whole
one_of_part : (test : ℕ → Bool) (ns : List ℕ) (n : ℕ) → is_one_of n (filter test ns) ≡ true
    → is_one_of n ns ≡ true
one_of_part test [] n is = is
one_of_part test (x ∷ xs) n is = elim (bool (x == n)) [
  | inl here ↦ (rw here refl)
  | inr fails ↦ (rw fails (elim (bool (test x)) [
    | inl holds ↦ (let there : ((x == n) || is_one_of n (filter test xs)) ≡ true =
        rw holds at is in one_of_part test xs n (rw fails at there))
    | inr drops ↦ one_of_part test xs n (rw drops at is)
  ]))
]

-- each of those with the primary in front is one of those
one_of_led : (primary : Option ℕ) (ns : List ℕ) (n : ℕ)
    → ((leader : ℕ) → primary ≡ Some leader → is_one_of leader ns ≡ true)
    → is_one_of n (led_by primary ns) ≡ true → is_one_of n ns ≡ true
one_of_led None ns n leads is = absurd (let z : false ≡ true = is in cc)
one_of_led (Some leader) ns n leads is = elim (bool (leader == n)) [
  | inl here ↦ subst (λ m. is_one_of m ns ≡ true) (same_number leader n here) (leads leader refl)
  | inr fails ↦ one_of_part (λ m. not (m == leader)) ns n (rw fails at is)
]

-- a booking at a generation is seen so
seen_at : (generation : ℕ) (found : Booking) → is_at generation found ≡ true
    → seen_booking found ≡ At generation
seen_at generation booking.Absent is = absurd (let z : false ≡ true = is in cc)
seen_at generation (booking.At held) is = ap At (same_number held.0 generation is)
seen_at generation (booking.Doubt lease was due) is = absurd (let z : false ≡ true = is in cc)

-- some number is one of a list that is not empty
pub some_one : (ns : List ℕ) → (length ns == 0) ≡ false → (n : ℕ) × (is_one_of n ns ≡ true)
some_one [] some = absurd (let z : true ≡ false = some in cc)
some_one (n ∷ ns) some = (n, rw (same_self n) refl)

-- the replica of a member, as the book has it
pub record IsMember (book : Repository) (storage : ℕ) : Type 0 where
  pub replica : Replica
  pub there : replica_on book storage ≡ Some replica
  pub assigned : is_assigned book storage ≡ true
  pub current : seen_booking (booking_on book storage) ≡ At book.newest

module _ (core : Core) (book : Repository) (dense : IsDense core.storages book) where
  pub is_member : (storage : ℕ) → is_one_of storage (members core book) ≡ true
      → IsMember book storage
  is_member storage is =
      let host = one_of_led (primary_of core book) (hosts core book) storage
      (λ leader leads. kept_one (hosts core book) book.primary leader leads) is in
      let found = found_passing (is_host core book) storage book.replicas
      (storages_rise core.storages book dense) host in
      let r = found.0 in
      record {
        replica = r;
        there = found.1;
        assigned = ap is_assigned_in found.1
            ∙ both_left r.assigned (is_current core book r) found.2;
        current = ap (λ o. seen_booking (booking_in o)) found.1
            ∙ seen_at book.newest r.booking (both_right (is_up core r.storage) (is_newest book r)
            (both_right r.assigned (is_current core book r) found.2));
      }
