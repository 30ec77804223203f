-- The members of a push have distinct names, and are no more than the storages of its virtual
-- storage.
use Rattle.std.proofs.Common.{◌≡◌, ◌<◌, ◌≤◌, ◌+◌, ◌==◌, ◌||◌, ℕ, zero, suc, not, List, [], ◌∷◌, ◌++◌, Bool, true, false, Option, None, Some, refl, sym, ap, inl, inr, filter, map, max, length, slice_get, unwrap_or, arith, ◌∙◌}
use Rattle.std.specs.List.{AllByRecursion, list_any}
use Rattle.std.specs.Option.{option_map}
use Rattle.std.specs.Str.{bytes_eq}
use Rattle.px_base.specs.declared.voter.Voter.{Voter}
use Rattle.voters.specs.Panel.{first_repeated, first_repeated_after, same_name}
use Rattle.px_cluster.specs.Book.{Replica, Repository, Storage, storages_of}
use Rattle.px_cluster.specs.Core.{Core, name_of}
use Rattle.px_cluster.specs.Members.{hosts, is_host, kept_or_first, led_by, members, voter_with, voters_of}
use Rattle.px_cluster.specs.Numbers.{is_one_of}
use Rattle.cluster_form.specs.Books.{IsDense}
use Rattle.cluster_form.specs.Tables.{AreNamesApart}
use Rattle.cluster_form.specs.Turns.{AreDistinct}
use Rattle.cluster_form.proofs.Lists.{bool, bytes_same, other_number, same_number}
use Rattle.cluster_form.proofs.OneOf.{kept_one}

-- ---- names of storages

there : (storages : List Storage) (n : ℕ) → n < length storages
    → (storage : Storage) × (slice_get storages n ≡ Some storage)
there [] n within = absurd (omega (arith, within))
there (storage ∷ storages) zero within = (storage, refl)
there (storage ∷ storages) (suc n) within = there storages n (omega (arith, within))

name_is : (core : Core) (n : ℕ) (storage : Storage) → slice_get core.storages n ≡ Some storage
    → name_of core n ≡ storage.name
name_is core n storage is =
    ap (λ (o : Option Storage). unwrap_or (option_map (λ (known : Storage). known.name) o) []) is

or_false : (a b : Bool) → (a || b) ≡ false → (a ≡ false) × (b ≡ false)
or_false true b is = absurd (let z : true ≡ false = is in cc)
or_false false b is = (refl, is)

any_more : (test : Voter → Bool) (before : List Voter) (voter : Voter)
    → list_any test before ≡ false → test voter ≡ false
    → list_any test (before ++ voter ∷ []) ≡ false
any_more test [] voter none fails = rw fails refl
any_more test (first ∷ before) voter none fails =
    let both = or_false (test first) (list_any test before) none in
    rw both.0 (any_more test before voter both.1 fails)

module _ (core : Core) (apart : AreNamesApart core.storages) where
  -- two storages have two names
  names_differ : (a b : ℕ) → a < length core.storages → b < length core.storages
      → (a == b) ≡ false → bytes_eq (name_of core a) (name_of core b) ≡ false
  names_differ a b known other other_ = elim (bool (bytes_eq (name_of core a) (name_of core b))) [
    | inl holds ↦ absurd (let one = there core.storages a known in
        let two = there core.storages b other in
        other_number a b other_ (apart a b one.0 two.0 one.1 two.1
        (sym (name_is core a one.0 one.1) ∙ bytes_same (name_of core a) (name_of core b) holds
        ∙ name_is core b two.0 two.1)))
    | inr fails ↦ fails
  ]

  -- none of these storages has the name of a voter before them
  abbrev AreNew : List Voter → List ℕ → Type 0
  AreNew before ns =
      AllByRecursion (λ n. list_any (same_name (name_of core n)) before ≡ false) ns

  new_behind : (before : List Voter) (weight n : ℕ) (ns : List ℕ) → n < length core.storages
      → AllByRecursion (λ other. other < length core.storages) ns → is_one_of n ns ≡ false
      → AreNew before ns → AreNew (before ++ voter_with core weight n ∷ []) ns
  new_behind before weight n [] known all none new = tt
  new_behind before weight n (other ∷ ns) known all none new =
      let both = or_false (other == n) (is_one_of n ns) none in (
        any_more (same_name (name_of core other)) before (voter_with core weight n) new.0
            (names_differ n other known all.0 (apart_back n other both.0)),
        new_behind before weight n ns known all.1 both.1 new.1,
      )
    where
      apart_back : (a b : ℕ) → (b == a) ≡ false → (a == b) ≡ false
      apart_back a b is = elim (bool (a == b)) [
        | inl holds ↦ absurd (other_number b a is (sym (same_number a b holds)))
        | inr fails ↦ fails
      ]

  none_repeated : (before : List Voter) (ns : List ℕ) → AreDistinct ns
      → AllByRecursion (λ n. n < length core.storages) ns → AreNew before ns
      → first_repeated_after before (map (voter_with core 1) ns) ≡ None
  none_repeated before [] distinct known new = refl
  none_repeated before (n ∷ ns) distinct known new = rw new.0
      (none_repeated (before ++ voter_with core 1 n ∷ []) ns distinct.1 known.1
      (new_behind before 1 n ns known.0 known.1 distinct.0 new.1))

  all_new : (ns : List ℕ) → AreNew [] ns
  all_new [] = tt
  all_new (n ∷ ns) = (refl, all_new ns)

  -- voters that are distinct storages have distinct names
  pub distinct_names : (ns : List ℕ) → AreDistinct ns
      → AllByRecursion (λ n. n < length core.storages) ns
      → first_repeated (voters_of core ns) ≡ None
  distinct_names [] distinct known = refl
  distinct_names (primary ∷ ns) distinct known =
      none_repeated (voter_with core (max 1 (length ns)) primary ∷ []) ns distinct.1 known.1
      (new_behind [] (max 1 (length ns)) primary ns known.0 known.1 distinct.0 (all_new ns))

-- ---- how many they are

filter_fewer : {A : Type 0} (test : A → Bool) (xs : List A) → length (filter test xs) ≤ length xs
filter_fewer test [] = omega arith
filter_fewer test (x ∷ xs) = let rest = filter_fewer test xs in elim (bool (test x)) [
  | inl holds ↦ (rw holds (omega (arith, rest)))
  | inr fails ↦ (rw fails (omega (arith, rest)))
]

pub map_as_many : {A B : Type 0} (f : A → B) (xs : List A) → length (map f xs) ≡ length xs
map_as_many f [] = refl
map_as_many f (x ∷ xs) = ap suc (map_as_many f xs)

-- where one of them leads, the others are fewer
without_one : (n : ℕ) (ns : List ℕ) → is_one_of n ns ≡ true
    → length (filter (λ other. not (other == n)) ns) + 1 ≤ length ns
without_one n [] is = absurd (let z : false ≡ true = is in cc)
without_one n (other ∷ ns) is = elim (bool (other == n)) [
  | inl holds ↦ (rw holds
      (let rest = filter_fewer (λ x. not (x == n)) ns in omega (arith, rest)))
  | inr fails ↦ (rw fails (let rest = without_one n ns (rw fails at is) in omega (arith, rest)))
]

led_fewer : (ns : List ℕ) (kept : Option ℕ)
    → length (led_by (kept_or_first ns kept) ns) ≤ length ns
led_fewer ns kept = by (kept_or_first ns kept) (kept_one ns kept)
  where
    by : (leader : Option ℕ) → ((n : ℕ) → leader ≡ Some n → is_one_of n ns ≡ true)
        → length (led_by leader ns) ≤ length ns
    by None one = omega arith
    by (Some n) one = let rest = without_one n ns (one n refl) in omega (arith, rest)

-- no more than the storages of the virtual storage
pub members_fewer : (core : Core) (book : Repository) → IsDense core.storages book
    → length (members core book) ≤ length (storages_of core.storages book.virt)
members_fewer core book dense =
    let led = led_fewer (hosts core book) book.primary in
    let named = map_as_many (λ (r : Replica). r.storage)
    (filter (is_host core book) book.replicas) in
    let fewer = filter_fewer (is_host core book) book.replicas in
    let all = map_as_many (λ (r : Replica). r.storage) book.replicas in
    let same = ap (λ (xs : List ℕ). length xs) dense in
    omega (arith, led, named, fewer, all, same)
