-- The members of a push are storages, each once, and their panel by the rule is one.
use Rattle.std.proofs.Common.{◌≡◌, ◌<◌, ◌≤◌, ◌+◌, ◌/◌, ◌==◌, ◌||◌, ℕ, zero, suc, not, max, List, [], ◌∷◌, ◌++◌, Bool, true, false, Option, None, Some, refl, sym, ap, subst, inl, inr, filter, map, length, slice_get, unwrap_or, sum_by, arith}
use Rattle.std.specs.List.{AllByRecursion}
use Rattle.std.specs.Option.{option_map}
use Rattle.std.proofs.lemmas.List.Sums.{sum-map, sum_by-cons}
use Rattle.px_base.specs.declared.voter.Voter.{Voter}
use Rattle.voters.specs.Marks.{voter_weight}
use Rattle.voters.specs.Panel.{poll_of}
use Rattle.voters.specs.Rule.{IsPoll}
use Rattle.px_cluster.specs.Book.{Replica, Repository, Storage, is_of}
use Rattle.px_cluster.specs.Core.{Core, empty, name_of}
use Rattle.px_cluster.specs.Members.{hosts, is_host, kept_or_first, led_by, members, primary_of, threshold_for, voter_with, voters_of}
use Rattle.px_cluster.specs.Numbers.{is_one_of, places_from}
use Rattle.cluster_form.specs.Books.{IsDense, storages_in}
use Rattle.cluster_form.specs.Turns.{AreDistinct, panel_for}
use Rattle.cluster_form.proofs.Lists.{all_filter, all_such, bool, choose, same_number}
use Rattle.cluster_form.proofs.OneOf.{kept_one, one_has}
use Rattle.cluster_form.proofs.PlannedJobs.{AreRising, storages_rise}

-- ---- distinct members

not_one : (n : ℕ) (ns : List ℕ) → AllByRecursion (λ other. (other == n) ≡ false) ns
    → is_one_of n ns ≡ false
not_one n [] all = refl
not_one n (other ∷ ns) all = rw all.0 (not_one n ns all.1)

differs : (a b : ℕ) → (a ≡ b → ⊥) → (a == b) ≡ false
differs a b other = elim (bool (a == b)) [
  | inl holds ↦ absurd (other (same_number a b holds))
  | inr fails ↦ fails
]

not_empty : (n : ℕ) (ns : List ℕ) → (length (n ∷ ns) == 0) ≡ false
not_empty n ns = differs (length (n ∷ ns)) 0 (λ same. omega (arith, same))

pub distinct_rising : (ns : List ℕ) → AreRising ns → AreDistinct ns
distinct_rising [] rise = tt
distinct_rising (n ∷ ns) rise = (
  not_one n ns (all_such (λ later. n < later) _ ns
      (λ later above. differs later n (λ same. omega (arith, above, same))) rise.0),
  distinct_rising ns rise.1,
)

-- ---- where a test of replicas leaves some

rising_where : (test : Replica → Bool) (replicas : List Replica)
    → AreRising (map (λ (r : Replica). r.storage) replicas)
    → AreRising (map (λ (r : Replica). r.storage) (filter test replicas))
rising_where test [] rise = tt
rising_where test (r ∷ rs) rise =
    choose (λ (xs : List Replica). AreRising (map (λ (x : Replica). x.storage) xs)) (test r)
    (r ∷ filter test rs) (filter test rs)
    (λ holds. (all_filtered rs rise.0, rising_where test rs rise.1))
    (λ fails. rising_where test rs rise.1)
  where
    all_filtered : (xs : List Replica)
        → AllByRecursion (λ later. r.storage < later) (map (λ (x : Replica). x.storage) xs)
        → AllByRecursion (λ later. r.storage < later)
        (map (λ (x : Replica). x.storage) (filter test xs))
    all_filtered [] all = tt
    all_filtered (x ∷ xs) all = choose (λ (ys : List Replica).
        AllByRecursion (λ later. r.storage < later) (map (λ (y : Replica). y.storage) ys)) (test x)
        (x ∷ filter test xs) (filter test xs) (λ holds. (all.0, all_filtered xs all.1))
        (λ fails. all_filtered xs all.1)

all_of_where : (P : ℕ → Type 0) (test : Replica → Bool) (replicas : List Replica)
    → AllByRecursion P (map (λ (r : Replica). r.storage) replicas)
    → AllByRecursion P (map (λ (r : Replica). r.storage) (filter test replicas))
all_of_where P test [] all = tt
all_of_where P test (r ∷ rs) all =
    choose (λ (xs : List Replica). AllByRecursion P (map (λ (x : Replica). x.storage) xs)) (test r)
    (r ∷ filter test rs) (filter test rs) (λ holds. (all.0, all_of_where P test rs all.1))
    (λ fails. all_of_where P test rs all.1)

-- ---- the primary leads

distinct_filtered : (test : ℕ → Bool) (ns : List ℕ) → AreDistinct ns → AreDistinct (filter test ns)
distinct_filtered test [] distinct = tt
distinct_filtered test (n ∷ ns) distinct =
    choose AreDistinct (test n) (n ∷ filter test ns) (filter test ns)
    (λ holds. (absent n ns distinct.0, distinct_filtered test ns distinct.1))
    (λ fails. distinct_filtered test ns distinct.1)
  where
    absent : (n : ℕ) (xs : List ℕ) → is_one_of n xs ≡ false → is_one_of n (filter test xs) ≡ false
    absent n [] none = refl
    absent n (x ∷ xs) none =
        let both = neither (x == n) (is_one_of n xs) none in
        choose (λ ys. is_one_of n ys ≡ false) (test x) (x ∷ filter test xs) (filter test xs)
        (λ holds. rw both.0 (absent n xs both.1)) (λ fails. absent n xs both.1)
      where
        neither : (a b : Bool) → (a || b) ≡ false → (a ≡ false) × (b ≡ false)
        neither true b is = absurd (let z : true ≡ false = is in cc)
        neither false b is = (refl, is)

without_first : (primary : ℕ) (ns : List ℕ)
    → AllByRecursion (λ n. (n == primary) ≡ false) (filter (λ n. not (n == primary)) ns)
without_first primary [] = tt
without_first primary (n ∷ ns) = elim (bool (n == primary)) [
  | inl holds ↦ (rw holds (without_first primary ns))
  | inr fails ↦ (rw fails (fails, without_first primary ns))
]

distinct_led : (primary : Option ℕ) (ns : List ℕ) → AreDistinct ns → AreDistinct (led_by primary ns)
distinct_led None ns distinct = tt
distinct_led (Some primary) ns distinct = (
  not_one primary (filter (λ n. not (n == primary)) ns) (without_first primary ns),
  distinct_filtered (λ n. not (n == primary)) ns distinct,
)

all_led : (P : ℕ → Type 0) (primary : Option ℕ) (ns : List ℕ)
    → ((n : ℕ) → primary ≡ Some n → P n) → AllByRecursion P ns
    → AllByRecursion P (led_by primary ns)
all_led P None ns leads all = tt
all_led P (Some primary) ns leads all =
    (leads primary refl, all_filter P (λ n. not (n == primary)) ns all)

-- ---- the members of a push that begins

pub places_within : {A : Type 0} (n : ℕ) (test : A → Bool) (xs : List A)
    → AllByRecursion (λ place. place < n + length xs) (places_from n test xs)
places_within n test [] = tt
places_within n test (x ∷ xs) =
    let later = all_such (λ place. place < n + 1 + length xs) (λ place. place < n + length (x ∷ xs))
    (places_from (n + 1) test xs) (λ place within. omega (arith, within))
    (places_within (n + 1) test xs) in
    choose (AllByRecursion (λ place. place < n + length (x ∷ xs))) (test x)
    (n ∷ places_from (n + 1) test xs) (places_from (n + 1) test xs)
    (λ holds. (omega arith, later)) (λ fails. later)

module _ (core : Core) (book : Repository) (dense : IsDense core.storages book) where
  -- what is true of each storage of the repository is true of each member
  pub all_members : (P : ℕ → Type 0) → AllByRecursion P (storages_in book)
      → AllByRecursion P (members core book)
  all_members P all =
      let of_hosts = all_of_where P (is_host core book) book.replicas all in
      all_led P (primary_of core book) (hosts core book)
      (λ n is. one_has P (hosts core book) n of_hosts
      (kept_one (hosts core book) book.primary n is)) of_hosts

  pub members_distinct : AreDistinct (members core book)
  members_distinct = distinct_led (primary_of core book) (hosts core book)
      (distinct_rising (hosts core book) (rising_where (is_host core book) book.replicas
      (storages_rise core.storages book dense)))

  pub members_known : AllByRecursion (λ member. member < length core.storages) (members core book)
  members_known = all_members _ (subst (AllByRecursion (λ n. n < length core.storages)) (sym dense)
      (all_such (λ n. n < 0 + length core.storages) _ _ (λ n within. omega (arith, within))
      (places_within 0 (is_of book.virt) core.storages)))

  some_led : (ns : List ℕ) (kept : Option ℕ) → (length ns == 0) ≡ false
      → (length (led_by (kept_or_first ns kept) ns) == 0) ≡ false
  some_led [] kept some = absurd (let z : true ≡ false = some in cc)
  some_led (n ∷ ns) None some = not_empty n _
  some_led (n ∷ ns) (Some kept) some = elim (bool (is_one_of kept (n ∷ ns))) [
    | inl holds ↦ (rw holds (not_empty kept _))
    | inr fails ↦ (rw fails (not_empty n _))
  ]

  pub members_some : (length (hosts core book) == 0) ≡ false
      → (length (members core book) == 0) ≡ false
  members_some some = some_led (hosts core book) book.primary some

-- ---- their panel

secondaries_weigh : (core : Core) (ns : List ℕ)
    → sum_by voter_weight (map (voter_with core 1) ns) ≡ length ns
secondaries_weigh core [] = refl
secondaries_weigh core (n ∷ ns) =
    let rest = secondaries_weigh core ns in
    omega (arith, rest, sum_by-cons voter_weight (voter_with core 1 n) (map (voter_with core 1) ns))

threshold_is : (n : ℕ) → threshold_for (suc n) ≡ suc n + (suc n + 1) / 2
threshold_is n = elim (bool (suc n == 0)) [
  | inl holds ↦ absurd (let same = same_number (suc n) 0 holds in omega (arith, same))
  | inr fails ↦ (rw fails refl)
]

half_is : (n half : ℕ) → half ≡ (suc n + 1) / 2 → (1 ≤ half) × (half ≤ suc n)
half_is n half is = (omega (arith, is), omega (arith, is))

pub panel_is : (storages : List Storage) (ns : List ℕ) → (length ns == 0) ≡ false
    → IsPoll (poll_of (panel_for storages ns))
panel_is storages [] some = absurd (let z : true ≡ false = some in cc)
panel_is storages (primary ∷ []) some = record { reachable = omega arith; most = omega arith }
panel_is storages (primary ∷ n ∷ ns) some =
    let core : Core = record empty { storages = storages } in
    let first : Voter = voter_with core (max 1 (length (n ∷ ns))) primary in
    let rest = secondaries_weigh core (n ∷ ns) in
    let both = sum_by-cons voter_weight first (map (voter_with core 1) (n ∷ ns)) in
    let all = sum-map voter_weight (voters_of core (primary ∷ n ∷ ns)) in
    let threshold = threshold_is (length ns) in
    let half = half_is (length ns) ((suc (length ns) + 1) / 2) refl in
    record {
      reachable = omega (arith, rest, both, all, threshold, half.0, half.1);
      most = omega (arith, rest, both, all, threshold, half.0, half.1);
    }

-- ---- a storage more changes no panel of storages that were there

got_still : {A : Type 0} (xs : List A) (x : A) (i : ℕ) → i < length xs
    → slice_get (xs ++ x ∷ []) i ≡ slice_get xs i
got_still [] x i within = absurd (omega (arith, within))
got_still (y ∷ ys) x zero within = refl
got_still (y ∷ ys) x (suc i) within = got_still ys x i (omega (arith, within))

module _ (storages : List Storage) (storage : Storage) where
  abbrev before : Core
  before = record empty { storages = storages }

  abbrev after_ : Core
  after_ = record empty { storages = storages ++ storage ∷ [] }

  same_name : (n : ℕ) → n < length storages → name_of after_ n ≡ name_of before n
  same_name n within = ap
      (λ (o : Option Storage). unwrap_or (option_map (λ (known : Storage). known.name) o) [])
      (got_still storages storage n within)

  same_voter : (weight n : ℕ) → n < length storages
      → voter_with after_ weight n ≡ voter_with before weight n
  same_voter weight n within = λ i. record { name = same_name n within i; weight = weight }

  same_voters : (ns : List ℕ) → AllByRecursion (λ n. n < length storages) ns
      → map (voter_with after_ 1) ns ≡ map (voter_with before 1) ns
  same_voters [] all = refl
  same_voters (n ∷ ns) all = λ i. same_voter 1 n all.0 i ∷ same_voters ns all.1 i

  pub panel_stays : (ns : List ℕ) → AllByRecursion (λ n. n < length storages) ns
      → panel_for (storages ++ storage ∷ []) ns ≡ panel_for storages ns
  panel_stays [] all = refl
  panel_stays (primary ∷ ns) all = λ i. record {
    voters = same_voter (max 1 (length ns)) primary all.0 i ∷ same_voters ns all.1 i;
    threshold = threshold_for (length ns);
  }
