-- Which storages are assigned under a factor: those within the bounds are the ones that the rule
-- chooses, and where exactly these are assigned, the repository is as the rule leaves it.
use Rattle.std.proofs.Common.{◌≡◌, ◌<◌, ◌⊎◌, ◌==◌, ◌||◌, ◌-◌, ℕ, not, List, [], ◌∷◌, Bool, true, false, Option, Some, if◌then◌else◌, refl, sym, ap, subst, ◌∙◌, inl, inr, filter, length, map, reverse, take, arith}
use Rattle.std.specs.List.{AllByRecursion}
use Rattle.std.proofs.lemmas.Bool.Decides.{nat_tests}
use Rattle.px_cluster.specs.Book.{Replica, Repository, Storage, is_absent, storages_where}
use Rattle.px_cluster.specs.Core.{Core, repository, with_book_changed, with_repository_by}
use Rattle.px_cluster.specs.Factor.{assignment, is_added, is_chosen, is_left, is_spared, reassigned, spared}
use Rattle.px_cluster.specs.Numbers.{is_one_of}
use Rattle.cluster_form.specs.Books.{IsDense, storages_in}
use Rattle.cluster_form.proofs.Lists.{bool, choose, same_self}
use Rattle.cluster_form.proofs.PlannedJobs.{AreRising, storages_rise}
use Rattle.genbook.specs.Changes.{AreAscending, assigned_to}
use Rattle.router.specs.Factors.{AreBounds, AreByNumber, end_of_away, end_of_there, fewer, first_left, is_away, is_below, is_there, is_within, may_leave, more}
use Rattle.router.specs.declared.factor.Bounds.{Bounds}
use Rattle.router.proofs.Ascending.{AreAbove, both_taken, first_ones, last_ones, none_above, none_reversed, none_taken}
use Rattle.router.proofs.Places.{places}

-- ---- a replica that is one of these

abbrev IsIn : Replica → List Replica → Type 0
IsIn replica [] = ⊥
IsIn replica (other ∷ others) = (other ≡ replica) ⊎ IsIn replica others

in_has : (P : Replica → Type 0) (replica : Replica) (replicas : List Replica)
    → AllByRecursion P replicas → IsIn replica replicas → P replica
in_has P replica [] all among = absurd among
in_has P replica (other ∷ others) all (inl same) = subst P same all.0
in_has P replica (other ∷ others) all (inr among) = in_has P replica others all.1 among

-- tests that agree on each of them choose the same
same_filter : (test other : Replica → Bool) (replicas : List Replica)
    → ((r : Replica) → IsIn r replicas → test r ≡ other r)
    → filter test replicas ≡ filter other replicas
same_filter test other [] agree = refl
same_filter test other (r ∷ rs) agree =
    let rest = same_filter test other rs (λ x among. agree x (inr among)) in
    elim (bool (other r)) [
      | inl holds ↦ rw (agree r (inl refl), holds) (ap (λ (xs : List Replica). r ∷ xs) rest)
      | inr fails ↦ rw (agree r (inl refl), fails) rest
    ]

same_map : (change other : Replica → Replica) (replicas : List Replica)
    → ((r : Replica) → IsIn r replicas → change r ≡ other r)
    → map change replicas ≡ map other replicas
same_map change other [] agree = refl
same_map change other (r ∷ rs) agree =
    ap (λ (x : Replica). x ∷ map change rs) (agree r (inl refl))
    ∙ ap (λ (xs : List Replica). other r ∷ xs) (same_map change other rs (λ x among. agree x (inr among)))

-- ---- the storages of replicas that pass a test

above_where : (n : ℕ) (test : Replica → Bool) (replicas : List Replica) → AreAbove n (places replicas)
    → AreAbove n (places (filter test replicas))
above_where n test [] all = tt
above_where n test (r ∷ rs) all =
    choose (λ (xs : List Replica). AreAbove n (places xs)) (test r) (r ∷ filter test rs) (filter test rs)
    (λ holds. (all.0, above_where n test rs all.1)) (λ fails. above_where n test rs all.1)

pub ascending_where : (test : Replica → Bool) (replicas : List Replica) → AreAscending (places replicas)
    → AreAscending (places (filter test replicas))
ascending_where test [] rise = tt
ascending_where test (r ∷ rs) rise =
    choose (λ (xs : List Replica). AreAscending (places xs)) (test r) (r ∷ filter test rs) (filter test rs)
    (λ holds. (above_where r.storage test rs rise.0, ascending_where test rs rise.1))
    (λ fails. ascending_where test rs rise.1)

in_above : (n : ℕ) (r : Replica) (replicas : List Replica) → AreAbove n (places replicas)
    → IsIn r replicas → n < r.storage
in_above n r [] all among = absurd among
in_above n r (other ∷ others) all (inl same) = subst (λ (x : Replica). n < x.storage) same all.0
in_above n r (other ∷ others) all (inr among) = in_above n r others all.1 among

-- a storage is one of them exactly where its replica passes
passes_where : (test : Replica → Bool) (replicas : List Replica) → AreAscending (places replicas)
    → (r : Replica) → IsIn r replicas → is_one_of r.storage (places (filter test replicas)) ≡ test r
passes_where test [] rise r among = absurd among
passes_where test (first ∷ rs) rise r (inl same) =
    subst (λ (x : Replica). is_one_of x.storage (places (filter test (first ∷ rs))) ≡ test x) same
    (elim (bool (test first)) [
      | inl holds ↦ rw holds (rw (same_self first.storage) refl)
      | inr fails ↦ rw fails (none_above first.storage (places (filter test rs)) (above_where first.storage test rs rise.0))
    ])
passes_where test (first ∷ rs) rise r (inr among) =
    let rest = passes_where test rs rise.1 r among in
    elim (bool (test first)) [
      | inl holds ↦ rw holds (rw (differs first.storage r.storage (in_above first.storage r rs rise.0 among)) rest)
      | inr fails ↦ rw fails rest
    ]
  where
    differs : (n m : ℕ) → n < m → (n == m) ≡ false
    differs n m above = grind (arith, nat_tests)

-- ---- the rule

not_not : (b : Bool) → not (not b) ≡ b
not_not true = refl
not_not false = refl

or_none : (b : Bool) → (b || false) ≡ b
or_none true = refl
or_none false = refl

module _ (core : Core) (repo : Repository) (factor : ℕ) (by_number : AreByNumber repo) where
  passes : (test : Replica → Bool) (r : Replica) → IsIn r repo.replicas
      → is_one_of r.storage (storages_where test repo) ≡ test r
  passes test r among = passes_where test repo.replicas by_number r among

  rising : (test : Replica → Bool) → AreAscending (storages_where test repo)
  rising test = ascending_where test repo.replicas by_number

  -- an assigned storage stays where it is spared, or is below the first that is left
  stays : (r : Replica) → IsIn r repo.replicas → r.assigned ≡ true
      → (is_spared (spared core repo) r.storage || is_below r.storage (first_left core repo factor))
      ≡ not (is_left core repo factor r.storage)
  stays r among assigned =
      let leaving = storages_where (may_leave (spared core repo)) repo in
      let is = passes (may_leave (spared core repo)) r among in
      elim (bool (is_spared (spared core repo) r.storage)) [
        | inl holds ↦ (
            let none : is_one_of r.storage leaving ≡ false = is ∙ rw (assigned, holds) refl in
            rw holds (ap not (sym (none_taken r.storage (reverse leaving) (fewer repo factor)
            (none_reversed r.storage leaving none)))))
        | inr fails ↦ (
            let one : is_one_of r.storage leaving ≡ true = is ∙ rw (assigned, fails) refl in
            rw fails (sym (ap not (last_ones r.storage leaving (fewer repo factor)
            (rising (may_leave (spared core repo))) one)
            ∙ not_not (is_below r.storage (first_left core repo factor)))))
      ]

  -- another storage is added where it is below the first that is not added
  comes : (r : Replica) → IsIn r repo.replicas → r.assigned ≡ false
      → (if is_absent r.booking then is_below r.storage (end_of_away repo factor)
      else is_below r.storage (end_of_there repo factor))
      ≡ is_added repo factor r.storage
  comes r among unassigned =
      let there = storages_where is_there repo in
      let away = storages_where is_away repo in
      let room = more repo factor in
      let split = both_taken r.storage there away room in
      elim (bool (is_absent r.booking)) [
        | inl absent ↦ (
            let none : is_one_of r.storage there ≡ false = passes is_there r among ∙ rw (unassigned, absent) refl in
            let one : is_one_of r.storage away ≡ true = passes is_away r among ∙ rw (unassigned, absent) refl in
            rw absent (sym (split
            ∙ ap (λ (b : Bool). b || is_one_of r.storage (take (room - length there) away))
            (none_taken r.storage there room none)
            ∙ first_ones r.storage away (room - length there) (rising is_away) one)))
        | inr present ↦ (
            let one : is_one_of r.storage there ≡ true = passes is_there r among ∙ rw (unassigned, present) refl in
            let none : is_one_of r.storage away ≡ false = passes is_away r among ∙ rw (unassigned, present) refl in
            rw present (sym (split
            ∙ ap (λ (b : Bool). is_one_of r.storage (take room there) || b)
            (none_taken r.storage away (room - length there) none)
            ∙ or_none (is_one_of r.storage (take room there))
            ∙ first_ones r.storage there room (rising is_there) one)))
      ]

  module _ (bounds : Bounds) (are : AreBounds core repo factor bounds) where
    chosen : (r : Replica) → IsIn r repo.replicas → is_within bounds r ≡ is_chosen core repo factor r
    chosen r among = elim (bool r.assigned) [
      | inl assigned ↦ rw (assigned, are.spared, are.left) (stays r among assigned)
      | inr unassigned ↦ rw (unassigned, are.away, are.there) (comes r among unassigned)
    ]

    -- the storages within the bounds are those of the rule
    pub within_chosen : places (filter (is_within bounds) repo.replicas) ≡ assignment core repo factor
    within_chosen = ap places (same_filter (is_within bounds) (is_chosen core repo factor) repo.replicas chosen)

  -- where exactly the storages of the rule are assigned, the repository is as the rule leaves it
  pub assigned_to_assignment : assigned_to (assignment core repo factor) repo ≡ reassigned core factor repo
  assigned_to_assignment = ap (λ (replicas : List Replica). record repo { replicas = replicas })
      (same_map _ _ repo.replicas (λ r among. ap (λ (assigned : Bool). record r { assigned = assigned })
      (passes (is_chosen core repo factor) r among)))

  -- the same in a core that has the repository under a number, and which may know more than health
  pub book_reassigned : (all : Core) (number : ℕ) → repository all number ≡ Some repo
      → with_book_changed number (assigned_to (assignment core repo factor)) all
      ≡ with_book_changed number (reassigned core factor) all
  book_reassigned all number there =
      ap (λ (book : Option Repository). with_repository_by book number (assigned_to (assignment core repo factor)) all) there
      ∙ ap (λ (book : Repository). with_repository_by (Some book) number (λ (same : Repository). same) all) assigned_to_assignment
      ∙ ap (λ (book : Option Repository). with_repository_by book number (reassigned core factor) all) (sym there)

-- ---- replicas that stand by number

ascending : (ns : List ℕ) → AreRising ns → AreAscending ns
ascending [] rise = tt
ascending (n ∷ ns) rise = (rise.0, ascending ns rise.1)

-- a replica for each storage of the virtual storage stands by number
pub dense_by_number : (storages : List Storage) (repo : Repository) → IsDense storages repo
    → AreByNumber repo
dense_by_number storages repo dense = ascending (storages_in repo) (storages_rise storages repo dense)
