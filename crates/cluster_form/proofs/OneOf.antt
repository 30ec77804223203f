-- What is one of a list of numbers: of the storages of replicas that pass a test, of a list read
-- backwards, and of the first of a list.
use Rattle.std.proofs.Common.{◌≡◌, ℕ, ◌==◌, ◌||◌, zero, suc, List, [], ◌∷◌, Bool, true, false, Option, None, Some, refl, sym, subst, inl, inr, filter, map, reverse, take}
use Rattle.std.specs.List.{AllByRecursion, list_any}
use Rattle.std.proofs.lemmas.List.{reverse-append}
use Rattle.px_cluster.specs.Book.{Replica}
use Rattle.px_cluster.specs.Members.{kept_or_first}
use Rattle.px_cluster.specs.Numbers.{first_of, is_one_of}
use Rattle.cluster_form.proofs.Lists.{all_both, bool, choose, same_number, same_self, some_is}

pub or_later : (a b : Bool) → b ≡ true → (a || b) ≡ true
or_later true b is = refl
or_later false b is = is

-- what is true of each is true of one
pub one_has : (P : ℕ → Type 0) (xs : List ℕ) (x : ℕ) → AllByRecursion P xs
    → is_one_of x xs ≡ true → P x
one_has P [] x all is = absurd (let z : false ≡ true = is in cc)
one_has P (y ∷ ys) x all is = elim (bool (y == x)) [
  | inl holds ↦ subst P (same_number y x holds) all.0
  | inr fails ↦ one_has P ys x all.1 (rw fails at is)
]

pub all_reversed : (P : ℕ → Type 0) (xs : List ℕ) → AllByRecursion P xs
    → AllByRecursion P (reverse xs)
all_reversed P [] all = tt
all_reversed P (x ∷ xs) all = subst (AllByRecursion P) (sym (reverse-append (x ∷ []) xs))
    (all_both P (reverse xs) (x ∷ []) (all_reversed P xs all.1) (all.0, tt))

pub all_taken : {A : Type 0} (P : A → Type 0) (n : ℕ) (xs : List A) → AllByRecursion P xs
    → AllByRecursion P (take n xs)
all_taken P zero xs all = tt
all_taken P (suc n) [] all = tt
all_taken P (suc n) (x ∷ xs) all = (all.0, all_taken P n xs all.1)

-- ---- the storages of replicas that pass a test

pub all_where : (P : ℕ → Type 0) (test : Replica → Bool) (replicas : List Replica)
    → ((r : Replica) → test r ≡ true → P r.storage)
    → AllByRecursion P (map (λ (r : Replica). r.storage) (filter test replicas))
all_where P test [] on = tt
all_where P test (r ∷ rs) on =
    choose (λ (xs : List Replica). AllByRecursion P (map (λ (x : Replica). x.storage) xs)) (test r)
    (r ∷ filter test rs) (filter test rs) (λ holds. (on r holds, all_where P test rs on))
    (λ fails. all_where P test rs on)

-- where a number is one of them, there is a replica that passes any test that follows
pub any_where : (test other : Replica → Bool) (storage : ℕ)
    → ((r : Replica) → test r ≡ true → r.storage ≡ storage → other r ≡ true)
    → (replicas : List Replica)
    → is_one_of storage (map (λ (r : Replica). r.storage) (filter test replicas)) ≡ true
    → list_any other replicas ≡ true
any_where test other storage on [] is = absurd (let z : false ≡ true = is in cc)
any_where test other storage on (r ∷ rs) is = elim (bool (test r)) [
  | inl holds ↦ elim (bool (r.storage == storage)) [
    | inl here ↦ (rw (on r holds (same_number r.storage storage here)) refl)
    | inr fails ↦ or_later (other r) _ (any_where test other storage on rs (
        let there : ((r.storage == storage)
        || is_one_of storage (map (λ (x : Replica). x.storage) (filter test rs))) ≡ true =
        rw holds at is in rw fails at there))
  ]
  | inr fails ↦ or_later (other r) _ (any_where test other storage on rs (rw fails at is))
]

-- ---- the first one, and the kept one

pub first_one : (xs : List ℕ) (x : ℕ) → first_of xs ≡ Some x → is_one_of x xs ≡ true
first_one [] x is = absurd (let none : None ≡ Some x = is in cc)
first_one (y ∷ ys) x is = let same = some_is y x is in rw same (rw (same_self x) refl)

pub kept_one : (xs : List ℕ) (kept : Option ℕ) (x : ℕ) → kept_or_first xs kept ≡ Some x
    → is_one_of x xs ≡ true
kept_one xs None x is = first_one xs x is
kept_one xs (Some kept) x is = elim (bool (is_one_of kept xs)) [
  | inl holds ↦ subst (λ n. is_one_of n xs ≡ true) (some_is kept x (rw holds at is)) holds
  | inr fails ↦ first_one xs x (rw fails at is)
]
