-- What is true of each element of a list, after the list was changed.
use Rattle.std.proofs.Common.{◌≡◌, ℕ, ◌==◌, ◌&&◌, zero, suc, List, [], ◌∷◌, ◌++◌, Bool, true, false, if◌then◌else◌, None, Some, refl, subst, ◌⊎◌, inl, inr, slice_get, set, map, filter, find, arith}
use Rattle.std.specs.List.{AllByRecursion}
use Rattle.std.specs.Str.{bytes_eq}
use Rattle.std.proofs.lemmas.Slice.Eq.{bytes_eq-Decides}
use Rattle.std.proofs.lemmas.Bool.Decides.{nat_tests}

-- ---- truth values and options

pub bool : (b : Bool) → (b ≡ true) ⊎ (b ≡ false)
bool true = inl refl
bool false = inr refl

pub choose : {A : Type 0} (P : A → Type 0) (b : Bool) (v w : A) → (b ≡ true → P v)
    → (b ≡ false → P w) → P (if b then v else w)
choose P true v w holds fails = holds refl
choose P false v w holds fails = fails refl

pub some_is : {A : Type 0} (a b : A) → Some a ≡ Some b → a ≡ b
some_is a b is = cc

pub same_number : (a b : ℕ) → (a == b) ≡ true → a ≡ b
same_number a b is = grind (arith, nat_tests)

pub other_number : (a b : ℕ) → (a == b) ≡ false → a ≡ b → ⊥
other_number a b is same = grind (arith, nat_tests)

pub same_self : (n : ℕ) → (n == n) ≡ true
same_self n = elim (bool (n == n)) [ inl holds ↦ holds | inr fails ↦ absurd (other_number n n fails refl) ]

-- ---- each element

module _ {A : Type 0} (P : A → Type 0) where
  pub all_set : (xs : List A) (i : ℕ) (x : A) → AllByRecursion P xs → P x
      → AllByRecursion P (set xs i x)
  all_set [] i x all is = tt
  all_set (y ∷ ys) zero x all is = (is, all.1)
  all_set (y ∷ ys) (suc i) x all is = (all.0, all_set ys i x all.1 is)

  pub all_got : (xs : List A) (i : ℕ) (x : A) → AllByRecursion P xs → slice_get xs i ≡ Some x → P x
  all_got [] i x all is = absurd (let none : None ≡ Some x = is in cc)
  all_got (y ∷ ys) zero x all is = subst P (some_is y x is) all.0
  all_got (y ∷ ys) (suc i) x all is = all_got ys i x all.1 is

  pub all_both : (xs ys : List A) → AllByRecursion P xs → AllByRecursion P ys
      → AllByRecursion P (xs ++ ys)
  all_both [] ys one other = other
  all_both (x ∷ xs) ys one other = (one.0, all_both xs ys one.1 other)

  pub all_filter : (test : A → Bool) (xs : List A) → AllByRecursion P xs
      → AllByRecursion P (filter test xs)
  all_filter test [] all = tt
  all_filter test (x ∷ xs) all = choose (AllByRecursion P) (test x) (x ∷ filter test xs)
      (filter test xs) (λ holds. (all.0, all_filter test xs all.1)) (λ fails. all_filter test xs all.1)

  -- what is found has it, and passes
  pub all_find : (test : A → Bool) (xs : List A) (x : A) → AllByRecursion P xs
      → find test xs ≡ Some x → P x × (test x ≡ true)
  all_find test [] x all is = absurd (let none : None ≡ Some x = is in cc)
  all_find test (y ∷ ys) x all is = elim (bool (test y)) [
    | inl holds ↦ (let same : y ≡ x = some_is y x (rw holds at is) in
        (subst P same all.0, subst (λ z. test z ≡ true) same holds))
    | inr fails ↦ all_find test ys x all.1 (rw fails at is)
  ]

pub all_map : {A B : Type 0} (P : A → Type 0) (Q : B → Type 0) (f : A → B) (xs : List A)
    → ((x : A) → P x → Q (f x)) → AllByRecursion P xs → AllByRecursion Q (map f xs)
all_map P Q f [] on all = tt
all_map P Q f (x ∷ xs) on all = (on x all.0, all_map P Q f xs on all.1)

pub all_such : {A : Type 0} (P Q : A → Type 0) (xs : List A) → ((x : A) → P x → Q x)
    → AllByRecursion P xs → AllByRecursion Q xs
all_such P Q [] on all = tt
all_such P Q (x ∷ xs) on all = (on x all.0, all_such P Q xs on all.1)

-- ---- maps that keep what is read

pub map_kept : {A B : Type 0} (f : A → B) (g : A → A) → ((x : A) → f (g x) ≡ f x) → (xs : List A)
    → map f (map g xs) ≡ map f xs
map_kept f g kept [] = refl
map_kept f g kept (x ∷ xs) = λ i. kept x i ∷ map_kept f g kept xs i

pub if_kept : {A B : Type 0} (f : A → B) (b : Bool) (x y : A) → f x ≡ f y
    → f (if b then x else y) ≡ f y
if_kept f true x y same = same
if_kept f false x y same = refl

-- ---- bytes and tests

pub bytes_same : (one other : List ℕ) → bytes_eq one other ≡ true → one ≡ other
bytes_same one other is = (bytes_eq-Decides one other).0 is

pub same_bytes : (one other : List ℕ) → one ≡ other → bytes_eq one other ≡ true
same_bytes one other same = (bytes_eq-Decides one other).1 same

pub both_left : (a b : Bool) → (a && b) ≡ true → a ≡ true
both_left true b is = refl
both_left false b is = absurd (let z : false ≡ true = is in cc)

pub both_right : (a b : Bool) → (a && b) ≡ true → b ≡ true
both_right true b is = is
both_right false b is = absurd (let z : false ≡ true = is in cc)
