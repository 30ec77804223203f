-- What is true of one number and of each other one is true of any.
use Rattle.std.proofs.Common.{◌≡◌, ◌==◌, ℕ, Some, sym, subst, inl, inr}
use Rattle.px_cluster.specs.Cluster.{with_value}
use Rattle.cluster_form.proofs.Lists.{bool, choose, other_number, same_number}

-- one number and the others
pub by_one : (P : ℕ → Type 0) (one : ℕ) → P one → ((n : ℕ) → (n ≡ one → ⊥) → P n) → (n : ℕ) → P n
by_one P one here others n = elim (bool (n == one)) [
  | inl holds ↦ subst P (sym (same_number n one holds)) here
  | inr fails ↦ others n (other_number n one fails)
]

-- a function that has another value at one number
pub value_so : {A : Type 0} (new old : ℕ → A) (one : ℕ) (value : A) → new one ≡ value
    → ((n : ℕ) → (n ≡ one → ⊥) → new n ≡ old n) → (n : ℕ) → new n ≡ with_value old one value n
value_so new old one value here others n =
    choose (λ v. new n ≡ v) (n == one) value (old n)
    (λ holds. subst (λ m. new m ≡ value) (sym (same_number n one holds)) here)
    (λ fails. others n (other_number n one fails))

-- two values are one
pub both_some : {A : Type 0} (a b : A) → a ≡ b → Some a ≡ Some b
both_some a b same = λ i. Some (same i)
