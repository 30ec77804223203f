-- Functions that change at one number, and cases of numbers and tests.
use Rattle.std.proofs.Common.{arith, Bool, false, inl, inr, None, refl, Some, subst, sym, true, ℕ, ◌<◌, ◌==◌, ◌≡◌, ◌⊎◌}
use Rattle.std.proofs.lemmas.Bool.Decides.{eqb_tells, leb_tells, nat_tests}
use Rattle.std.specs.Prelude.{if◌then◌else◌}
use Rattle.replica_invariant.specs.Booking.{Doubt}
use Rattle.replica_invariant.specs.State.{with_value}

pub same : (a b : ℕ) → (a == b) ≡ true → a ≡ b
same a b e = grind (arith, nat_tests)

pub differ : (a b : ℕ) → (a == b) ≡ false → a ≡ b → ⊥
differ a b e q = grind (arith, nat_tests)

pub choose : {A : Type 0} (P : A → Type 0) (b : Bool) (v w : A) → (b ≡ true → P v)
    → (b ≡ false → P w) → P (if b then v else w)
choose P true v w f g = f refl
choose P false v w f g = g refl

-- a fact at any index of an updated function: at the index, and elsewhere
pub value_case : {A : Type 0} (P : ℕ → A → Type 0) (f : ℕ → A) (k : ℕ) (v : A) (x : ℕ) → P k v
    → ((x ≡ k → ⊥) → P x (f x)) → P x (with_value f k v x)
value_case P f k v x here there =
    choose (P x) (x == k) v (f x) (λ e. subst (λ y. P y v) (sym (same x k e)) here)
    (λ e. there (differ x k e))

pub value_here : {A : Type 0} (f : ℕ → A) (k : ℕ) (v : A) → with_value f k v k ≡ v
value_here f k v = value_case (λ y w. y ≡ k → w ≡ v) f k v k (λ e. refl) (λ n e. absurd (n e)) refl

pub value_elsewhere : {A : Type 0} (f : ℕ → A) (k : ℕ) (v : A) (x : ℕ) → (x ≡ k → ⊥)
    → with_value f k v x ≡ f x
value_elsewhere f k v x n =
    value_case (λ y w. (y ≡ k → ⊥) → w ≡ f y) f k v x (λ m. absurd (m refl)) (λ m q. refl) n

pub none_some : {A : Type 0} {x : A} (P : Type 0) → None ≡ Some x → P
none_some P e = cc

pub three : (a b : ℕ) → (a < b) ⊎ ((a ≡ b) ⊎ (b < a))
three a b =
    elim (leb_tells b a) [
      | inl w ↦
          elim (eqb_tells a b) [ inl v ↦ inr (inl v.1) | inr v ↦ inr (inr (omega (arith, w.1, v.1))) ]
      | inr w ↦ inl w.1
    ]

pub bool : (b : Bool) → (b ≡ true) ⊎ (b ≡ false)
bool true = inl refl
bool false = inr refl

-- both cases of a test that also decides what is asked
pub choose_at : {A : Type 0} (P : Bool → A → Type 0) (b : Bool) (v w : A) → (b ≡ true → P true v)
    → (b ≡ false → P false w) → P b (if b then v else w)
choose_at P true v w f g = f refl
choose_at P false v w f g = g refl

-- a fact about one doubt holds of an equal one
pub at_doubt : (P : ℕ → ℕ → ℕ → Type 0) (l n d l2 n2 d2 : ℕ) → Doubt l n d ≡ Doubt l2 n2 d2
    → P l n d → P l2 n2 d2
at_doubt P l n d l2 n2 d2 e h =
    let a : l ≡ l2 = cc in let b : n ≡ n2 = cc in let c : d ≡ d2 = cc in
    subst (λ x. P l2 n2 x) c (subst (λ x. P l2 x d) b (subst (λ x. P x n d) a h))
