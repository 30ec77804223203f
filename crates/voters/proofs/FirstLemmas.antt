-- Outcomes that follow one another: the last is the first that was decided.
use Rattle.std.proofs.Common.{◌≡◌, ℕ, ◌≤◌, ◌<◌, arith, ap, sym, ◌∙◌, inl, inr, refl, zero, suc}
use Rattle.std.proofs.lemmas.Bool.{cases_lt}
use Rattle.voters.specs.declared.outcome.Outcome.{Outcome}
use Rattle.voters.specs.declared.outcome.Outcome.TheVariants.{Open, Commit, Fail, Stop}
use Rattle.voters.specs.Votes.{or_later}
use Rattle.voters.proofs.StepLemmas.{open_parts}

-- a fold of outcomes is the first that is not open

pub record IsFold (o d : ℕ → Outcome) (n : ℕ) : Type 0 where
  pub starts : o 0 ≡ Open
  pub first : d 0 ≡ Open
  pub step : (k : ℕ) → k < n → o (suc k) ≡ or_later (o k) (d (suc k))

pub record IsFirst (d : ℕ → Outcome) (n : ℕ) (x : Outcome) : Type 0 where
  pub at : ℕ
  pub within : at ≤ n
  pub is : d at ≡ x
  pub before : (k : ℕ) → k < at → d k ≡ Open

shorter : (o d : ℕ → Outcome) (n : ℕ) → IsFold o d (suc n) → IsFold o d n
shorter o d n f = record { starts = f.starts; first = f.first; step = λ k lt. f.step k (omega (arith, lt)) }

pub open_all : (o d : ℕ → Outcome) (n : ℕ) → IsFold o d n → o n ≡ Open → (k : ℕ) → k ≤ n → d k ≡ Open
open_all o d zero f e k le = (let z : k ≡ 0 = omega (arith, le) in rw z f.first)
open_all o d (suc n) f e k le =
    let p = open_parts (o n) (d (suc n)) (sym (f.step n (omega arith)) ∙ e) in
    elim (cases_lt k (suc n)) [
      | inl lt ↦ open_all o d n (shorter o d n f) p.0 k (omega (arith, lt))
      | inr ge ↦ (let z : k ≡ suc n = omega (arith, ge, le) in rw z p.1)
    ]

pub open_from : (o d : ℕ → Outcome) (n : ℕ) → IsFold o d n → ((k : ℕ) → k ≤ n → d k ≡ Open) → o n ≡ Open
open_from o d zero f all = f.starts
open_from o d (suc n) f all =
    f.step n (omega arith)
    ∙ ap (λ (x : Outcome). or_later x (d (suc n))) (open_from o d n (shorter o d n f) (λ k le. all k (omega (arith, le))))
    ∙ all (suc n) (omega arith)

longer : (d : ℕ → Outcome) (n : ℕ) (x : Outcome) → IsFirst d n x → IsFirst d (suc n) x
longer d n x i = record { at = i.at; within = omega (arith, i.within); is = i.is; before = i.before }

first_step : (o d : ℕ → Outcome) (n : ℕ) (x y : Outcome) → IsFold o d (suc n) → (x ≡ Open → ⊥) → o n ≡ y → or_later y (d (suc n)) ≡ x → (y ≡ x → (y ≡ Open → ⊥) → IsFirst d n x) → IsFirst d (suc n) x
first_step o d n x Open f done is e old = record {
  at = suc n;
  within = omega arith;
  is = e;
  before = λ k lt. open_all o d n (shorter o d n f) is k (omega (arith, lt));
}
first_step o d n x (Commit h) f done is e old = longer d n x (old e (λ g. absurd (cc)))
first_step o d n x Fail f done is e old = longer d n x (old e (λ g. absurd (cc)))
first_step o d n x Stop f done is e old = longer d n x (old e (λ g. absurd (cc)))

pub first_from : (o d : ℕ → Outcome) (n : ℕ) (x : Outcome) → IsFold o d n → (x ≡ Open → ⊥) → o n ≡ x → IsFirst d n x
first_from o d zero x f done e = absurd (done (sym e ∙ f.starts))
first_from o d (suc n) x f done e =
    first_step o d n x (o n) f done refl (sym (f.step n (omega arith)) ∙ e) (λ is not. first_from o d n x (shorter o d n f) done is)

one_first : (d : ℕ → Outcome) (n : ℕ) (x y : Outcome) → (x ≡ Open → ⊥) → (y ≡ Open → ⊥) → IsFirst d n x → IsFirst d n y → x ≡ y
one_first d n x y x_done y_done i j =
    elim (cases_lt i.at j.at) [
      | inl lt ↦ absurd (x_done (sym i.is ∙ j.before i.at lt))
      | inr ge ↦ elim (cases_lt j.at i.at) [
        | inl lt ↦ absurd (y_done (sym j.is ∙ i.before j.at lt))
        | inr le ↦ (let e : i.at ≡ j.at = omega (arith, ge, le) in sym i.is ∙ ap d e ∙ j.is)
      ]
    ]

first_is : (o d : ℕ → Outcome) (n : ℕ) (x y : Outcome) → IsFold o d n → (x ≡ Open → ⊥) → IsFirst d n x → o n ≡ y → y ≡ x
first_is o d n x Open f done i e = absurd (done (sym i.is ∙ open_all o d n f e i.at i.within))
first_is o d n x (Commit h) f done i e = one_first d n (Commit h) x (λ g. absurd (cc)) done (first_from o d n (Commit h) f (λ g. absurd (cc)) e) i
first_is o d n x Fail f done i e = one_first d n Fail x (λ g. absurd (cc)) done (first_from o d n Fail f (λ g. absurd (cc)) e) i
first_is o d n x Stop f done i e = one_first d n Stop x (λ g. absurd (cc)) done (first_from o d n Stop f (λ g. absurd (cc)) e) i

pub first_to : (o d : ℕ → Outcome) (n : ℕ) (x : Outcome) → IsFold o d n → (x ≡ Open → ⊥) → IsFirst d n x → o n ≡ x
first_to o d n x f done i = first_is o d n x (o n) f done i refl
