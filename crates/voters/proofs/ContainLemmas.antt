-- What the tests of the rule say of the acts that a list contains.
use Rattle.std.proofs.Common.{◌≡◌, ℕ, List, [], ◌∷◌, Bool, true, ap, sym, ◌∙◌, inl, inr, refl, ◌==◌, ◌↔◌}
use Rattle.std.specs.Prelude.{not}
use Rattle.std.specs.List.{list_any, Contains}
use Rattle.std.proofs.lemmas.Bool.{cases_Bool, false≢true, true≢false, eqb-true, eq-eqb, and_parts, and_from}
use Rattle.std.proofs.lemmas.List.Elements.{Contains-append_left, Contains-append_right, Contains-push}
use Rattle.std.proofs.lemmas.List.Folds.{list_any_at}
use Rattle.px_base.specs.declared.hash.Hash.{Hash}
use Rattle.px_base.specs.Hash.{same_hash, same_hash-Decides}
use Rattle.voters.specs.declared.act.Act.{Act}
use Rattle.voters.specs.declared.act.Act.TheVariants.{Cast, Cancel, Stop as StopAct}
use Rattle.voters.specs.Rule.{is_cast_of, is_cancel_of, has_cast, has_cast_of, has_cancel, stands, is_open}
use Rattle.voters.proofs.AgreeLemmas.{no_cast_of}

contains_from : {A : Type 0} (p : A → Bool) (x : A) (xs : List A) → ((y : A) → p y ≡ true → y ≡ x) → list_any p xs ≡ true → Contains xs x
contains_from p x [] only e = absurd (false≢true e)
contains_from p x (y ∷ ys) only e =
    elim (cases_Bool (p y)) [
      | inl t ↦ (let same : y ≡ x = only y t in rw same (Contains-append_left (x ∷ []) ys x (Contains-push [] x)))
      | inr f ↦ Contains-append_right (y ∷ []) ys x (contains_from p x ys only (rw f at e))
    ]

contains_to : {A : Type 0} (p : A → Bool) (x : A) (xs : List A) → p x ≡ true → Contains xs x → list_any p xs ≡ true
contains_to p x xs passes c = list_any_at p xs c.0 x c.1 (ap p c.2 ∙ passes)

-- only a cast of the hash by the voter passes its test

only_cast : (v : ℕ) (h : Hash) (a : Act) → is_cast_of v h a ≡ true → a ≡ Cast v h
only_cast v h (Cast w g) e =
    let p = and_parts (w == v) (same_hash g h) e in
    ap (λ (n : ℕ). Cast n g) (eqb-true w v p.0) ∙ ap (λ (k : Hash). Cast v k) ((same_hash-Decides g h).0 p.1)
only_cast v h (Cancel w) e = absurd (false≢true e)
only_cast v h StopAct e = absurd (false≢true e)

own_cast : (v : ℕ) (h : Hash) → is_cast_of v h (Cast v h) ≡ true
own_cast v h = and_from (v == v) (same_hash h h) (eq-eqb v v refl) ((same_hash-Decides h h).1 refl)

only_cancel : (v : ℕ) (a : Act) → is_cancel_of v a ≡ true → a ≡ Cancel v
only_cancel v (Cast w g) e = absurd (false≢true e)
only_cancel v (Cancel w) e = ap (λ (n : ℕ). Cancel n) (eqb-true w v e)
only_cancel v StopAct e = absurd (false≢true e)

not_canceled_to : (acts : List Act) (v : ℕ) → not (has_cancel acts v) ≡ true → Contains acts (Cancel v) → ⊥
not_canceled_to acts v e c =
    let there : has_cancel acts v ≡ true = contains_to (is_cancel_of v) (Cancel v) acts (eq-eqb v v refl) c in
    false≢true (rw there at e)

not_canceled_from : (acts : List Act) (v : ℕ) → (Contains acts (Cancel v) → ⊥) → not (has_cancel acts v) ≡ true
not_canceled_from acts v none =
    elim (cases_Bool (has_cancel acts v)) [
      | inl t ↦ absurd (none (contains_from (is_cancel_of v) (Cancel v) acts (only_cancel v) t))
      | inr f ↦ rw f refl
    ]

-- a vote stands where its cast is in the list, and no cancel of its voter
pub stands_is : (acts : List Act) (v : ℕ) (h : Hash) → (stands acts v h ≡ true) ↔ (Contains acts (Cast v h) × ¬ Contains acts (Cancel v))
stands_is acts v h = (
  λ e. (let p = and_parts (has_cast_of acts v h) (not (has_cancel acts v)) e in (contains_from (is_cast_of v h) (Cast v h) acts (only_cast v h) p.0, not_canceled_to acts v p.1)),
  λ d. and_from (has_cast_of acts v h) (not (has_cancel acts v)) (contains_to (is_cast_of v h) (Cast v h) acts (own_cast v h) d.0) (not_canceled_from acts v d.1),
)

-- who casts casts some hash
casts_some : (acts : List Act) (v : ℕ) → has_cast acts v ≡ true → (h : Hash) × (has_cast_of acts v h ≡ true)
casts_some [] v e = absurd (false≢true e)
casts_some (Cast w g ∷ acts) v e =
    elim (cases_Bool (w == v)) [
      | inl t ↦ (g, rw (t, (same_hash-Decides g g).1 refl) refl)
      | inr f ↦ (let rest = casts_some acts v (rw f at e) in (rest.0, rw f rest.1))
    ]
casts_some (Cancel w ∷ acts) v e = casts_some acts v e
casts_some (StopAct ∷ acts) v e = casts_some acts v e

no_cast_to : (acts : List Act) (v : ℕ) → not (has_cast acts v) ≡ true → (h : Hash) → Contains acts (Cast v h) → ⊥
no_cast_to acts v e h c =
    elim (cases_Bool (has_cast acts v)) [
      | inl t ↦ false≢true (rw t at e)
      | inr f ↦ true≢false (sym (contains_to (is_cast_of v h) (Cast v h) acts (own_cast v h) c) ∙ no_cast_of acts v h f)
    ]

no_cast_from : (acts : List Act) (v : ℕ) → ((h : Hash) → Contains acts (Cast v h) → ⊥) → not (has_cast acts v) ≡ true
no_cast_from acts v none =
    elim (cases_Bool (has_cast acts v)) [
      | inl t ↦ (let s = casts_some acts v t in absurd (none s.0 (contains_from (is_cast_of v s.0) (Cast v s.0) acts (only_cast v s.0) s.1)))
      | inr f ↦ rw f refl
    ]

-- a voter is open where neither a cast of it nor a cancel is in the list
pub is_open_is : (acts : List Act) (v : ℕ) → (is_open acts v ≡ true) ↔ (((h : Hash) → ¬ Contains acts (Cast v h)) × ¬ Contains acts (Cancel v))
is_open_is acts v = (
  λ e. (let p = and_parts (not (has_cast acts v)) (not (has_cancel acts v)) e in (no_cast_to acts v p.0, not_canceled_to acts v p.1)),
  λ d. and_from (not (has_cast acts v)) (not (has_cancel acts v)) (no_cast_from acts v d.0) (not_canceled_from acts v d.1),
)
