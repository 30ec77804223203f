-- Where no voter casts twice, the votes that stand in a list of acts are those of the marks.
use Rattle.std.proofs.Common.{◌≡◌, ℕ, ◌+◌, ◌≤◌, ◌<◌, List, [], ◌∷◌, Bool, true, false, Option, None, arith, inl, inr, refl, ◌==◌, ◌&&◌, ◌||◌, if◌then◌else◌, length, take, ◌⊎◌, ◌↔◌}
use Rattle.std.specs.Prelude.{not, is_none, count_by}
use Rattle.std.specs.List.{list_any}
use Rattle.std.proofs.lemmas.Bool.{cases_Bool, true≢false}
use Rattle.std.proofs.lemmas.List.Sums.{sum_by-cons, sum_by-take-le}
use Rattle.px_base.specs.declared.hash.Hash.{Hash}
use Rattle.px_base.specs.Hash.{same_hash}
use Rattle.voters.specs.declared.act.Act.{Act}
use Rattle.voters.specs.declared.act.Act.TheVariants.{Cast, Cancel, Stop as StopAct}
use Rattle.voters.specs.declared.outcome.Outcome.{Outcome}
use Rattle.voters.specs.declared.outcome.Outcome.TheVariants.{Open, Commit, Fail, Stop}
use Rattle.voters.specs.MarkRule.{vote_of, is_canceled, mark_of, marks_from, marks_of, MarksDecide}
use Rattle.voters.specs.Marks.{share, open_share, standing_weight, open_weight, is_hash}
use Rattle.voters.specs.Rule.{is_cast_by, has_cast, has_cast_of, has_cancel, CastsOnce, stands, is_open, weight_from, weight_standing, weight_open, IsLost, Decides}
use Rattle.voters.specs.Votes.{Poll}

-- one voter

pub cancel_agrees : (acts : List Act) (v : ℕ) → has_cancel acts v ≡ is_canceled acts v
cancel_agrees [] v = refl
cancel_agrees (Cast w g ∷ acts) v = cancel_agrees acts v
cancel_agrees (Cancel w ∷ acts) v =
    elim (cases_Bool (w == v)) [
      | inl t ↦ rw t refl
      | inr f ↦ rw f (cancel_agrees acts v)
    ]
cancel_agrees (StopAct ∷ acts) v = cancel_agrees acts v

pub cast_agrees : (acts : List Act) (v : ℕ) → has_cast acts v ≡ not (is_none (vote_of acts v))
cast_agrees [] v = refl
cast_agrees (Cast w g ∷ acts) v =
    elim (cases_Bool (w == v)) [
      | inl t ↦ rw t refl
      | inr f ↦ rw f (cast_agrees acts v)
    ]
cast_agrees (Cancel w ∷ acts) v = cast_agrees acts v
cast_agrees (StopAct ∷ acts) v = cast_agrees acts v

-- who casts nothing casts no hash
pub no_cast_of : (acts : List Act) (v : ℕ) (h : Hash) → has_cast acts v ≡ false → has_cast_of acts v h ≡ false
no_cast_of [] v h e = refl
no_cast_of (Cast w g ∷ acts) v h e =
    elim (cases_Bool (w == v)) [
      | inl t ↦ absurd (true≢false (rw t at e))
      | inr f ↦ rw f (no_cast_of acts v h (rw f at e))
    ]
no_cast_of (Cancel w ∷ acts) v h e = no_cast_of acts v h e
no_cast_of (StopAct ∷ acts) v h e = no_cast_of acts v h e

-- how many pass a test, with one element more

abbrev pub one_if : Bool → ℕ
one_if b = if b then 1 else 0

count_yes : {A : Type 0} (p : A → Bool) (x : A) (xs : List A) → p x ≡ true → count_by p (x ∷ xs) ≡ 1 + count_by p xs
count_yes p x xs t =
    let one : one_if (p x) ≡ 1 = rw t refl in
    omega (arith, sum_by-cons (λ y. one_if (p y)) x xs, one)

count_no : {A : Type 0} (p : A → Bool) (x : A) (xs : List A) → p x ≡ false → count_by p (x ∷ xs) ≡ count_by p xs
count_no p x xs f =
    let none : one_if (p x) ≡ 0 = rw f refl in
    omega (arith, sum_by-cons (λ y. one_if (p y)) x xs, none)

-- a test that no element passes
none_passes : {A : Type 0} (p : A → Bool) (xs : List A) → count_by p xs ≤ 0 → list_any p xs ≡ false
none_passes p [] le = refl
none_passes p (x ∷ xs) le =
    elim (cases_Bool (p x)) [
      | inl t ↦ absurd (omega (arith, count_yes p x xs t, le))
      | inr f ↦ rw f (none_passes p xs (omega (arith, count_no p x xs f, le)))
    ]

or_false : (b : Bool) → (b || false) ≡ b
or_false true = refl
or_false false = refl

-- the hash of a voter's only cast is the one of its mark
pub hash_agrees : (acts : List Act) (v : ℕ) (h : Hash) → count_by (is_cast_by v) acts ≤ 1 → has_cast_of acts v h ≡ is_hash h (vote_of acts v)
hash_agrees [] v h once = refl
hash_agrees (Cast w g ∷ acts) v h once =
    elim (cases_Bool (w == v)) [
      | inl t ↦
          (let rest : has_cast_of acts v h ≡ false = no_cast_of acts v h (none_passes (is_cast_by v) acts (omega (arith, count_yes (is_cast_by v) (Cast w g) acts t, once))) in
          rw (t, rest) (or_false (same_hash g h)))
      | inr f ↦ rw f (hash_agrees acts v h (omega (arith, count_no (is_cast_by v) (Cast w g) acts f, once)))
    ]
hash_agrees (Cancel w ∷ acts) v h once = hash_agrees acts v h (omega (arith, count_no (is_cast_by v) (Cancel w) acts refl, once))
hash_agrees (StopAct ∷ acts) v h once = hash_agrees acts v h (omega (arith, count_no (is_cast_by v) StopAct acts refl, once))

share_parts : (w : ℕ) (h : Hash) (vote : Option Hash) (canceled : Bool) → (if is_hash h (if canceled then None else vote) then w else 0) ≡ (if is_hash h vote && not canceled then w else 0)
share_parts w h vote true = elim (cases_Bool (is_hash h vote)) [ inl t ↦ rw t refl | inr f ↦ rw f refl ]
share_parts w h vote false = elim (cases_Bool (is_hash h vote)) [ inl t ↦ rw t refl | inr f ↦ rw f refl ]

share_agrees : (acts : List Act) (v w : ℕ) (h : Hash) → CastsOnce acts → share h (mark_of acts v w) ≡ (if stands acts v h then w else 0)
share_agrees acts v w h once =
    rw (hash_agrees acts v h (once v), cancel_agrees acts v) (share_parts w h (vote_of acts v) (is_canceled acts v))

open_parts : (w : ℕ) (none canceled : Bool) → (if not canceled && none then w else 0) ≡ (if not (not none) && not canceled then w else 0)
open_parts w true true = refl
open_parts w true false = refl
open_parts w false true = refl
open_parts w false false = refl

open_share_agrees : (acts : List Act) (v w : ℕ) → open_share (mark_of acts v w) ≡ (if is_open acts v then w else 0)
open_share_agrees acts v w =
    rw (cast_agrees acts v, cancel_agrees acts v) (open_parts w (is_none (vote_of acts v)) (is_canceled acts v))

-- the sums

standing_from : (ws : List ℕ) (i : ℕ) (acts : List Act) (h : Hash) → CastsOnce acts → standing_weight h (marks_from acts i ws) ≡ weight_from (λ v. stands acts v h) i ws
standing_from [] i acts h once = refl
standing_from (w ∷ ws) i acts h once =
    omega (arith, sum_by-cons (share h) (mark_of acts i w) (marks_from acts (i + 1) ws), share_agrees acts i w h once, standing_from ws (i + 1) acts h once)

pub standing_agrees : (poll : Poll) (acts : List Act) (h : Hash) → CastsOnce acts → standing_weight h (marks_of poll acts) ≡ weight_standing poll acts h
standing_agrees poll acts h once = standing_from poll.weights 0 acts h once

open_from : (ws : List ℕ) (i : ℕ) (acts : List Act) → open_weight (marks_from acts i ws) ≡ weight_from (is_open acts) i ws
open_from [] i acts = refl
open_from (w ∷ ws) i acts =
    omega (arith, sum_by-cons open_share (mark_of acts i w) (marks_from acts (i + 1) ws), open_share_agrees acts i w, open_from ws (i + 1) acts)

pub open_agrees : (poll : Poll) (acts : List Act) → open_weight (marks_of poll acts) ≡ weight_open poll acts
open_agrees poll acts = open_from poll.weights 0 acts

-- a prefix

pub once-take : (acts : List Act) (n : ℕ) → CastsOnce acts → CastsOnce (take n acts)
once-take acts n once = λ v. omega (arith, sum_by-take-le (λ a. one_if (is_cast_by v a)) acts n, once v)

-- what is decided

-- a voter that passes a test
record Passes (test : ℕ → Bool) (i n : ℕ) : Type 0 where
  voter : ℕ
  within : voter < i + n
  passes : test voter ≡ true

-- a weight is that of somebody, or none
some_or_none : (test : ℕ → Bool) (i : ℕ) (ws : List ℕ) → Passes test i (length ws) ⊎ (weight_from test i ws ≡ 0)
some_or_none test i [] = inr refl
some_or_none test i (w ∷ ws) =
    elim (cases_Bool (test i)) [
      | inl t ↦ inl (record { voter = i; within = omega arith; passes = t })
      | inr f ↦ elim (some_or_none test (i + 1) ws) [
        | inl p ↦ inl (record { voter = p.voter; within = omega (arith, p.within); passes = p.passes })
        | inr none ↦ inr (rw f (omega (arith, none)))
      ]
    ]

lost_from : (poll : Poll) (acts : List Act) → IsLost poll acts → (h : Hash) → weight_standing poll acts h + weight_open poll acts < poll.threshold
lost_from poll acts lost h =
    elim (some_or_none (λ v. stands acts v h) 0 poll.weights) [
      | inl p ↦ lost.each p.voter h (omega (arith, p.within)) p.passes
      | inr none ↦ omega (arith, none, lost.new)
    ]

lost_to : (poll : Poll) (acts : List Act) → ((h : Hash) → weight_standing poll acts h + weight_open poll acts < poll.threshold) → IsLost poll acts
lost_to poll acts each =
    let no_vote : Hash = record { 0 = [] } in
    record { new = omega (arith, each no_vote); each = λ v h within votes. each h }

-- the marks and the rule decide alike
pub decides_agree : (poll : Poll) (acts : List Act) (o : Outcome) → CastsOnce acts → MarksDecide poll acts o ↔ Decides poll acts o
decides_agree poll acts Open once = (λ d. d, λ d. d)
decides_agree poll acts (Commit h) once =
    (λ d. omega (arith, standing_agrees poll acts h once, d), λ d. omega (arith, standing_agrees poll acts h once, d))
decides_agree poll acts Fail once = (
  λ d. (
    λ h c. d.0 h (omega (arith, standing_agrees poll acts h once, c)),
    lost_to poll acts (λ h. omega (arith, standing_agrees poll acts h once, open_agrees poll acts, d.1 h)),
  ),
  λ d. (
    λ h c. d.0 h (omega (arith, standing_agrees poll acts h once, c)),
    λ h. omega (arith, standing_agrees poll acts h once, open_agrees poll acts, lost_from poll acts d.1 h),
  ),
)
decides_agree poll acts Stop once = (
  λ d. (
    λ h c. d.0 h (omega (arith, standing_agrees poll acts h once, c)),
    λ lost. d.1 (λ h. omega (arith, standing_agrees poll acts h once, open_agrees poll acts, lost_from poll acts lost h)),
    d.2,
  ),
  λ d. (
    λ h c. d.0 h (omega (arith, standing_agrees poll acts h once, c)),
    λ lost. d.1 (lost_to poll acts (λ h. omega (arith, standing_agrees poll acts h once, open_agrees poll acts, lost h))),
    d.2,
  ),
)
