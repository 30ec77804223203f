-- The carrying over cancels none but those that are out.
use Rattle.std.proofs.Common.{◌≡◌, ℕ, ◌+◌, List, [], ◌∷◌, true, Some, arith, ap, sym, ◌∙◌, inl, inr, refl, slice_get, zero, suc, map, ◌||◌, ◌⊎◌, length}
use Rattle.std.specs.List.{list_any}
use Rattle.std.proofs.Math.Bool.{or-true}
use Rattle.std.proofs.lemmas.Bool.{cases_Bool, false≢true}
use Rattle.voters.specs.Marks.{canceling}
use Rattle.voters.specs.Refusals.{is_stopped}
use Rattle.voters.specs.Results.{result_of, result_at}
use Rattle.voters.specs.Votes.{Votes, changed_at}
use Rattle.voters.specs.declared.mark.Mark.{Mark}
use Rattle.voters.proofs.KeepLemmas.{same_index, same_index-is}
use Rattle.txmanager.specs.Readings.{IsOutBefore, is_canceled, is_out_at}
use Rattle.txmanager.specs.Rounds.{carried, carried_over, is_gone, is_out, out_from, out_of, without, without_all}

canceled_at : (v w : ℕ) (bs : List Mark) → is_canceled (slice_get (changed_at w canceling bs) v) ≡ true → (is_canceled (slice_get bs v) ≡ true) ⊎ (same_index v w ≡ true)
canceled_at v w [] e = absurd (false≢true e)
canceled_at zero zero (b ∷ bs) e = inr refl
canceled_at (suc v) zero (b ∷ bs) e = inl e
canceled_at zero (suc w) (b ∷ bs) e = inl e
canceled_at (suc v) (suc w) (b ∷ bs) e = canceled_at v w bs e

canceled_without : (v w : ℕ) (x : Votes) → is_canceled (slice_get (without w x).marks v) ≡ true → (is_canceled (slice_get x.marks v) ≡ true) ⊎ (same_index v w ≡ true)
canceled_without v w x e =
    elim (cases_Bool (is_stopped x.outcome || is_gone (slice_get x.marks w))) [
      | inl t ↦ inl (rw t at e)
      | inr f ↦ canceled_at v w x.marks (rw f at e)
    ]

canceled_without_all : (v : ℕ) (ws : List ℕ) (x : Votes) → is_canceled (slice_get (without_all ws x).marks v) ≡ true → (is_canceled (slice_get x.marks v) ≡ true) ⊎ (list_any (same_index v) ws ≡ true)
canceled_without_all v [] x e = inl e
canceled_without_all v (w ∷ ws) x e =
    elim (canceled_without_all v ws (without w x) e) [
      | inr t ↦ inr (rw t (or-true (same_index v w)))
      | inl c ↦ elim (canceled_without v w x c) [
        | inl d ↦ inl d
        | inr t ↦ inr (rw t refl)
      ]
    ]

member_out : (x : Votes) (v : ℕ) (bs : List Mark) (i : ℕ) → ((k : ℕ) → slice_get bs k ≡ slice_get x.marks (i + k)) → list_any (same_index v) (out_from x i bs) ≡ true → is_out_at (result_at x v) ≡ true
member_out x v [] i at e = absurd (false≢true e)
member_out x v (b ∷ bs) i at e =
    let there : slice_get x.marks i ≡ Some b = ap (λ (n : ℕ). slice_get x.marks n) (let z : i ≡ i + 0 = omega arith in z) ∙ sym (at 0) in
    let next : (k : ℕ) → slice_get bs k ≡ slice_get x.marks (i + 1 + k) = λ k. at (suc k) ∙ ap (λ (n : ℕ). slice_get x.marks n) (let z : i + suc k ≡ i + 1 + k = omega arith in z) in
    elim (cases_Bool (is_out (result_of x b))) [
      | inl t ↦ elim (cases_Bool (same_index v i)) [
        | inl s ↦ (let z : v ≡ i = same_index-is v i s in rw (z, there) t)
        | inr f ↦ member_out x v bs (i + 1) next (rw (t, f) at e)
      ]
      | inr f ↦ member_out x v bs (i + 1) next (rw f at e)
    ]

-- who is among those that are out is out
member_out_of : (x : Votes) (v : ℕ) → list_any (same_index v) (out_of x) ≡ true → is_out_at (result_at x v) ≡ true
member_out_of x v e = member_out x v x.marks 0 (λ k. ap (λ (n : ℕ). slice_get x.marks n) (let z : k ≡ 0 + k = omega arith in z)) e

there_in_each : (f : Votes → Votes) (xs : List Votes) (i : ℕ) (x : Votes) → slice_get xs i ≡ Some x → slice_get (map f xs) i ≡ Some (f x)
there_in_each f [] i x there = absurd (cc)
there_in_each f (y ∷ ys) zero x there = (let e : y ≡ x = cc in rw e refl)
there_in_each f (y ∷ ys) (suc i) x there = there_in_each f ys i x there

only_from : (n : ℕ) (xs : List Votes) (i v : ℕ) (x y : Votes) → slice_get xs i ≡ Some x → slice_get (carried_over n xs) i ≡ Some y → is_canceled (slice_get y.marks v) ≡ true
    → (is_canceled (slice_get x.marks v) ≡ true) ⊎ IsOutBefore v i (carried_over n xs)
only_from zero xs i v x y at_x at_y e = (let same : x ≡ y = cc in inl (ap (λ (w : Votes). is_canceled (slice_get w.marks v)) same ∙ e))
only_from (suc n) [] i v x y at_x at_y e = absurd (cc)
only_from (suc n) (z ∷ zs) zero v x y at_x at_y e = (let same : x ≡ y = cc in inl (ap (λ (w : Votes). is_canceled (slice_get w.marks v)) same ∙ e))
only_from (suc n) (z ∷ zs) (suc i) v x y at_x at_y e =
    let f : Votes → Votes = without_all (out_of z) in
    elim (only_from n (map f zs) i v (f x) y (there_in_each f zs i x at_x) at_y e) [
      | inr r ↦ inr (record { at = suc r.at; sub = r.sub; before = omega (arith, r.before); there = r.there; out = r.out })
      | inl c ↦ elim (canceled_without_all v (out_of z) x c) [
        | inl d ↦ inl d
        | inr t ↦ inr (record { at = 0; sub = z; before = omega arith; there = refl; out = member_out_of z v t })
      ]
    ]

pub only : (xs : List Votes) (i v : ℕ) (x y : Votes) → slice_get xs i ≡ Some x → slice_get (carried xs) i ≡ Some y → is_canceled (slice_get y.marks v) ≡ true → (is_canceled (slice_get x.marks v) ≡ true) ⊎ IsOutBefore v i (carried xs)
only xs i v x y at_x at_y e = only_from (length xs) xs i v x y at_x at_y e
