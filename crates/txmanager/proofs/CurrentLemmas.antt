-- The carrying over leaves the current subtransaction of the voter that casts as the cast leaves it.
use Rattle.std.proofs.Common.{◌≡◌, ℕ, ◌+◌, List, [], ◌∷◌, Bool, true, false, Option, None, Some, arith, ap, ◌∙◌, inl, inr, refl, slice_get, zero, suc, map, ◌||◌, length}
use Rattle.std.specs.List.{AllByRecursion}
use Rattle.std.proofs.lemmas.Bool.{cases_Bool, false≢true}
use Rattle.px_base.specs.declared.hash.Hash.{Hash}
use Rattle.voters.specs.Refusals.{is_stopped}
use Rattle.voters.specs.Votes.{Poll, Votes, blank, start, after, casting, changed_at}
use Rattle.voters.specs.declared.act.Act.TheVariants as act
use Rattle.voters.specs.declared.mark.Mark.{Mark}
use Rattle.voters.specs.declared.outcome.Outcome.{Outcome}
use Rattle.voters.specs.declared.outcome.Outcome.TheVariants.{Stop}
use Rattle.voters.proofs.KeepLemmas.{changed_there, same_index}
use Rattle.txmanager.specs.Readings.{is_canceled}
use Rattle.txmanager.specs.Rounds.{TxAct, Cast, acted, after_act, after_acts, carried_over, current, is_gone, opened, out_from, out_of, without, without_all}
use Rattle.txmanager.proofs.OutLemmas.{AllSettled, IsCarried, OverPanel, Settled, carried_is, over_acted, over_acts, over_opened, stop_stays}

-- before any act nobody is out

none_out : (poll : Poll) (ws : List ℕ) (i : ℕ) → out_from (start poll) i (map blank ws) ≡ []
none_out poll [] i = refl
none_out poll (w ∷ ws) i = none_out poll ws (i + 1)

none_settled : (vs : List ℕ) (xs : List Votes) → vs ≡ [] → AllByRecursion (λ y. AllSettled vs y) xs
none_settled vs [] is = tt
none_settled vs (x ∷ xs) is = (rw is tt, none_settled vs xs is)

opened_carried : (poll : Poll) (n : ℕ) → IsCarried (opened poll n)
opened_carried poll zero = tt
opened_carried poll (suc n) = (none_settled (out_of (start poll)) (opened poll n) (none_out poll poll.weights 0), opened_carried poll n)

acts_carried : (m : ℕ) (acts : List TxAct) (xs : List Votes) → OverPanel m xs → IsCarried xs → IsCarried (after_acts acts xs)
acts_carried m [] xs over is = is
acts_carried m (a ∷ acts) xs over is =
    acts_carried m acts (after_act xs a) (over_acts m (a ∷ []) xs over) (carried_is m (length (acted a xs)) (acted a xs) (omega arith) (over_acted m a xs over))

-- a voter that is settled is not taken out again

gone : (x : Votes) (v : ℕ) (o : Option Mark) → slice_get x.marks v ≡ o → is_canceled o ≡ true → is_gone (slice_get x.marks v) ≡ true
gone x v None there e = absurd (false≢true e)
gone x v (Some b) there e = rw there e

stopped_or : (o : Outcome) (b : Bool) → o ≡ Stop → (is_stopped o || b) ≡ true
stopped_or o b e = rw e refl

or_gone : (o : Outcome) (b : Bool) → b ≡ true → (is_stopped o || b) ≡ true
or_gone o true e = elim (cases_Bool (is_stopped o)) [ inl t ↦ rw t refl | inr f ↦ rw f refl ]
or_gone o false e = absurd (false≢true e)

without_same : (v : ℕ) (x : Votes) → Settled v x → without v x ≡ x
without_same v x (inl e) = rw (stopped_or x.outcome (is_gone (slice_get x.marks v)) e) refl
without_same v x (inr e) = rw (or_gone x.outcome (is_gone (slice_get x.marks v)) (gone x v (slice_get x.marks v) refl e)) refl

without_all_same : (vs : List ℕ) (x : Votes) → AllSettled vs x → without_all vs x ≡ x
without_all_same [] x all = refl
without_all_same (v ∷ vs) x all = ap (without_all vs) (without_same v x all.0) ∙ without_all_same vs x all.1

each_same : (vs : List ℕ) (xs : List Votes) → AllByRecursion (λ y. AllSettled vs y) xs → map (without_all vs) xs ≡ xs
each_same vs [] all = refl
each_same vs (x ∷ xs) all = ap (λ (y : Votes). y ∷ map (without_all vs) xs) (without_all_same vs x all.0) ∙ ap (λ (ys : List Votes). x ∷ ys) (each_same vs xs all.1)

-- a cast leaves the settled settled

canceled_cast : (v w : ℕ) (h : Hash) (bs : List Mark) (o : Option Mark) → slice_get bs v ≡ o → is_canceled o ≡ true → is_canceled (slice_get (changed_at w (casting h) bs) v) ≡ true
canceled_cast v w h bs None there e = absurd (false≢true e)
canceled_cast v w h bs (Some b) there e =
    rw (changed_there bs w v (casting h) b there) (elim (cases_Bool (same_index w v)) [ inl t ↦ rw t e | inr f ↦ rw f e ])

settled_cast : (v w : ℕ) (h : Hash) (x : Votes) → Settled v x → Settled v (after x (act.Cast w h))
settled_cast v w h x (inl e) = inl (stop_stays x (act.Cast w h) e)
settled_cast v w h x (inr e) = inr (canceled_cast v w h x.marks (slice_get x.marks v) refl e)

all_settled_cast : (vs : List ℕ) (w : ℕ) (h : Hash) (x : Votes) → AllSettled vs x → AllSettled vs (after x (act.Cast w h))
all_settled_cast [] w h x all = tt
all_settled_cast (v ∷ vs) w h x all = (settled_cast v w h x all.0, all_settled_cast vs w h x all.1)

settled_changed : (vs : List ℕ) (at w : ℕ) (h : Hash) (xs : List Votes) → AllByRecursion (λ y. AllSettled vs y) xs → AllByRecursion (λ y. AllSettled vs y) (changed_at at (λ x. after x (act.Cast w h)) xs)
settled_changed vs at w h [] all = tt
settled_changed vs zero w h (x ∷ xs) all = (all_settled_cast vs w h x all.0, all.1)
settled_changed vs (suc at) w h (x ∷ xs) all = (all.0, settled_changed vs at w h xs all.1)

there_changed : (at w : ℕ) (h : Hash) (xs : List Votes) (x : Votes) → slice_get xs at ≡ Some x → slice_get (changed_at at (λ y. after y (act.Cast w h)) xs) at ≡ Some (after x (act.Cast w h))
there_changed at w h [] x there = absurd (cc)
there_changed zero w h (y ∷ ys) x there = (let e : y ≡ x = cc in rw e refl)
there_changed (suc at) w h (y ∷ ys) x there = there_changed at w h ys x there

-- the one at a place, after a cast there and the carrying over
leaves : (n at w : ℕ) (h : Hash) (xs : List Votes) (x : Votes) → IsCarried xs → slice_get xs at ≡ Some x → slice_get (carried_over n (changed_at at (λ y. after y (act.Cast w h)) xs)) at ≡ Some (after x (act.Cast w h))
leaves zero at w h xs x is there = there_changed at w h xs x there
leaves (suc n) at w h [] x is there = absurd (cc)
leaves (suc n) zero w h (y ∷ ys) x is there = (let e : y ≡ x = cc in rw e refl)
leaves (suc n) (suc at) w h (y ∷ ys) x is there =
    let later = changed_at at (λ z. after z (act.Cast w h)) ys in
    let same : map (without_all (out_of y)) later ≡ later = each_same (out_of y) later (settled_changed (out_of y) at w h ys is.0) in
    ap (λ (zs : List Votes). slice_get (carried_over n zs) at) same ∙ leaves n at w h ys x is.1 there

pub current_left : (poll : Poll) (n voter : ℕ) (acts : List TxAct) (hash : Hash) (sub : Votes)
    → slice_get (after_acts acts (opened poll n)) (current voter (after_acts acts (opened poll n))) ≡ Some sub
    → slice_get (after_act (after_acts acts (opened poll n)) (Cast voter hash)) (current voter (after_acts acts (opened poll n))) ≡ Some (after sub (act.Cast voter hash))
current_left poll n voter acts hash sub there =
    let xs = after_acts acts (opened poll n) in
    leaves (length (acted (Cast voter hash) xs)) (current voter xs) voter hash xs sub (acts_carried (length poll.weights) acts (opened poll n) (over_opened poll n) (opened_carried poll n)) there
