-- A step keeps what is true of the votes.
use Rattle.std.proofs.Common.{◌≡◌, ℕ, ◌≤◌, List, [], ◌∷◌, ◌++◌, Bool, true, false, Option, None, Some, arith, ap, sym, ◌∙◌, inl, inr, refl, slice_get, set, sum_by, zero, suc, nat_le}
use Rattle.std.specs.List.{find}
use Rattle.std.proofs.lemmas.Bool.{cases_Bool, true≢false, leb-true}
use Rattle.std.proofs.lemmas.List.Sums.{sum_by-cons}
use Rattle.px_base.specs.declared.hash.Hash.{Hash}
use Rattle.px_base.specs.Hash.{same_hash}
use Rattle.voters.specs.declared.act.Act.{Act}
use Rattle.voters.specs.declared.act.Act.TheVariants.{Cast, Cancel, Stop as StopAct}
use Rattle.voters.specs.declared.mark.Mark.{Mark}
use Rattle.voters.specs.declared.outcome.Outcome.{Outcome}
use Rattle.voters.specs.declared.outcome.Outcome.TheVariants.{Open, Commit, Fail, Stop}
use Rattle.voters.specs.Marks.{share, standing_weight, standing_hashes, total_weight, mark_weight, canceling, committed_hash, is_lost}
use Rattle.voters.specs.Results.{result_by, result_of, standing_of, is_committed, committed_in}
use Rattle.voters.specs.Verdict.{Standing}
use Rattle.voters.specs.Sub.{IsSound}
use Rattle.voters.specs.Votes.{Votes, after, run, changed_at, casting, marks_after, decided, decision, or_later, is_stop}
use Rattle.voters.proofs.MarkLemmas.{same_hash-sym}
use Rattle.voters.proofs.OutcomeLemmas.{decided_open, or_later-done}

pub changed_at-set : {A : Type 0} (xs : List A) (v : ℕ) (f : A → A) (x : A) → slice_get xs v ≡ Some x → changed_at v f xs ≡ set xs v (f x)
changed_at-set [] v f x there = absurd (cc)
changed_at-set (y ∷ ys) zero f x there = (let e : y ≡ x = cc in rw e refl)
changed_at-set (y ∷ ys) (suc v) f x there = rw (changed_at-set ys v f x there) refl

pub sum-changed_same : (g : Mark → ℕ) (f : Mark → Mark) (bs : List Mark) (v : ℕ) → ((b : Mark) → slice_get bs v ≡ Some b → g (f b) ≡ g b) → sum_by g (changed_at v f bs) ≡ sum_by g bs
sum-changed_same g f [] v same = refl
sum-changed_same g f (b ∷ bs) zero same = omega (arith, sum_by-cons g (f b) bs, sum_by-cons g b bs, same b refl)
sum-changed_same g f (b ∷ bs) (suc v) same = omega (arith, sum_by-cons g b (changed_at v f bs), sum_by-cons g b bs, sum-changed_same g f bs v same)

pub sum-changed_more : (g : Mark → ℕ) (f : Mark → Mark) (bs : List Mark) (v : ℕ) → ((b : Mark) → g b ≤ g (f b)) → sum_by g bs ≤ sum_by g (changed_at v f bs)
sum-changed_more g f [] v more = omega arith
sum-changed_more g f (b ∷ bs) zero more = omega (arith, sum_by-cons g (f b) bs, sum_by-cons g b bs, more b)
sum-changed_more g f (b ∷ bs) (suc v) more = omega (arith, sum_by-cons g b (changed_at v f bs), sum_by-cons g b bs, sum-changed_more g f bs v more)

-- an act changes no weight
pub total-after : (act : Act) (bs : List Mark) → total_weight (marks_after act bs) ≡ total_weight bs
total-after (Cast v h) bs = sum-changed_same mark_weight (casting h) bs v (λ b there. refl)
total-after (Cancel v) bs = sum-changed_same mark_weight canceling bs v (λ b there. refl)
total-after StopAct bs = refl

casting_share : (g h : Hash) (w : ℕ) (vote : Option Hash) (canceled : Bool) → let b : Mark = record { weight = w; vote = vote; canceled = canceled } in share g b ≤ share g (casting h b)
casting_share g h w None true = omega arith
casting_share g h w None false = omega arith
casting_share g h w (Some k) canceled = omega arith

find_passes : (p : Hash → Bool) (hashes : List Hash) (h : Hash) → find p hashes ≡ Some h → p h ≡ true
find_passes p [] h e = absurd (cc)
find_passes p (g ∷ gs) h e =
    elim (cases_Bool (p g)) [
      | inl t ↦ (let same : Some g ≡ Some h = rw t at e in let is : g ≡ h = cc in ap p (sym is) ∙ t)
      | inr f ↦ find_passes p gs h (rw f at e)
    ]

pub reaches : (threshold : ℕ) (marks : List Mark) (h : Hash) → committed_hash threshold marks ≡ Some h → threshold ≤ standing_weight h marks
unfolding committed_hash
reaches threshold marks h e = leb-true _ _ (find_passes (λ (g : Hash). nat_le threshold (standing_weight g marks)) (standing_hashes marks) h e)

pub commit_parts : (c : Option Hash) (l s : Bool) (h : Hash) → decided c l s ≡ Commit h → c ≡ Some h
commit_parts (Some g) l s h e = (let is : g ≡ h = cc in ap (λ (k : Hash). Some k) is)
commit_parts None true s h e = absurd (cc)
commit_parts None false true h e = absurd (cc)
commit_parts None false false h e = absurd (cc)

pub open_parts : (o later : Outcome) → or_later o later ≡ Open → (o ≡ Open) × (later ≡ Open)
open_parts Open later e = (refl, e)
open_parts (Commit h) later e = absurd (cc)
open_parts Fail later e = absurd (cc)
open_parts Stop later e = absurd (cc)

leads_from : (o : Outcome) (threshold : ℕ) (new : List Mark) (stop : Bool) → ((g : Hash) → o ≡ Commit g → threshold ≤ standing_weight g new) → (g : Hash) → or_later o (decision threshold new stop) ≡ Commit g → threshold ≤ standing_weight g new
unfolding decision
leads_from Open threshold new stop leads g e = reaches threshold new g (commit_parts (committed_hash threshold new) (is_lost threshold new) stop g e)
leads_from (Commit k) threshold new stop leads g e = leads g e
leads_from Fail threshold new stop leads g e = absurd (cc)
leads_from Stop threshold new stop leads g e = absurd (cc)

-- what the marks decide, where they decide nothing
nothing : (threshold : ℕ) (new : List Mark) (stop : Bool) → decision threshold new stop ≡ Open → (committed_hash threshold new ≡ None) × (is_lost threshold new ≡ false) × (stop ≡ false)
unfolding decision
nothing threshold new stop e = decided_open (committed_hash threshold new) (is_lost threshold new) stop e

-- a step that takes nothing from a committed hash
pub sound_after : (votes : Votes) (act : Act) → IsSound votes → ((g : Hash) → votes.outcome ≡ Commit g → standing_weight g votes.marks ≤ standing_weight g (marks_after act votes.marks)) → IsSound (after votes act)
sound_after votes act sound kept =
    let new = marks_after act votes.marks in
    let d = decision votes.threshold new (is_stop act) in
    record {
      most = omega (arith, total-after act votes.marks, sound.most);
      none = λ e. (nothing votes.threshold new (is_stop act) (open_parts votes.outcome d e).1).0;
      not_lost = λ e. (nothing votes.threshold new (is_stop act) (open_parts votes.outcome d e).1).1;
      leads = leads_from votes.outcome votes.threshold new (is_stop act) (λ g e. omega (arith, kept g e, sound.leads g e));
    }

pub cast_sound : (votes : Votes) (v : ℕ) (h : Hash) → IsSound votes → IsSound (after votes (Cast v h))
cast_sound votes v h sound =
    sound_after votes (Cast v h) sound (λ g e. sum-changed_more (share g) (casting h) votes.marks v (λ b. casting_share g h b.weight b.vote b.canceled))

pub stop_sound : (votes : Votes) → IsSound votes → IsSound (after votes StopAct)
stop_sound votes sound = sound_after votes StopAct sound (λ g e. omega arith)

canceled_share : (g : Hash) (w : ℕ) (vote : Option Hash) (canceled : Bool) (standing : Hash → Standing) → is_committed (result_by canceled (Commit g) vote standing) ≡ false → let b : Mark = record { weight = w; vote = vote; canceled = canceled } in share g (canceling b) ≡ share g b
canceled_share g w vote true standing not = refl
canceled_share g w None false standing not = refl
canceled_share g w (Some own) false standing not =
    elim (cases_Bool (same_hash g own)) [
      | inl t ↦ absurd (true≢false (rw t at not))
      | inr f ↦ (let other : same_hash own g ≡ false = same_hash-sym own g ∙ f in rw other refl)
    ]

-- a voter that isn't committed takes nothing from a committed hash
pub cancel_same : (votes : Votes) (v : ℕ) (g : Hash) → committed_in v votes ≡ false → votes.outcome ≡ Commit g → standing_weight g (marks_after (Cancel v) votes.marks) ≡ standing_weight g votes.marks
cancel_same votes v g not e =
    sum-changed_same (share g) canceling votes.marks v
    (λ b there.
    let here : is_committed (result_of votes b) ≡ false = rw there at not in
    let at_g : is_committed (result_by b.canceled (Commit g) b.vote (standing_of votes)) ≡ false = ap (λ (o : Outcome). is_committed (result_by b.canceled o b.vote (standing_of votes))) (sym e) ∙ here in
    canceled_share g b.weight b.vote b.canceled (standing_of votes) at_g)

pub cancel_sound : (votes : Votes) (v : ℕ) → IsSound votes → committed_in v votes ≡ false → IsSound (after votes (Cancel v))
cancel_sound votes v sound not =
    sound_after votes (Cancel v) sound (λ g e. omega (arith, cancel_same votes v g not e))

-- the outcome, once fixed
pub outcome_stays : (votes : Votes) (act : Act) → (votes.outcome ≡ Open → ⊥) → (after votes act).outcome ≡ votes.outcome
outcome_stays votes act done = or_later-done votes.outcome (decision votes.threshold (marks_after act votes.marks) (is_stop act)) done

pub run-outcome_stays : (votes : Votes) (acts : List Act) → (votes.outcome ≡ Open → ⊥) → (run acts votes).outcome ≡ votes.outcome
run-outcome_stays votes [] done = refl
run-outcome_stays votes (act ∷ acts) done =
    let step = outcome_stays votes act done in
    run-outcome_stays (after votes act) acts (λ e. done (sym step ∙ e)) ∙ step

pub run-append : (acts : List Act) (act : Act) (votes : Votes) → run (acts ++ act ∷ []) votes ≡ after (run acts votes) act
run-append [] act votes = refl
run-append (a ∷ acts) act votes = run-append acts act (after votes a)

pub run-threshold : (acts : List Act) (votes : Votes) → (run acts votes).threshold ≡ votes.threshold
run-threshold [] votes = refl
run-threshold (a ∷ acts) votes = run-threshold acts (after votes a)
