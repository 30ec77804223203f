-- What the calls of a subtransaction compute is the step.
use Rattle.std.proofs.Common.{◌≡◌, ℕ, ◌+◌, ◌*◌, ◌≤◌, ◌<◌, List, [], ◌∷◌, Bool, true, false, Option, None, Some, arith, ap, sym, ◌∙◌, inl, inr, refl, slice_get, set, if◌then◌else◌, nat_le, map, sum_by, zero, suc}
use Rattle.std.proofs.lemmas.Bool.{cases_Bool, true≢false, leb-true, leb-false, le-ltb, and_left}
use Rattle.px_base.specs.declared.hash.Hash.{Hash}
use Rattle.px_base.specs.Hash.{same_hash, same_hash-Decides}
use Rattle.voters.specs.declared.act.Act.TheVariants.{Cast, Cancel, Stop as StopAct}
use Rattle.voters.specs.declared.mark.Mark.{Mark}
use Rattle.voters.specs.declared.outcome.Outcome.{Outcome}
use Rattle.voters.specs.declared.outcome.Outcome.TheVariants.{Open, Commit, Fail, Stop}
use Rattle.px_base.specs.declared.voter.Voter.{Voter}
use Rattle.voters.specs.Marks.{committed_hash, is_lost, is_open, standing_weight, total_weight, open_weight, fresh, voter_weight, voting, canceling}
use Rattle.voters.specs.Results.{result_by, standing_of, is_committed, committed_in}
use Rattle.voters.specs.Verdict.{Standing}
use Rattle.voters.specs.Sub.{IsSound}
use Rattle.voters.specs.Votes.{Votes, blank, after, casting, marks_after, decided, decision, or_later}
use Rattle.voters.proofs.MarkLemmas.{is_open-parts, within_total}
use Rattle.voters.proofs.CountLemmas.{vote-raises, vote-weights, starts_right, cancel-lowers}
use Rattle.voters.proofs.OutcomeLemmas.{none_commits, committed_hash-some, committed_hash-none}
use Rattle.voters.proofs.StepLemmas.{changed_at-set}
use Rattle.voters.proofs.TallyLemmas.{Raises}

or_later-cong : (o x y : Outcome) → (o ≡ Open → x ≡ y) → or_later o x ≡ or_later o y
or_later-cong Open x y f = f refl
or_later-cong (Commit h) x y f = refl
or_later-cong Fail x y f = refl
or_later-cong Stop x y f = refl

-- what is committed after a cast
after_cast-committed : (threshold : ℕ) (old new : List Mark) (h : Hash) (by : ℕ) → Raises h by old new → total_weight new < 2 * threshold → ((g : Hash) → standing_weight g old < threshold) → committed_hash threshold new ≡ (if nat_le threshold (standing_weight h new) then Some h else None)
after_cast-committed threshold old new h by up most none =
    elim (cases_Bool (nat_le threshold (standing_weight h new))) [
      | inl t ↦ rw t (committed_hash-some threshold new h most (leb-true _ _ t))
      | inr f ↦ rw f (committed_hash-none threshold new (λ g. elim (cases_Bool (same_hash h g)) [
        | inl e ↦ (let same : standing_weight h new ≡ standing_weight g new = ap (λ (k : Hash). standing_weight k new) ((same_hash-Decides h g).0 e) in omega (arith, same, leb-false _ _ f))
        | inr n ↦ (let same : standing_weight g new ≡ standing_weight g old + 0 = rw n at (up g) in omega (arith, same, none g))
      ]))
    ]

casting_parts : (h : Hash) (w : ℕ) (vote : Option Hash) (canceled : Bool) → vote ≡ None → let b : Mark = record { weight = w; vote = vote; canceled = canceled } in casting h b ≡ voting b h
casting_parts h w None canceled e = refl
casting_parts h w (Some k) canceled e = absurd (cc)

-- the marks after a cast by an open voter
pub cast_marks : (bs : List Mark) (v : ℕ) (h : Hash) (b : Mark) → slice_get bs v ≡ Some b → is_open b ≡ true → set bs v (voting b h) ≡ marks_after (Cast v h) bs
cast_marks bs v h b there o =
    ap (λ (x : Mark). set bs v x) (sym (casting_parts h b.weight b.vote b.canceled (is_open-parts b o).0)) ∙ sym (changed_at-set bs v (casting h) b there)

pub cancel_marks : (bs : List Mark) (v : ℕ) (b : Mark) → slice_get bs v ≡ Some b → set bs v (canceling b) ≡ marks_after (Cancel v) bs
cancel_marks bs v b there = sym (changed_at-set bs v canceling b there)

-- the outcome after a cast by an open voter needs a look at its hash alone
pub cast_outcome : (votes : Votes) (v : ℕ) (h : Hash) (b : Mark) → IsSound votes → slice_get votes.marks v ≡ Some b → is_open b ≡ true
    → let new = marks_after (Cast v h) votes.marks in or_later votes.outcome (decided (if nat_le votes.threshold (standing_weight h new) then Some h else None) (is_lost votes.threshold new) false) ≡ (after votes (Cast v h)).outcome
unfolding decision
cast_outcome votes v h b sound there o =
    let old = votes.marks in
    let new = marks_after (Cast v h) old in
    let is : set old v (voting b h) ≡ new = cast_marks old v h b there o in
    let up : Raises h b.weight old new = rw (sym is) (vote-raises h old v b there o) in
    let most : total_weight new < 2 * votes.threshold = rw (sym is) (omega (arith, (vote-weights h old v b there o).0, sound.most)) in
    or_later-cong votes.outcome _ (decision votes.threshold new false)
    (λ none_yet. sym (ap (λ (c : Option Hash). decided c (is_lost votes.threshold new) false)
    (after_cast-committed votes.threshold old new h b.weight up most (none_commits votes.threshold old sound.most (sound.none none_yet)))))

-- the outcome after a cancel needs no look at the hashes
pub cancel_outcome : (votes : Votes) (v : ℕ) (b : Mark) → IsSound votes → slice_get votes.marks v ≡ Some b → b.canceled ≡ false
    → let new = marks_after (Cancel v) votes.marks in or_later votes.outcome (decided None (is_lost votes.threshold new) false) ≡ (after votes (Cancel v)).outcome
unfolding decision
cancel_outcome votes v b sound there o =
    let old = votes.marks in
    let new = marks_after (Cancel v) old in
    let is : set old v (canceling b) ≡ new = cancel_marks old v b there in
    let down : (g : Hash) → standing_weight g new ≤ standing_weight g old = λ g. rw (sym is) (omega (arith, cancel-lowers old v b there o g)) in
    or_later-cong votes.outcome _ (decision votes.threshold new false)
    (λ none_yet. sym (ap (λ (c : Option Hash). decided c (is_lost votes.threshold new) false)
    (committed_hash-none votes.threshold new (λ g. omega (arith, down g, none_commits votes.threshold old sound.most (sound.none none_yet) g)))))

decided_stop : (c : Option Hash) (l : Bool) → c ≡ None → l ≡ false → decided c l true ≡ Stop
decided_stop None false e f = refl
decided_stop (Some h) l e f = absurd (cc)
decided_stop None true e f = absurd (true≢false f)

-- a stop of what is open
pub stop_outcome : (votes : Votes) → IsSound votes → votes.outcome ≡ Open → Stop ≡ (after votes StopAct).outcome
unfolding decision
stop_outcome votes sound e =
    sym (ap (λ (o : Outcome). or_later o (decision votes.threshold votes.marks true)) e
    ∙ decided_stop (committed_hash votes.threshold votes.marks) (is_lost votes.threshold votes.marks) (sound.none e) (sound.not_lost e))

decided_no_commit : (l : Bool) (g : Hash) → decided None l false ≡ Commit g → ⊥
decided_no_commit true g e = absurd (cc)
decided_no_commit false g e = absurd (cc)

commit-cancel : (o : Outcome) (l : Bool) (g : Hash) → or_later o (decided None l false) ≡ Commit g → o ≡ Commit g
commit-cancel Open l g e = absurd (decided_no_commit l g e)
commit-cancel (Commit h) l g e = e
commit-cancel Fail l g e = e
commit-cancel Stop l g e = e

pub same_votes : (a b : Votes) → a.threshold ≡ b.threshold → a.marks ≡ b.marks → a.outcome ≡ b.outcome → a ≡ b
same_votes a b e f g = λ i. record { threshold = e i; marks = f i; outcome = g i }

pub slice_get-set : (marks : List Mark) (v : ℕ) (b new : Mark) → slice_get marks v ≡ Some b → slice_get (set marks v new) v ≡ Some new
slice_get-set [] v b new there = absurd (cc)
slice_get-set (x ∷ xs) zero b new there = refl
slice_get-set (x ∷ xs) (suc v) b new there = slice_get-set xs v b new there

-- the first marks

pub fresh_blank : (voters : List Voter) → map fresh voters ≡ map blank (map voter_weight voters)
fresh_blank [] = refl
fresh_blank (v ∷ vs) = rw (fresh_blank vs) refl

pub fresh_sound : (voters : List Voter) (threshold : ℕ) → threshold ≤ sum_by voter_weight voters → sum_by voter_weight voters < 2 * threshold → IsSound (record { threshold = threshold; marks = map fresh voters; outcome = Open })
unfolding is_lost
fresh_sound voters threshold reachable most =
    let s = starts_right voters in
    record {
      most = omega (arith, s.total, most);
      none = λ e. committed_hash-none threshold (map fresh voters) (λ h. omega (arith, within_total h (map fresh voters), s.total, s.pending, most, reachable));
      not_lost = λ e. and_left _ _ (le-ltb (open_weight (map fresh voters)) threshold (omega (arith, s.pending, reachable)));
      leads = λ h e. absurd (cc);
    }

-- a cast by an open voter, as it is computed, is the step
pub cast_step : (votes : Votes) (v : ℕ) (h : Hash) (b : Mark) (new : List Mark) (later outcome : Outcome) → IsSound votes → slice_get votes.marks v ≡ Some b → is_open b ≡ true
    → new ≡ set votes.marks v (voting b h) → later ≡ decided (if nat_le votes.threshold (standing_weight h new) then Some h else None) (is_lost votes.threshold new) false → outcome ≡ or_later votes.outcome later
    → let made : Votes = record { threshold = votes.threshold; marks = new; outcome = outcome } in made ≡ after votes (Cast v h)
cast_step votes v h b new later outcome sound there o e f g =
    let is : new ≡ marks_after (Cast v h) votes.marks = e ∙ cast_marks votes.marks v h b there o in
    same_votes (record { threshold = votes.threshold; marks = new; outcome = outcome }) (after votes (Cast v h)) refl is
    (rw (g, f, is) (cast_outcome votes v h b sound there o))

pub cancel_step : (votes : Votes) (v : ℕ) (b : Mark) (new : List Mark) (later outcome : Outcome) → IsSound votes → slice_get votes.marks v ≡ Some b → b.canceled ≡ false
    → new ≡ set votes.marks v (canceling b) → later ≡ decided None (is_lost votes.threshold new) false → outcome ≡ or_later votes.outcome later
    → let made : Votes = record { threshold = votes.threshold; marks = new; outcome = outcome } in made ≡ after votes (Cancel v)
cancel_step votes v b new later outcome sound there o e f g =
    let is : new ≡ marks_after (Cancel v) votes.marks = e ∙ cancel_marks votes.marks v b there in
    same_votes (record { threshold = votes.threshold; marks = new; outcome = outcome }) (after votes (Cancel v)) refl is
    (rw (g, f, is) (cancel_outcome votes v b sound there o))

-- with no vote, or nothing committed, a voter isn't committed
uncommitted_by : (canceled : Bool) (o : Outcome) (vote : Option Hash) (standing : Hash → Standing) → ((h : Hash) → o ≡ Commit h → vote ≡ None) → is_committed (result_by canceled o vote standing) ≡ false
uncommitted_by true o vote standing none = refl
uncommitted_by false Open vote standing none = refl
uncommitted_by false (Commit h) vote standing none = rw (none h refl) refl
uncommitted_by false Fail None standing none = refl
uncommitted_by false Fail (Some g) standing none = refl
uncommitted_by false Stop vote standing none = refl

pub uncommitted : (votes : Votes) (v : ℕ) (b : Mark) → slice_get votes.marks v ≡ Some b → ((h : Hash) → votes.outcome ≡ Commit h → b.vote ≡ None) → committed_in v votes ≡ false
uncommitted votes v b there none = rw there (uncommitted_by b.canceled votes.outcome b.vote (standing_of votes) none)

-- a cancel commits nothing
pub cancel_commits : (votes : Votes) (v : ℕ) (b : Mark) → IsSound votes → slice_get votes.marks v ≡ Some b → b.canceled ≡ false → (h : Hash) → (after votes (Cancel v)).outcome ≡ Commit h → votes.outcome ≡ Commit h
cancel_commits votes v b sound there o h e =
    commit-cancel votes.outcome (is_lost votes.threshold (marks_after (Cancel v) votes.marks)) h (cancel_outcome votes v b sound there o ∙ e)

pub stop_step : (votes : Votes) (outcome : Outcome) → IsSound votes → votes.outcome ≡ Open → outcome ≡ Stop
    → let made : Votes = record { threshold = votes.threshold; marks = votes.marks; outcome = outcome } in made ≡ after votes StopAct
stop_step votes outcome sound was e =
    same_votes (record { threshold = votes.threshold; marks = votes.marks; outcome = outcome }) (after votes StopAct) refl refl (e ∙ stop_outcome votes sound was)
