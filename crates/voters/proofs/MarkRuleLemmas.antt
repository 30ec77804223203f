-- The steps come to what the marks say of the whole list.
use Rattle.std.proofs.Common.{◌≡◌, ℕ, ◌+◌, ◌*◌, ◌≤◌, ◌<◌, List, [], ◌∷◌, ◌++◌, Bool, true, false, Option, None, Some, arith, ap, sym, ◌∙◌, inl, inr, refl, map, sum, length, zero, suc, take, get_or, append_assoc, append-nil, ◌==◌, if◌then◌else◌, ◌↔◌}
use Rattle.std.proofs.Math.Seq.{take-suc}
use Rattle.std.proofs.lemmas.List.{take_all}
use Rattle.std.proofs.lemmas.Bool.{cases_Bool, cases_lt, ne_eqb, eq-eqb, true≢false}
use Rattle.std.proofs.lemmas.List.Sums.{sum-map, sum_by-cons}
use Rattle.px_base.specs.declared.hash.Hash.{Hash}
use Rattle.voters.specs.declared.act.Act.{Act}
use Rattle.voters.specs.declared.act.Act.TheVariants.{Cast, Cancel, Stop as StopAct}
use Rattle.voters.specs.declared.mark.Mark.{Mark}
use Rattle.voters.specs.declared.outcome.Outcome.{Outcome}
use Rattle.voters.specs.declared.outcome.Outcome.TheVariants.{Open, Commit, Fail, Stop}
use Rattle.voters.specs.Marks.{share, open_share, mark_weight, standing_weight, open_weight, total_weight, canceling, committed_hash, is_lost}
use Rattle.voters.specs.MarkRule.{vote_of, is_canceled, mark_of, marks_from, marks_of, MarksDecide, IsMarksOutcome}
use Rattle.voters.specs.Prefixes.{DecideNothing, IsDecided, ends_in_stop}
use Rattle.voters.specs.Rule.{IsPoll}
use Rattle.voters.specs.Sub.{IsSound}
use Rattle.voters.specs.Votes.{Poll, Votes, blank, start, after, run, changed_at, first_vote, casting, marks_after, decided, decision, or_later, is_stop}
use Rattle.voters.proofs.FirstLemmas.{IsFold, IsFirst, open_all, open_from, first_from, first_to}
use Rattle.voters.proofs.LostLemmas.{lost_each, lost_from_each}
use Rattle.voters.proofs.OutcomeLemmas.{decided_open, committed_hash-some, committed_hash-none, none_commits}
use Rattle.voters.proofs.StepLemmas.{reaches, commit_parts, run-append, run-threshold}

-- one act more, for one voter

vote_kept : (acts : List Act) (act : Act) (v : ℕ) → vote_of (act ∷ []) v ≡ None → vote_of (acts ++ act ∷ []) v ≡ vote_of acts v
vote_kept [] act v e = e
vote_kept (Cast w g ∷ acts) act v e = rw (vote_kept acts act v e) refl
vote_kept (Cancel w ∷ acts) act v e = vote_kept acts act v e
vote_kept (StopAct ∷ acts) act v e = vote_kept acts act v e

vote_cast : (acts : List Act) (v : ℕ) (h : Hash) → vote_of (acts ++ Cast v h ∷ []) v ≡ first_vote (vote_of acts v) h
vote_cast [] v h = rw (eq-eqb v v refl) refl
vote_cast (Cast w g ∷ acts) v h =
    elim (cases_Bool (w == v)) [
      | inl t ↦ rw t refl
      | inr f ↦ rw f (vote_cast acts v h)
    ]
vote_cast (Cancel w ∷ acts) v h = vote_cast acts v h
vote_cast (StopAct ∷ acts) v h = vote_cast acts v h

canceled_kept : (acts : List Act) (act : Act) (v : ℕ) → is_canceled (act ∷ []) v ≡ false → is_canceled (acts ++ act ∷ []) v ≡ is_canceled acts v
canceled_kept [] act v e = e
canceled_kept (Cast w g ∷ acts) act v e = canceled_kept acts act v e
canceled_kept (Cancel w ∷ acts) act v e = rw (canceled_kept acts act v e) refl
canceled_kept (StopAct ∷ acts) act v e = canceled_kept acts act v e

if_true : (b : Bool) → (if b then true else true) ≡ true
if_true true = refl
if_true false = refl

canceled_now : (acts : List Act) (v : ℕ) → is_canceled (acts ++ Cancel v ∷ []) v ≡ true
canceled_now [] v = rw (eq-eqb v v refl) refl
canceled_now (Cast w g ∷ acts) v = canceled_now acts v
canceled_now (Cancel w ∷ acts) v = rw (canceled_now acts v) (if_true (w == v))
canceled_now (StopAct ∷ acts) v = canceled_now acts v

same_mark : (a b : Mark) → a.weight ≡ b.weight → a.vote ≡ b.vote → a.canceled ≡ b.canceled → a ≡ b
same_mark a b e f g = λ i. record { weight = e i; vote = f i; canceled = g i }

-- lists of acts that differ at no voter, and at one

same_from : (ws : List ℕ) (i : ℕ) (acts more : List Act) → ((v w : ℕ) → i ≤ v → mark_of more v w ≡ mark_of acts v w) → marks_from more i ws ≡ marks_from acts i ws
same_from [] i acts more same = refl
same_from (w ∷ ws) i acts more same =
    ap (λ (b : Mark). b ∷ marks_from more (i + 1) ws) (same i w (omega arith))
    ∙ ap (λ (bs : List Mark). mark_of acts i w ∷ bs) (same_from ws (i + 1) acts more (λ v u le. same v u (omega (arith, le))))

changed_from : (ws : List ℕ) (i k at : ℕ) (acts more : List Act) (f : Mark → Mark) → at ≡ i + k
    → ((v w : ℕ) → (v ≡ at → ⊥) → mark_of more v w ≡ mark_of acts v w)
    → ((w : ℕ) → mark_of more at w ≡ f (mark_of acts at w))
    → marks_from more i ws ≡ changed_at k f (marks_from acts i ws)
changed_from [] i k at acts more f here same new = refl
changed_from (w ∷ ws) i zero at acts more f here same new =
    let at_i : at ≡ i = omega (arith, here) in
    ap (λ (b : Mark). b ∷ marks_from more (i + 1) ws) (rw at_i at (new w))
    ∙ ap (λ (bs : List Mark). f (mark_of acts i w) ∷ bs) (same_from ws (i + 1) acts more (λ v u le. same v u (λ e. omega (arith, e, at_i, le))))
changed_from (w ∷ ws) i (suc k) at acts more f here same new =
    ap (λ (b : Mark). b ∷ marks_from more (i + 1) ws) (same i w (λ e. omega (arith, e, here)))
    ∙ ap (λ (bs : List Mark). mark_of acts i w ∷ bs) (changed_from ws (i + 1) k at acts more f (omega (arith, here)) same new)

pub marks_of-after : (poll : Poll) (acts : List Act) (act : Act) → marks_of poll (acts ++ act ∷ []) ≡ marks_after act (marks_of poll acts)
marks_of-after poll acts (Cast v h) =
    changed_from poll.weights 0 v v acts (acts ++ Cast v h ∷ []) (casting h) (omega arith)
    (λ n w apart. let other : (v == n) ≡ false = ne_eqb v n (λ e. apart (sym e)) in
    same_mark (mark_of (acts ++ Cast v h ∷ []) n w) (mark_of acts n w) refl (vote_kept acts (Cast v h) n (rw other refl)) (canceled_kept acts (Cast v h) n refl))
    (λ w. same_mark (mark_of (acts ++ Cast v h ∷ []) v w) (casting h (mark_of acts v w)) refl (vote_cast acts v h) (canceled_kept acts (Cast v h) v refl))
marks_of-after poll acts (Cancel v) =
    changed_from poll.weights 0 v v acts (acts ++ Cancel v ∷ []) canceling (omega arith)
    (λ n w apart. let other : (v == n) ≡ false = ne_eqb v n (λ e. apart (sym e)) in
    same_mark (mark_of (acts ++ Cancel v ∷ []) n w) (mark_of acts n w) refl (vote_kept acts (Cancel v) n refl) (canceled_kept acts (Cancel v) n (rw other refl)))
    (λ w. same_mark (mark_of (acts ++ Cancel v ∷ []) v w) (canceling (mark_of acts v w)) refl (vote_kept acts (Cancel v) v refl) (canceled_now acts v))
marks_of-after poll acts StopAct =
    same_from poll.weights 0 acts (acts ++ StopAct ∷ []) (λ v w le. same_mark (mark_of (acts ++ StopAct ∷ []) v w) (mark_of acts v w) refl (vote_kept acts StopAct v refl) (canceled_kept acts StopAct v refl))

blank_from : (ws : List ℕ) (i : ℕ) → map blank ws ≡ marks_from [] i ws
blank_from [] i = refl
blank_from (w ∷ ws) i = rw (blank_from ws (i + 1)) refl

marks_after_all : (poll : Poll) (before acts : List Act) (votes : Votes) → votes.marks ≡ marks_of poll before → (run acts votes).marks ≡ marks_of poll (before ++ acts)
marks_after_all poll before [] votes e = e ∙ ap (λ (xs : List Act). marks_of poll xs) (sym (append-nil before))
marks_after_all poll before (act ∷ acts) votes e =
    let step : (after votes act).marks ≡ marks_of poll (before ++ act ∷ []) = ap (λ (bs : List Mark). marks_after act bs) e ∙ sym (marks_of-after poll before act) in
    rw append_assoc at (marks_after_all poll (before ++ act ∷ []) acts (after votes act) step)

-- the marks are those of the acts
pub run-marks : (poll : Poll) (acts : List Act) → (run acts (start poll)).marks ≡ marks_of poll acts
run-marks poll acts = marks_after_all poll [] acts (start poll) (blank_from poll.weights 0)

-- what a list decides by itself

abbrev pub decided_by : Poll → List Act → Outcome
decided_by poll acts = decision poll.threshold (marks_of poll acts) (ends_in_stop acts)

ends_in_stop-append : (acts : List Act) (act : Act) → ends_in_stop (acts ++ act ∷ []) ≡ is_stop act
ends_in_stop-append [] act = refl
ends_in_stop-append (a ∷ []) act = refl
ends_in_stop-append (a ∷ b ∷ acts) act = ends_in_stop-append (b ∷ acts) act

outcome_after : (poll : Poll) (acts : List Act) (act : Act) → (run (acts ++ act ∷ []) (start poll)).outcome ≡ or_later (run acts (start poll)).outcome (decided_by poll (acts ++ act ∷ []))
outcome_after poll acts act =
    let votes = run acts (start poll) in
    let new : marks_after act votes.marks ≡ marks_of poll (acts ++ act ∷ []) = ap (λ (bs : List Mark). marks_after act bs) (run-marks poll acts) ∙ sym (marks_of-after poll acts act) in
    ap (λ (v : Votes). v.outcome) (run-append acts act (start poll))
    ∙ rw (run-threshold acts (start poll), new, ends_in_stop-append acts act) refl

weights_from : (ws : List ℕ) (i : ℕ) (acts : List Act) → map mark_weight (marks_from acts i ws) ≡ ws
weights_from [] i acts = refl
weights_from (w ∷ ws) i acts = rw (weights_from ws (i + 1) acts) refl

pub total_of : (poll : Poll) (acts : List Act) → total_weight (marks_of poll acts) ≡ sum poll.weights
total_of poll acts = sym (sum-map mark_weight (marks_of poll acts)) ∙ ap (λ (ws : List ℕ). sum ws) (weights_from poll.weights 0 acts)

pub few : (poll : Poll) (acts : List Act) → IsPoll poll → total_weight (marks_of poll acts) < 2 * poll.threshold
few poll acts is = omega (arith, total_of poll acts, is.most)

fail_parts : (c : Option Hash) (l s : Bool) → decided c l s ≡ Fail → (c ≡ None) × (l ≡ true)
fail_parts (Some g) l s e = absurd (cc)
fail_parts None true s e = (refl, refl)
fail_parts None false true e = absurd (cc)
fail_parts None false false e = absurd (cc)

stop_parts : (c : Option Hash) (l s : Bool) → decided c l s ≡ Stop → (c ≡ None) × (l ≡ false) × (s ≡ true)
stop_parts (Some g) l s e = absurd (cc)
stop_parts None true s e = absurd (cc)
stop_parts None false true e = (refl, refl, refl)
stop_parts None false false e = absurd (cc)

lost_from : (threshold : ℕ) (bs : List Mark) → ((h : Hash) → standing_weight h bs + open_weight bs < threshold) → is_lost threshold bs ≡ true
lost_from threshold bs each =
    let no_vote : Hash = record { 0 = [] } in
    lost_from_each threshold bs (omega (arith, each no_vote)) each

-- a list decides what the rule says
pub decides-from : (poll : Poll) (acts : List Act) (o : Outcome) → IsPoll poll → (o ≡ Open → ⊥) → decided_by poll acts ≡ o → MarksDecide poll acts o
unfolding decision
decides-from poll acts Open is done e = absurd (done refl)
decides-from poll acts (Commit h) is done e =
    let bs = marks_of poll acts in
    reaches poll.threshold bs h (commit_parts (committed_hash poll.threshold bs) (is_lost poll.threshold bs) (ends_in_stop acts) h e)
decides-from poll acts Fail is done e =
    let bs = marks_of poll acts in
    let p = fail_parts (committed_hash poll.threshold bs) (is_lost poll.threshold bs) (ends_in_stop acts) e in
    let less = none_commits poll.threshold bs (few poll acts is) p.0 in
    (λ h le. omega (arith, le, less h), lost_each poll.threshold bs p.1)
decides-from poll acts Stop is done e =
    let bs = marks_of poll acts in
    let p = stop_parts (committed_hash poll.threshold bs) (is_lost poll.threshold bs) (ends_in_stop acts) e in
    let less = none_commits poll.threshold bs (few poll acts is) p.0 in
    (λ h le. omega (arith, le, less h), λ lost. true≢false (sym (lost_from poll.threshold bs lost) ∙ p.1), p.2)

pub decides-to : (poll : Poll) (acts : List Act) (o : Outcome) → IsPoll poll → MarksDecide poll acts o → decided_by poll acts ≡ o
unfolding decision
decides-to poll acts Open is d = absurd d
decides-to poll acts (Commit h) is d = rw (committed_hash-some poll.threshold (marks_of poll acts) h (few poll acts is) d) refl
decides-to poll acts Fail is d =
    let bs = marks_of poll acts in
    let none : committed_hash poll.threshold bs ≡ None = committed_hash-none poll.threshold bs (λ h. omega (arith, d.1 h)) in
    let lost : is_lost poll.threshold bs ≡ true = lost_from poll.threshold bs d.1 in
    rw (none, lost) refl
decides-to poll acts Stop is d =
    let bs = marks_of poll acts in
    let less : (h : Hash) → standing_weight h bs < poll.threshold = λ h. elim (cases_lt (standing_weight h bs) poll.threshold) [ inl lt ↦ lt | inr le ↦ absurd (d.0 h le) ] in
    let none : committed_hash poll.threshold bs ≡ None = committed_hash-none poll.threshold bs less in
    let not_lost : is_lost poll.threshold bs ≡ false = elim (cases_Bool (is_lost poll.threshold bs)) [ inl t ↦ absurd (d.1 (lost_each poll.threshold bs t)) | inr f ↦ f ] in
    rw (none, not_lost, d.2) refl

pub nothing-to : (poll : Poll) (acts : List Act) → IsPoll poll → decided_by poll acts ≡ Open → DecideNothing (MarksDecide poll) acts
nothing-to poll acts is e Open d = d
nothing-to poll acts is e (Commit h) d = (let f : Open ≡ Commit h = sym e ∙ decides-to poll acts (Commit h) is d in absurd (cc))
nothing-to poll acts is e Fail d = (let f : Open ≡ Fail = sym e ∙ decides-to poll acts Fail is d in absurd (cc))
nothing-to poll acts is e Stop d = (let f : Open ≡ Stop = sym e ∙ decides-to poll acts Stop is d in absurd (cc))

nothing_is : (poll : Poll) (acts : List Act) (o : Outcome) → IsPoll poll → DecideNothing (MarksDecide poll) acts → decided_by poll acts ≡ o → o ≡ Open
nothing_is poll acts Open is none e = refl
nothing_is poll acts (Commit h) is none e = absurd (none (Commit h) (decides-from poll acts (Commit h) is (λ f. absurd (cc)) e))
nothing_is poll acts Fail is none e = absurd (none Fail (decides-from poll acts Fail is (λ f. absurd (cc)) e))
nothing_is poll acts Stop is none e = absurd (none Stop (decides-from poll acts Stop is (λ f. absurd (cc)) e))

pub nothing-from : (poll : Poll) (acts : List Act) → IsPoll poll → DecideNothing (MarksDecide poll) acts → decided_by poll acts ≡ Open
nothing-from poll acts is none = (let e : decided_by poll acts ≡ decided_by poll acts = refl in nothing_is poll acts (decided_by poll acts) is none e)

none_stands : (ws : List ℕ) (i : ℕ) (h : Hash) → standing_weight h (marks_from [] i ws) ≡ 0
none_stands [] i h = refl
none_stands (w ∷ ws) i h = omega (arith, sum_by-cons (share h) (blank w) (marks_from [] (i + 1) ws), none_stands ws (i + 1) h)

all_open : (ws : List ℕ) (i : ℕ) → open_weight (marks_from [] i ws) ≡ total_weight (marks_from [] i ws)
all_open [] i = refl
all_open (w ∷ ws) i =
    omega (arith, sum_by-cons open_share (blank w) (marks_from [] (i + 1) ws), sum_by-cons mark_weight (blank w) (marks_from [] (i + 1) ws), all_open ws (i + 1))

-- before any act nothing is decided
pub starts_open : (poll : Poll) → IsPoll poll → DecideNothing (MarksDecide poll) []
starts_open poll is Open d = d
starts_open poll is (Commit h) d = absurd (omega (arith, d, none_stands poll.weights 0 h, is.most))
starts_open poll is Fail d = (let no_vote : Hash = record { 0 = [] } in absurd (omega (arith, d.1 no_vote, all_open poll.weights 0, total_of poll [], is.reachable)))
starts_open poll is Stop d = absurd (true≢false (sym d.2))

start_parts : (poll : Poll) → decided_by poll [] ≡ Open → (committed_hash poll.threshold (marks_of poll []) ≡ None) × (is_lost poll.threshold (marks_of poll []) ≡ false) × (false ≡ false)
unfolding decision
start_parts poll e = decided_open (committed_hash poll.threshold (marks_of poll [])) (is_lost poll.threshold (marks_of poll [])) false e

pub start_sound : (poll : Poll) → IsPoll poll → IsSound (start poll)
start_sound poll is =
    let same : map blank poll.weights ≡ marks_of poll [] = blank_from poll.weights 0 in
    let p = start_parts poll (nothing-from poll [] is (starts_open poll is)) in
    record {
      most = rw same (few poll [] is);
      none = λ e. rw same p.0;
      not_lost = λ e. rw same p.1;
      leads = λ h e. absurd (cc);
    }

-- the outcomes of the prefixes of a list

abbrev pub outcome_at : Poll → List Act → ℕ → Outcome
outcome_at poll acts n = (run (take n acts) (start poll)).outcome

abbrev pub decided_at : Poll → List Act → ℕ → Outcome
decided_at poll acts n = decided_by poll (take n acts)

pub is_fold : (poll : Poll) (acts : List Act) → IsPoll poll → IsFold (outcome_at poll acts) (decided_at poll acts) (length acts)
is_fold poll acts is = record {
  starts = refl;
  first = nothing-from poll [] is (starts_open poll is);
  step = λ k lt.
      let more : take (suc k) acts ≡ take k acts ++ get_or acts k StopAct ∷ [] = take-suc acts k StopAct lt in
      ap (λ (xs : List Act). (run xs (start poll)).outcome) more
      ∙ outcome_after poll (take k acts) (get_or acts k StopAct)
      ∙ ap (λ (xs : List Act). or_later (outcome_at poll acts k) (decided_by poll xs)) (sym more);
}

whole : (poll : Poll) (acts : List Act) → outcome_at poll acts (length acts) ≡ (run acts (start poll)).outcome
whole poll acts = ap (λ (xs : List Act). (run xs (start poll)).outcome) (take_all (length acts) acts (omega arith))

decided-from : (poll : Poll) (acts : List Act) (o : Outcome) → IsPoll poll → (o ≡ Open → ⊥) → (run acts (start poll)).outcome ≡ o → IsDecided (MarksDecide poll) acts o
decided-from poll acts o is done e =
    let i = first_from (outcome_at poll acts) (decided_at poll acts) (length acts) o (is_fold poll acts is) done (whole poll acts ∙ e) in
    record {
      n = i.at;
      within = i.within;
      decides = decides-from poll (take i.at acts) o is done i.is;
      shortest = λ k lt. nothing-to poll (take k acts) is (i.before k lt);
    }

decided-to : (poll : Poll) (acts : List Act) (o : Outcome) → IsPoll poll → (o ≡ Open → ⊥) → IsDecided (MarksDecide poll) acts o → (run acts (start poll)).outcome ≡ o
decided-to poll acts o is done d =
    let i : IsFirst (decided_at poll acts) (length acts) o = record {
      at = d.n;
      within = d.within;
      is = decides-to poll (take d.n acts) o is d.decides;
      before = λ k lt. nothing-from poll (take k acts) is (d.shortest k lt);
    } in
    sym (whole poll acts) ∙ first_to (outcome_at poll acts) (decided_at poll acts) (length acts) o (is_fold poll acts is) done i

-- the outcome is that of the shortest prefix that decides anything
pub outcome_is : (poll : Poll) (acts : List Act) (o : Outcome) → IsPoll poll → ((run acts (start poll)).outcome ≡ o) ↔ IsMarksOutcome poll acts o
outcome_is poll acts Open is = (
  λ e n le. nothing-to poll (take n acts) is (open_all (outcome_at poll acts) (decided_at poll acts) (length acts) (is_fold poll acts is) (whole poll acts ∙ e) n le),
  λ none. sym (whole poll acts) ∙ open_from (outcome_at poll acts) (decided_at poll acts) (length acts) (is_fold poll acts is) (λ n le. nothing-from poll (take n acts) is (none n le)),
)
outcome_is poll acts (Commit h) is = (decided-from poll acts (Commit h) is (λ f. absurd (cc)), decided-to poll acts (Commit h) is (λ f. absurd (cc)))
outcome_is poll acts Fail is = (decided-from poll acts Fail is (λ f. absurd (cc)), decided-to poll acts Fail is (λ f. absurd (cc)))
outcome_is poll acts Stop is = (decided-from poll acts Stop is (λ f. absurd (cc)), decided-to poll acts Stop is (λ f. absurd (cc)))
