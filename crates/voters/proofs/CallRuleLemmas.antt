-- What any list of calls comes to is what the rule says of their acts.
use Rattle.std.proofs.Common.{◌≡◌, ℕ, ◌+◌, ◌≤◌, ◌<◌, List, [], ◌∷◌, Bool, true, false, Option, None, Some, arith, ap, ◌∙◌, inl, inr, refl, length, take, slice_get, get_or, zero, suc, ◌↔◌}
use Rattle.std.specs.Prelude.{not, is_none}
use Rattle.std.proofs.lemmas.Bool.{cases_Bool, cases_lt, lt-ltb, le-ltb}
use Rattle.px_base.specs.declared.hash.Hash.{Hash}
use Rattle.px_base.specs.Hash.{same_hash, same_hash-Decides}
use Rattle.voters.specs.declared.act.Act.{Act}
use Rattle.voters.specs.declared.outcome.Outcome.{Outcome}
use Rattle.voters.specs.declared.outcome.Outcome.TheVariants.{Open, Commit, Fail, Stop}
use Rattle.voters.specs.declared.voter_result.VoterResult.{VoterResult}
use Rattle.voters.specs.Calls.{Call, all_called, acts_of}
use Rattle.voters.specs.MarkRule.{vote_of, is_canceled, mark_of, marks_from, marks_of, MarksDecide}
use Rattle.voters.specs.Marks.{is_hash}
use Rattle.voters.specs.Prefixes.{IsDecided, IsOutcomeBy}
use Rattle.voters.specs.Results.{result_by, result_at, standing_of}
use Rattle.voters.specs.Rule.{CastsOnce, Decides, IsOutcome, IsPoll, has_cast, has_cast_of, has_cancel, meaning, rule_result, rule_result_at, verdict_on}
use Rattle.voters.specs.Verdict.{Standing}
use Rattle.voters.specs.Votes.{Poll, Votes, start, run}
use Rattle.voters.proofs.ActsLemmas.{calls_come_to, casts_once}
use Rattle.voters.proofs.AgreeLemmas.{cancel_agrees, cast_agrees, hash_agrees, standing_agrees, decides_agree, once-take}
use Rattle.voters.proofs.MarkLemmas.{same_hash-sym}
use Rattle.voters.proofs.MarkRuleLemmas.{outcome_is, run-marks, total_of}
use Rattle.voters.proofs.StepLemmas.{run-threshold}

-- two ways to decide that agree on each prefix give one outcome

decided_alike : (D E : List Act → Outcome → Type 0) (acts : List Act) → ((n : ℕ) (o : Outcome) → D (take n acts) o ↔ E (take n acts) o) → (o : Outcome) → IsDecided D acts o → IsDecided E acts o
decided_alike D E acts alike o d = record {
  n = d.n;
  within = d.within;
  decides = (alike d.n o).0 d.decides;
  shortest = λ k lt x e. d.shortest k lt x ((alike k x).1 e);
}

outcome_alike : (D E : List Act → Outcome → Type 0) (acts : List Act) → ((n : ℕ) (o : Outcome) → D (take n acts) o ↔ E (take n acts) o) → (o : Outcome) → IsOutcomeBy D acts o → IsOutcomeBy E acts o
outcome_alike D E acts alike Open none = λ n le x e. none n le x ((alike n x).1 e)
outcome_alike D E acts alike (Commit h) d = decided_alike D E acts alike (Commit h) d
outcome_alike D E acts alike Fail d = decided_alike D E acts alike Fail d
outcome_alike D E acts alike Stop d = decided_alike D E acts alike Stop d

-- where no voter casts twice, the outcome is that of the rule
pub outcome_is_of_acts : (poll : Poll) (acts : List Act) (o : Outcome) → IsPoll poll → CastsOnce acts → ((run acts (start poll)).outcome ≡ o) ↔ IsOutcome poll acts o
outcome_is_of_acts poll acts o is once =
    let alike : (n : ℕ) (x : Outcome) → MarksDecide poll (take n acts) x ↔ Decides poll (take n acts) x = λ n x. decides_agree poll (take n acts) x (once-take acts n once) in
    let by_marks = outcome_is poll acts o is in (
      λ e. outcome_alike (MarksDecide poll) (Decides poll) acts alike o (by_marks.0 e),
      λ d. by_marks.1 (outcome_alike (Decides poll) (MarksDecide poll) acts (λ n x. ((alike n x).1, (alike n x).0)) o d),
    )

pub outcome_is_of_calls : (poll : Poll) (calls : List Call) (o : Outcome) → IsPoll poll → ((all_called calls (start poll)).outcome ≡ o) ↔ IsOutcome poll (acts_of (start poll) calls) o
outcome_is_of_calls poll calls o is =
    rw (calls_come_to (start poll) calls) (outcome_is_of_acts poll (acts_of (start poll) calls) o is (casts_once poll calls))

-- the result of one voter

-- what the marks show of a voter's vote, as the rule says it
record Shows (acts : List Act) (v : ℕ) (vote : Option Hash) : Type 0 where
  casts : has_cast acts v ≡ not (is_none vote)
  hash : (h : Hash) → has_cast_of acts v h ≡ is_hash h vote

meaning_is : (poll : Poll) (acts : List Act) (v : ℕ) (o : Outcome) (vote : Option Hash) (standing : Hash → Standing) → Shows acts v vote → ((h : Hash) → standing h ≡ verdict_on poll acts h)
    → result_by false o vote standing ≡ meaning poll acts v o
meaning_is poll acts v Open vote standing shows same = refl
meaning_is poll acts v Stop vote standing shows same = refl
meaning_is poll acts v Fail None standing shows same = rw shows.casts refl
meaning_is poll acts v Fail (Some own) standing shows same = rw shows.casts refl
meaning_is poll acts v (Commit h) None standing shows same = rw (shows.hash h, shows.casts) refl
meaning_is poll acts v (Commit h) (Some own) standing shows same =
    rw (shows.hash h, shows.casts, same_hash-sym h own) (elim (cases_Bool (same_hash own h)) [
      | inl t ↦ (let is : own ≡ h = (same_hash-Decides own h).0 t in rw (t, is, same h) refl)
      | inr f ↦ rw f refl
    ])

result_is : (poll : Poll) (acts : List Act) (v : ℕ) (o : Outcome) (canceled : Bool) (vote : Option Hash) (standing : Hash → Standing) → Shows acts v vote → has_cancel acts v ≡ canceled → ((h : Hash) → standing h ≡ verdict_on poll acts h)
    → result_by canceled o vote standing ≡ rule_result poll acts o v
result_is poll acts v o true vote standing shows is same = rw is refl
result_is poll acts v o false vote standing shows is same = rw is (meaning_is poll acts v o vote standing shows same)

-- the mark of a voter of the panel
mark_there : (ws : List ℕ) (i k at : ℕ) (acts : List Act) → at ≡ i + k → k < length ws → slice_get (marks_from acts i ws) k ≡ Some (mark_of acts at (get_or ws k 0))
mark_there [] i k at acts here lt = absurd (omega (arith, lt))
mark_there (w ∷ ws) i zero at acts here lt = (let same : at ≡ i = omega (arith, here) in rw same refl)
mark_there (w ∷ ws) i (suc k) at acts here lt = mark_there ws (i + 1) k at acts (omega (arith, here)) (omega (arith, lt))

mark_none : (ws : List ℕ) (i k : ℕ) (acts : List Act) → length ws ≤ k → slice_get (marks_from acts i ws) k ≡ None
mark_none [] i k acts le = refl
mark_none (w ∷ ws) i zero acts le = absurd (omega (arith, le))
mark_none (w ∷ ws) i (suc k) acts le = mark_none ws (i + 1) k acts (omega (arith, le))

-- the votes that the acts come to
abbrev votes_of : Poll → List Act → Outcome → Votes
votes_of poll acts o = record { threshold = poll.threshold; marks = marks_of poll acts; outcome = o }

same_votes : (a b : Votes) → a.threshold ≡ b.threshold → a.marks ≡ b.marks → a.outcome ≡ b.outcome → a ≡ b
same_votes a b e f g = λ i. record { threshold = e i; marks = f i; outcome = g i }

same_standing : (a b : Standing) → a.hash ≡ b.hash → a.reached ≡ b.reached → a.threshold ≡ b.threshold → a.total ≡ b.total → a ≡ b
same_standing a b e f g h = λ i. record { hash = e i; reached = f i; threshold = g i; total = h i }

standing_is : (poll : Poll) (acts : List Act) (o : Outcome) → CastsOnce acts → (h : Hash) → standing_of (votes_of poll acts o) h ≡ verdict_on poll acts h
standing_is poll acts o once h =
    same_standing (standing_of (votes_of poll acts o) h) (verdict_on poll acts h) refl (standing_agrees poll acts h once) refl (total_of poll acts)

result_of_acts : (poll : Poll) (acts : List Act) (o : Outcome) (v : ℕ) → CastsOnce acts → result_at (votes_of poll acts o) v ≡ rule_result_at poll acts o v
result_of_acts poll acts o v once =
    elim (cases_lt v (length poll.weights)) [
      | inl lt ↦
          (let shows : Shows acts v (vote_of acts v) = record { casts = cast_agrees acts v; hash = λ h. hash_agrees acts v h (once v) } in
          rw (mark_there poll.weights 0 v v acts (omega arith) lt, lt-ltb v (length poll.weights) lt)
          (ap (λ (r : VoterResult). Some r) (result_is poll acts v o (is_canceled acts v) (vote_of acts v) (standing_of (votes_of poll acts o)) shows (cancel_agrees acts v) (standing_is poll acts o once))))
      | inr le ↦ rw (mark_none poll.weights 0 v acts le, le-ltb v (length poll.weights) le) refl
    ]

pub results_are_of_calls : (poll : Poll) (calls : List Call) (o : Outcome) (v : ℕ) → IsPoll poll → IsOutcome poll (acts_of (start poll) calls) o
    → result_at (all_called calls (start poll)) v ≡ rule_result_at poll (acts_of (start poll) calls) o v
results_are_of_calls poll calls o v is outcome =
    let acts = acts_of (start poll) calls in
    let once = casts_once poll calls in
    let same : run acts (start poll) ≡ votes_of poll acts o =
    same_votes (run acts (start poll)) (votes_of poll acts o) (run-threshold acts (start poll)) (run-marks poll acts) ((outcome_is_of_acts poll acts o is once).1 outcome) in
    ap (λ (votes : Votes). result_at votes v) (calls_come_to (start poll) calls ∙ same) ∙ result_of_acts poll acts o v once
