-- Each subtransaction is what a list of calls on it alone leaves.
use Rattle.std.proofs.Common.{◌≡◌, ℕ, List, [], ◌∷◌, ◌++◌, Bool, true, false, Option, None, Some, ap, sym, ◌∙◌, inl, inr, refl, slice_get, zero, suc, map, ◌||◌, ◌⊎◌, length, subst, if◌then◌else◌}
use Rattle.std.specs.Prelude.{not, is_none}
use Rattle.std.specs.List.{AllByRecursion, Contains}
use Rattle.std.proofs.lemmas.Bool.{cases_Bool, true≢false}
use Rattle.std.proofs.lemmas.List.Elements.{Contains-append_left, Contains-append_right, Contains-push}
use Rattle.px_base.specs.declared.hash.Hash.{Hash}
use Rattle.voters.specs.Calls.{Call, AreAccepted, IsAccepted, acts_of, all_called, called, unless_refused}
use Rattle.voters.specs.Calls as call
use Rattle.voters.specs.Refusals.{cancel_refusal, cancel_refusal_for, cast_refusal, is_stopped, stop_refusal}
use Rattle.voters.specs.Results.{has_vote, result_at, result_by, standing_of, voted_in}
use Rattle.voters.specs.Rule.{IsOutcome, IsPoll}
use Rattle.voters.specs.Verdict.{Standing}
use Rattle.voters.specs.Votes.{Poll, Votes, after, changed_at, start}
use Rattle.voters.specs.declared.act.Act.{Act}
use Rattle.voters.specs.declared.act.Act.TheVariants as act
use Rattle.voters.specs.declared.mark.Mark.{Mark}
use Rattle.voters.specs.declared.outcome.Outcome.{Outcome}
use Rattle.voters.specs.declared.outcome.Outcome.TheVariants.{Open, Commit, Fail, Stop}
use Rattle.voters.proofs.ActsLemmas.{unless_none}
use Rattle.voters.proofs.CallRuleLemmas.{outcome_is_of_calls, results_are_of_calls}
use Rattle.voters.proofs.KeepLemmas.{NoneCommitted}
use Rattle.txmanager.specs.Chain.{Follows, IsChain}
use Rattle.txmanager.specs.Rounds.{TxAct, acted, after_act, after_acts, carried_over, current, is_gone, opened, out_of, without, without_all}
use Rattle.txmanager.specs.Rounds as tx
use Rattle.txmanager.specs.Runs.{AreAcceptedActs, IsAcceptedAct, IsByRule, IsCastAmong, IsMade, IsRun}
use Rattle.txmanager.proofs.ActLemmas.{acted_step}
use Rattle.txmanager.proofs.CarryIntoLemmas.{later_chain, voted_without}
use Rattle.txmanager.proofs.CarryLemmas.{act_step, opened_chain, out_of_none}
use Rattle.txmanager.proofs.LawLemmas.{all_at}

-- one call more

all_called-append : (calls : List Call) (c : Call) (votes : Votes) → all_called (calls ++ c ∷ []) votes ≡ called (all_called calls votes) c
all_called-append [] c votes = refl
all_called-append (d ∷ calls) c votes = all_called-append calls c (called votes d)

accepted-append : (calls : List Call) (c : Call) (votes : Votes) → AreAccepted votes calls → IsAccepted (all_called calls votes) c → AreAccepted votes (calls ++ c ∷ [])
accepted-append [] c votes all next = (next, tt)
accepted-append (d ∷ calls) c votes all next = (all.0, accepted-append calls c (called votes d) all.1 next)

made-append : (Made : ℕ → Hash → Type 0) (calls : List Call) (c : Call) → AllByRecursion (IsMade Made) calls → IsMade Made c → AllByRecursion (IsMade Made) (calls ++ c ∷ [])
made-append Made [] c all next = (next, tt)
made-append Made (d ∷ calls) c all next = (all.0, made-append Made calls c all.1 next)

-- a call is accepted, or leaves all as it was

unless_same : {E : Type 0} (o : Option E) (votes : Votes) (a : Act) → (o ≡ None) ⊎ (unless_refused o votes a ≡ votes)
unless_same None votes a = inl refl
unless_same (Some e) votes a = inr refl

accepted_or_same : (votes : Votes) (c : Call) → IsAccepted votes c ⊎ (called votes c ≡ votes)
accepted_or_same votes (call.Cast v h) = unless_same (cast_refusal votes v) votes (act.Cast v h)
accepted_or_same votes (call.Cancel v) = unless_same (cancel_refusal votes v) votes (act.Cancel v)
accepted_or_same votes call.Cancel_all = inl tt
accepted_or_same votes call.Stop = unless_same (stop_refusal votes) votes act.Stop

-- to cancel one that has not voted, by the carrying over, is a call

no_vote : (vote : Option Hash) → not (is_none vote) ≡ false → vote ≡ None
no_vote None e = refl
no_vote (Some h) e = absurd (true≢false e)

by_mark : (canceled : Bool) (o : Outcome) (vote : Option Hash) (standing : Hash → Standing) (x : Votes) (a : Act) → vote ≡ None
    → (if is_stopped o || canceled then x else after x a) ≡ unless_refused (cancel_refusal_for (result_by canceled o vote standing)) x a
by_mark canceled o (Some h) standing x a none = absurd (cc)
by_mark true Open None standing x a none = refl
by_mark true (Commit h) None standing x a none = refl
by_mark true Fail None standing x a none = refl
by_mark true Stop None standing x a none = refl
by_mark false Open None standing x a none = refl
by_mark false (Commit h) None standing x a none = refl
by_mark false Fail None standing x a none = refl
by_mark false Stop None standing x a none = refl

at_mark : (v : ℕ) (x : Votes) (o : Option Mark) → slice_get x.marks v ≡ o → has_vote o ≡ false → without v x ≡ called x (call.Cancel v)
at_mark v x None there none =
    elim (cases_Bool (is_stopped x.outcome)) [
      | inl t ↦ rw (there, t) refl
      | inr f ↦ rw (there, f) refl
    ]
at_mark v x (Some b) there none = rw there (by_mark b.canceled x.outcome b.vote (standing_of x) x (act.Cancel v) (no_vote b.vote none))

without_called : (v : ℕ) (x : Votes) → voted_in v x ≡ false → without v x ≡ called x (call.Cancel v)
without_called v x none = at_mark v x (slice_get x.marks v) refl none

-- none of the voters has voted
abbrev NoneVoted : Votes → List ℕ → Type 0
NoneVoted x vs = AllByRecursion (λ v. voted_in v x ≡ false) vs

none_voted : (vs : List ℕ) (w : ℕ) (x : Votes) → NoneVoted x vs → NoneVoted (without w x) vs
none_voted [] w x none = tt
none_voted (v ∷ vs) w x none = (voted_without v w x ∙ none.0, none_voted vs w x none.1)

-- who is not committed in the earlier one has not voted in a later one
none_next : (e x : Votes) (vs : List ℕ) → Follows e x → NoneCommitted e vs → NoneVoted x vs
none_next e x [] follows none = tt
none_next e x (v ∷ vs) follows none = (
  elim (cases_Bool (voted_in v x)) [
    | inl t ↦ absurd (true≢false (sym (follows v t) ∙ none.0))
    | inr f ↦ f
  ],
  none_next e x vs follows none.1,
)

-- a cast among the acts was made
abbrev pub MadeBy : (ℕ → Hash → Type 0) → TxAct → Type 0
MadeBy Made (tx.Cast v h) = Made v h
MadeBy Made (tx.CancelVoter v) = Unit {0}
MadeBy Made tx.Cancel = Unit {0}
MadeBy Made tx.Stop = Unit {0}

-- each is such a run
abbrev pub AllRun : (ℕ → Hash → Type 0) → Poll → List Votes → Type 0
AllRun Made poll xs = AllByRecursion (λ x. IsRun Made poll x) xs

module _ (Made : ℕ → Hash → Type 0) (poll : Poll) where
  run_more : (sub : Votes) (c : Call) → IsRun Made poll sub → IsMade Made c → IsRun Made poll (called sub c)
  run_more sub c run made =
      elim (accepted_or_same sub c) [
        | inl accepted ↦ record {
          calls = run.calls ++ c ∷ [];
          accepted = accepted-append run.calls c (start poll) run.accepted (subst (λ (v : Votes). IsAccepted v c) run.is accepted);
          made = made-append Made run.calls c run.made made;
          is = ap (λ (v : Votes). called v c) run.is ∙ sym (all_called-append run.calls c (start poll));
        }
        | inr same ↦ subst (λ (v : Votes). IsRun Made poll v) (sym same) run
      ]

  -- one of them, and each of them

  runs_at : (xs : List Votes) (i : ℕ) (f : Votes → Votes) → AllRun Made poll xs → ((x : Votes) → slice_get xs i ≡ Some x → IsRun Made poll x → IsRun Made poll (f x)) → AllRun Made poll (changed_at i f xs)
  runs_at [] i f all step = tt
  runs_at (x ∷ xs) zero f all step = (step x refl all.0, all.1)
  runs_at (x ∷ xs) (suc i) f all step = (all.0, runs_at xs i f all.1 (λ y there run. step y there run))

  runs_each : (xs : List Votes) (f : Votes → Votes) → AllRun Made poll xs → ((x : Votes) → IsRun Made poll x → IsRun Made poll (f x)) → AllRun Made poll (map f xs)
  runs_each [] f all step = tt
  runs_each (x ∷ xs) f all step = (step x all.0, runs_each xs f all.1 step)

  -- the carrying over

  run_without : (vs : List ℕ) (x : Votes) → NoneVoted x vs → IsRun Made poll x → IsRun Made poll (without_all vs x)
  run_without [] x none run = run
  run_without (v ∷ vs) x none run =
      let next : IsRun Made poll (without v x) = subst (λ (y : Votes). IsRun Made poll y) (sym (without_called v x none.0)) (run_more x (call.Cancel v) run tt) in
      run_without vs (without v x) (none_voted vs v x none.1) next

  runs_without : (e : Votes) (xs : List Votes) → AllByRecursion (λ next. Follows e next) xs → AllRun Made poll xs → AllRun Made poll (map (without_all (out_of e)) xs)
  runs_without e [] follow all = tt
  runs_without e (x ∷ xs) follow all = (
    run_without (out_of e) x (none_next e x (out_of e) follow.0 (out_of_none e)) all.0,
    runs_without e xs follow.1 all.1,
  )

  runs_carried : (n : ℕ) (xs : List Votes) → IsChain xs → AllRun Made poll xs → AllRun Made poll (carried_over n xs)
  runs_carried zero xs is all = all
  runs_carried (suc n) [] is all = tt
  runs_carried (suc n) (x ∷ xs) is all =
      (all.0, runs_carried n (map (without_all (out_of x)) xs) (later_chain x xs is) (runs_without x xs is.1 all.1))

  -- an act, and any acts

  run_cast : (v : ℕ) (h : Hash) (x : Votes) → cast_refusal x v ≡ None → Made v h → IsRun Made poll x → IsRun Made poll (after x (act.Cast v h))
  run_cast v h x none made run =
      subst (λ (y : Votes). IsRun Made poll y) (unless_none (cast_refusal x v) x (act.Cast v h) none) (run_more x (call.Cast v h) run made)

  run_cancel : (v : ℕ) (x : Votes) → cancel_refusal x v ≡ None → IsRun Made poll x → IsRun Made poll (after x (act.Cancel v))
  run_cancel v x none run =
      subst (λ (y : Votes). IsRun Made poll y) (unless_none (cancel_refusal x v) x (act.Cancel v) none) (run_more x (call.Cancel v) run tt)

  runs_acted : (a : TxAct) (xs : List Votes) → AllRun Made poll xs → IsAcceptedAct xs a → MadeBy Made a → AllRun Made poll (acted a xs)
  runs_acted (tx.Cast v h) xs all accepted made =
      runs_at xs (current v xs) (λ sub. after sub (act.Cast v h)) all (λ x there run. run_cast v h x (rw there at accepted) made run)
  runs_acted (tx.CancelVoter v) xs all accepted made =
      runs_at xs (current v xs) (λ sub. after sub (act.Cancel v)) all (λ x there run. run_cancel v x (rw there at accepted) run)
  runs_acted tx.Cancel xs all accepted made = runs_each xs (λ sub. called sub call.Cancel_all) all (λ x run. run_more x call.Cancel_all run tt)
  runs_acted tx.Stop xs all accepted made = runs_each xs (λ sub. called sub call.Stop) all (λ x run. run_more x call.Stop run tt)

  pub runs_act : (a : TxAct) (xs : List Votes) → IsChain xs → AllRun Made poll xs → IsAcceptedAct xs a → MadeBy Made a → AllRun Made poll (after_act xs a)
  runs_act a xs is all accepted made =
      runs_carried (length (acted a xs)) (acted a xs) (acted_step a xs is).chain (runs_acted a xs all accepted made)

  runs_acts : (acts : List TxAct) (xs : List Votes) → IsChain xs → AllRun Made poll xs → AreAcceptedActs xs acts → AllByRecursion (MadeBy Made) acts → AllRun Made poll (after_acts acts xs)
  runs_acts [] xs is all accepted made = all
  runs_acts (a ∷ acts) xs is all accepted made =
      runs_acts acts (after_act xs a) (act_step a xs is).chain (runs_act a xs is all accepted.0 made.0) accepted.1 made.1

  pub runs_opened : (n : ℕ) → AllRun Made poll (opened poll n)
  runs_opened zero = tt
  runs_opened (suc n) = (record { calls = []; accepted = tt; made = tt; is = refl }, runs_opened n)

  -- the outcome and the results are those of the rule
  pub run_by_rule : (sub : Votes) → IsPoll poll → IsRun Made poll sub → IsByRule Made poll sub
  run_by_rule sub is run =
      let outcome : IsOutcome poll (acts_of (start poll) run.calls) sub.outcome = (outcome_is_of_calls poll run.calls sub.outcome is).0 (ap (λ (v : Votes). v.outcome) (sym run.is)) in
      record {
        run = run;
        outcome = outcome;
        results = λ v. ap (λ (x : Votes). result_at x v) run.is ∙ results_are_of_calls poll run.calls sub.outcome v is outcome;
      }

-- what is among the acts

pub at_head : {A : Type 0} (x : A) (xs : List A) → Contains (x ∷ xs) x
at_head x xs = Contains-append_left (x ∷ []) xs x (Contains-push [] x)

pub in_tail : {A : Type 0} (x y : A) (xs : List A) → Contains xs y → Contains (x ∷ xs) y
in_tail x y xs there = Contains-append_right (x ∷ []) xs y there

one_made : (Made : ℕ → Hash → Type 0) (a : TxAct) (acts : List TxAct) → ((v : ℕ) (h : Hash) → IsCastAmong (a ∷ acts) v h → Made v h) → MadeBy Made a
one_made Made (tx.Cast v h) acts each = each v h (at_head (tx.Cast v h) acts)
one_made Made (tx.CancelVoter v) acts each = tt
one_made Made tx.Cancel acts each = tt
one_made Made tx.Stop acts each = tt

all_made : (Made : ℕ → Hash → Type 0) (acts : List TxAct) → ((v : ℕ) (h : Hash) → IsCastAmong acts v h → Made v h) → AllByRecursion (MadeBy Made) acts
all_made Made [] each = tt
all_made Made (a ∷ acts) each = (one_made Made a acts each, all_made Made acts (λ v h there. each v h (in_tail a (tx.Cast v h) acts there)))

-- after any acts that are accepted
pub acts_by_rule : (poll : Poll) (n i : ℕ) (acts : List TxAct) (sub : Votes) → IsPoll poll → AreAcceptedActs (opened poll n) acts → slice_get (after_acts acts (opened poll n)) i ≡ Some sub → IsByRule (IsCastAmong acts) poll sub
acts_by_rule poll n i acts sub is accepted there =
    let Made = IsCastAmong acts in
    let all : AllRun Made poll (after_acts acts (opened poll n)) =
    runs_acts Made poll acts (opened poll n) (opened_chain poll n is) (runs_opened Made poll n) accepted (all_made Made acts (λ v h c. c)) in
    run_by_rule Made poll sub is (all_at (λ x. IsRun Made poll x) (after_acts acts (opened poll n)) i sub all there)
