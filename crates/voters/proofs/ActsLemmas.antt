-- The acts of a list of calls.
use Rattle.std.proofs.Common.{◌≡◌, ℕ, ◌+◌, ◌≤◌, List, [], ◌∷◌, ◌++◌, Bool, true, false, Option, None, Some, arith, ap, sym, ◌∙◌, inl, inr, refl, ◌==◌, map, slice_get, zero, suc}
use Rattle.std.specs.Prelude.{count_by}
use Rattle.std.specs.Option.{option_map}
use Rattle.std.proofs.lemmas.Bool.{cases_Bool, true≢false, eq-eqb, eqb-true}
use Rattle.std.proofs.lemmas.List.Sums.{sum_by-cons, sum_by-append}
use Rattle.px_base.specs.declared.hash.Hash.{Hash}
use Rattle.voters.specs.declared.act.Act.{Act}
use Rattle.voters.specs.declared.act.Act.TheVariants as act
use Rattle.voters.specs.declared.mark.Mark.{Mark}
use Rattle.voters.specs.declared.outcome.Outcome.{Outcome}
use Rattle.voters.specs.declared.sub.CastRefusal.TheVariants as cast
use Rattle.voters.specs.Calls.{Call, called, all_called, unless_refused, act_unless_refused, acts_of_call, acts_of}
use Rattle.voters.specs.Calls as call
use Rattle.voters.specs.Refusals.{cast_refusal, cast_refusal_at, cancel_refusal, stop_refusal, is_stopped}
use Rattle.voters.specs.Results.{voted_in, undecided_voters}
use Rattle.voters.specs.Rule.{CastsOnce, is_cast_by}
use Rattle.voters.specs.Votes.{Poll, Votes, start, after, run, casting}
use Rattle.voters.proofs.AgreeLemmas.{one_if}
use Rattle.voters.proofs.KeepLemmas.{same_index, same_index-is, changed_there, cancel_voted, cast_voted}

-- the acts run to what the calls leave

run-append_all : (acts more : List Act) (votes : Votes) → run (acts ++ more) votes ≡ run more (run acts votes)
run-append_all [] more votes = refl
run-append_all (a ∷ acts) more votes = run-append_all acts more (after votes a)

-- what is not refused is done
pub unless_none : {E : Type 0} (o : Option E) (votes : Votes) (a : Act) → o ≡ None → unless_refused o votes a ≡ after votes a
unless_none None votes a e = refl
unless_none (Some x) votes a e = absurd (cc)

unless_is : {E : Type 0} (o : Option E) (votes : Votes) (a : Act) → unless_refused o votes a ≡ run (act_unless_refused o a) votes
unless_is None votes a = refl
unless_is (Some e) votes a = refl

called_is : (votes : Votes) (c : Call) → called votes c ≡ run (acts_of_call votes c) votes
called_is votes (call.Cast v h) = unless_is (cast_refusal votes v) votes (act.Cast v h)
called_is votes (call.Cancel v) = unless_is (cancel_refusal votes v) votes (act.Cancel v)
called_is votes call.Cancel_all = refl
called_is votes call.Stop = unless_is (stop_refusal votes) votes act.Stop

pub calls_come_to : (votes : Votes) (calls : List Call) → all_called calls votes ≡ run (acts_of votes calls) votes
calls_come_to votes [] = refl
calls_come_to votes (c ∷ cs) =
    calls_come_to (called votes c) cs
    ∙ ap (λ (v : Votes). run (acts_of (called votes c) cs) v) (called_is votes c)
    ∙ sym (run-append_all (acts_of_call votes c) (acts_of (called votes c) cs) votes)

-- a cast is accepted once from each voter

-- how often the voter casts in the acts
abbrev casts_of : ℕ → List Act → ℕ
casts_of v acts = count_by (is_cast_by v) acts

casts_of-cons : (v : ℕ) (a : Act) (acts : List Act) → casts_of v (a ∷ acts) ≡ one_if (is_cast_by v a) + casts_of v acts
casts_of-cons v a acts = sum_by-cons (λ x. one_if (is_cast_by v x)) a acts

record CanCast (mark : Option Mark) : Type 0 where
  beside : Mark
  there : mark ≡ Some beside
  vote : beside.vote ≡ None

no_vote : (vote : Option Hash) → option_map cast.AlreadyVoted vote ≡ None → vote ≡ None
no_vote None e = refl
no_vote (Some h) e = absurd (cc)

-- whose cast is accepted has no vote
can_cast : (o : Outcome) (mark : Option Mark) → cast_refusal_at o mark ≡ None → CanCast mark
can_cast o None e = absurd (cc)
can_cast o (Some b) e =
    elim (cases_Bool b.canceled) [
      | inl t ↦ (let f : Some cast.Canceled ≡ None = rw t at e in absurd (cc))
      | inr stands ↦ elim (cases_Bool (is_stopped o)) [
        | inl t ↦ (let f : Some cast.Stopped ≡ None = rw (stands, t) at e in absurd (cc))
        | inr going ↦ record { beside = b; there = refl; vote = no_vote b.vote (rw (stands, going) at e) }
      ]
    ]

same_index-refl : (v : ℕ) → same_index v v ≡ true
same_index-refl zero = refl
same_index-refl (suc v) = same_index-refl v

same_index-apart : (w v : ℕ) → (w == v) ≡ false → same_index w v ≡ false
same_index-apart w v apart =
    elim (cases_Bool (same_index w v)) [
      | inl t ↦ absurd (true≢false (sym (eq-eqb w v (same_index-is w v t)) ∙ apart))
      | inr f ↦ f
    ]

-- before and after a cast that is accepted
own_cast : (votes : Votes) (v : ℕ) (h : Hash) → cast_refusal votes v ≡ None → (voted_in v votes ≡ false) × (voted_in v (after votes (act.Cast v h)) ≡ true)
own_cast votes v h e =
    let c = can_cast votes.outcome (slice_get votes.marks v) e in
    let now : slice_get (after votes (act.Cast v h)).marks v ≡ Some (casting h c.beside) = rw (same_index-refl v) at (changed_there votes.marks v v (casting h) c.beside c.there) in
    (rw (c.there, c.vote) refl, rw (now, c.vote) refl)

cast_counts : (votes : Votes) (w v : ℕ) (h : Hash) → cast_refusal votes w ≡ None → one_if (w == v) + one_if (voted_in v votes) ≤ one_if (voted_in v (after votes (act.Cast w h)))
cast_counts votes w v h e =
    elim (cases_Bool (w == v)) [
      | inl t ↦
          (let own = own_cast votes w h e in
          let same : w ≡ v = eqb-true w v t in
          let before : voted_in v votes ≡ false = rw same at own.0 in
          let now : voted_in v (after votes (act.Cast w h)) ≡ true = ap (λ (n : ℕ). voted_in n (after votes (act.Cast w h))) (sym same) ∙ own.1 in
          rw (t, before, now) (omega arith))
      | inr f ↦ rw (f, cast_voted v w h votes (same_index-apart w v f)) (omega arith)
    ]

unless_counts : {E : Type 0} (o : Option E) (votes : Votes) (a : Act) (v : ℕ) → (o ≡ None → one_if (is_cast_by v a) + one_if (voted_in v votes) ≤ one_if (voted_in v (after votes a)))
    → casts_of v (act_unless_refused o a) + one_if (voted_in v votes) ≤ one_if (voted_in v (unless_refused o votes a))
unless_counts None votes a v next = omega (arith, next refl, casts_of-cons v a [])
unless_counts (Some e) votes a v next = omega arith

cancels_count : (v : ℕ) (voters : List ℕ) → casts_of v (map act.Cancel voters) ≡ 0
cancels_count v [] = refl
cancels_count v (w ∷ ws) = omega (arith, casts_of-cons v (act.Cancel w) (map act.Cancel ws), cancels_count v ws)

cancels_voted : (v : ℕ) (voters : List ℕ) (votes : Votes) → voted_in v (run (map act.Cancel voters) votes) ≡ voted_in v votes
cancels_voted v [] votes = refl
cancels_voted v (w ∷ ws) votes = cancels_voted v ws (after votes (act.Cancel w)) ∙ cancel_voted v w votes

-- a call counts at most one cast of a voter, and none where it has voted
call_counts : (votes : Votes) (c : Call) (v : ℕ) → casts_of v (acts_of_call votes c) + one_if (voted_in v votes) ≤ one_if (voted_in v (called votes c))
call_counts votes (call.Cast w h) v = unless_counts (cast_refusal votes w) votes (act.Cast w h) v (cast_counts votes w v h)
call_counts votes (call.Cancel w) v =
    unless_counts (cancel_refusal votes w) votes (act.Cancel w) v (λ e. rw (cancel_voted v w votes) (omega arith))
call_counts votes call.Cancel_all v =
    rw (cancels_voted v (undecided_voters votes) votes) (omega (arith, cancels_count v (undecided_voters votes)))
call_counts votes call.Stop v = unless_counts (stop_refusal votes) votes act.Stop v (λ e. omega arith)

at_most_one : (b : Bool) → one_if b ≤ 1
at_most_one true = omega arith
at_most_one false = omega arith

counts : (calls : List Call) (votes : Votes) (v : ℕ) → casts_of v (acts_of votes calls) + one_if (voted_in v votes) ≤ 1
counts [] votes v = omega (arith, at_most_one (voted_in v votes))
counts (c ∷ cs) votes v =
    omega (arith, sum_by-append (λ x. one_if (is_cast_by v x)) (acts_of_call votes c) (acts_of (called votes c) cs), call_counts votes c v, counts cs (called votes c) v)

-- no voter casts twice in the acts of calls
pub casts_once : (poll : Poll) (calls : List Call) → CastsOnce (acts_of (start poll) calls)
casts_once poll calls = λ v. omega (arith, counts calls (start poll) v)
