-- What a cast and a cancel of a voter answer and leave, by what one subtransaction answers and leaves.
use Rattle.std.proofs.Common.{◌≡◌, ℕ, ◌+◌, ◌<◌, List, Option, None, Some, Result, Ok, Err, ap, sym, ◌∙◌, refl, slice_get, length, get_or, set, [], subst}
use Rattle.std.specs.Option.{IfSome, option_map}
use Rattle.std.proofs.lemmas.List.{set-get_or}
use Rattle.std.proofs.lemmas.Option.{slice_get-get_or}
use Rattle.px_base.specs.declared.hash.Hash.{Hash}
use Rattle.px_base.specs.declared.phase.Phase.{Phase}
use Rattle.voters.specs.Refusals.{cast_refusal}
use Rattle.voters.specs.Results.{result_at}
use Rattle.voters.specs.Votes.{Votes, after, changed_at}
use Rattle.voters.specs.declared.act.Act.TheVariants as act
use Rattle.voters.specs.declared.outcome.Outcome.TheVariants.{Open}
use Rattle.voters.specs.declared.sub.CastRefusal.{CastRefusal}
use Rattle.voters.specs.declared.voter_result.VoterResult.{VoterResult}
use Rattle.voters.proofs.StepLemmas.{changed_at-set}
use Rattle.txmanager.specs.Chain.{IsChain, IsRounds}
use Rattle.txmanager.specs.Rounds.{TxAct, Cast, CancelVoter, after_act, current}
use Rattle.txmanager.specs.VoterCalls.{cancel_in_current, cancel_in_sub, cast_in_current, cast_in_sub, numbered, of_cast, phase_of, phase_refusal, unless_refused}
use Rattle.txmanager.specs.Voting.{counted, unless_err}
use Rattle.txmanager.specs.declared.refusal.TxRefusal.{TxRefusal}
use Rattle.txmanager.proofs.ActLemmas.{acted_step}
use Rattle.txmanager.proofs.CarryLemmas.{rounds_kept}

-- an accepted cast

counted_by : (o : Option CastRefusal) (name : List ℕ) (r : VoterResult) (value : Option VoterResult)
    → IfSome o (λ (e : CastRefusal). let ok : Result VoterResult CastRefusal = Ok r in ok ≡ Err e) → (o ≡ None → value ≡ Some r)
    → let answer : Result VoterResult TxRefusal = Ok r in answer ≡ unless_refused (option_map (of_cast name) o) (counted name value)
counted_by None name r value refused is = ap (counted name) (sym (is refl))
counted_by (Some e) name r value refused is = absurd (cc)

pub cast_counted : (name : List ℕ) (voter : ℕ) (hash : Hash) (votes new : Votes) (r : VoterResult)
    → IfSome (cast_refusal votes voter) (λ (e : CastRefusal). let ok : Result VoterResult CastRefusal = Ok r in ok ≡ Err e)
    → (cast_refusal votes voter ≡ None → new ≡ after votes (act.Cast voter hash))
    → (cast_refusal votes voter ≡ None → Some r ≡ result_at new voter)
    → let answer : Result VoterResult TxRefusal = Ok r in answer ≡ cast_in_sub name voter hash votes
cast_counted name voter hash votes new r refused led value =
    counted_by (cast_refusal votes voter) name r (result_at (after votes (act.Cast voter hash)) voter) refused
    (λ none. ap (λ (v : Votes). result_at v voter) (sym (led none)) ∙ sym (value none))

-- what one subtransaction leaves, in its place
pub set_unless : {A : Type 0} (result : Result A TxRefusal) (subs : List Votes) (at : ℕ) (old new : Votes) (f : Votes → Votes)
    → slice_get subs at ≡ Some old → old ≡ get_or subs at old → new ≡ unless_err result old (f old)
    → set subs at new ≡ unless_err result subs (changed_at at f subs)
set_unless (Ok r) subs at old new f there is led = ap (set subs at) led ∙ sym (changed_at-set subs at f old there)
set_unless (Err e) subs at old new f there is led = ap (set subs at) (led ∙ is) ∙ set-get_or subs at old

-- the voter's current subtransaction

pub in_current : (name : List ℕ) (phase : Phase) (voter : ℕ) (hash : Hash) (subs : List Votes) (at : ℕ) (result : Result VoterResult TxRefusal)
    → at ≡ current voter subs → at < length subs → phase_refusal phase (phase_of at) ≡ None
    → ((votes : Votes) → slice_get subs at ≡ Some votes → result ≡ cast_in_sub name voter hash votes)
    → numbered (at + 1) result ≡ cast_in_current name phase voter hash (current voter subs) (slice_get subs (current voter subs))
in_current name phase voter hash subs at result is lt due answer =
    let d : Votes = record { threshold = 0; marks = []; outcome = Open } in
    let there : slice_get subs at ≡ Some (get_or subs at d) = slice_get-get_or subs at d lt in
    let here : numbered (at + 1) result ≡ cast_in_current name phase voter hash at (slice_get subs at) =
    rw (there, due) (ap (numbered (at + 1)) (answer (get_or subs at d) there)) in
    here ∙ ap (λ (n : ℕ). cast_in_current name phase voter hash n (slice_get subs n)) is

pub canceled_in_current : (name : List ℕ) (voter : ℕ) (subs : List Votes) (at : ℕ) (result : Result (Unit {0}) TxRefusal)
    → at ≡ current voter subs → at < length subs
    → ((votes : Votes) → slice_get subs at ≡ Some votes → result ≡ cancel_in_sub name voter votes)
    → result ≡ cancel_in_current name voter (slice_get subs (current voter subs))
canceled_in_current name voter subs at result is lt answer =
    let d : Votes = record { threshold = 0; marks = []; outcome = Open } in
    let there : slice_get subs at ≡ Some (get_or subs at d) = slice_get-get_or subs at d lt in
    let here : result ≡ cancel_in_current name voter (slice_get subs at) = rw there (answer (get_or subs at d) there) in
    here ∙ ap (λ (n : ℕ). cancel_in_current name voter (slice_get subs n)) is

-- what a cast leaves before the carrying over is a chain
pub cast_chain : (subs new : List Votes) (at voter : ℕ) (hash : Hash) → IsChain subs → at ≡ current voter subs
    → new ≡ changed_at at (λ votes. after votes (act.Cast voter hash)) subs → IsChain new
cast_chain subs new at voter hash is at_is led =
    subst IsChain (sym (led ∙ ap (λ (n : ℕ). changed_at n (λ votes. after votes (act.Cast voter hash)) subs) at_is)) (acted_step (Cast voter hash) subs is).chain

-- and so is what a cancel of a voter leaves
pub cancel_chain : (subs new : List Votes) (at voter : ℕ) → IsChain subs → at ≡ current voter subs
    → new ≡ changed_at at (λ votes. after votes (act.Cancel voter)) subs → IsChain new
cancel_chain subs new at voter is at_is led =
    subst IsChain (sym (led ∙ ap (λ (n : ℕ). changed_at n (λ votes. after votes (act.Cancel voter)) subs) at_is)) (acted_step (CancelVoter voter) subs is).chain

-- an act or a refusal leaves a chain of at most 8 rounds
pub rounds_unless : {A : Type 0} (a : TxAct) (subs new : List Votes) (result : Result A TxRefusal) → IsRounds subs
    → new ≡ unless_err result subs (after_act subs a) → IsRounds new
rounds_unless a subs new (Ok r) is led = subst IsRounds (sym led) (rounds_kept a subs is)
rounds_unless a subs new (Err e) is led = subst IsRounds (sym led) is
