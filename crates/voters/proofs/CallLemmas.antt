-- What stands for a committed hash, over any list of calls.
use Rattle.std.proofs.Common.{◌≡◌, ℕ, ◌≤◌, List, [], ◌∷◌, false, Option, None, Some, arith, ◌∙◌, refl, slice_get}
use Rattle.px_base.specs.declared.hash.Hash.{Hash}
use Rattle.voters.specs.declared.act.Act.{Act}
use Rattle.voters.specs.declared.act.Act.TheVariants as act
use Rattle.voters.specs.declared.mark.Mark.{Mark}
use Rattle.voters.specs.declared.outcome.Outcome.TheVariants.{Commit}
use Rattle.voters.specs.declared.voter_result.VoterResult.{VoterResult}
use Rattle.voters.specs.declared.voter_result.VoterResult.TheVariants as result
use Rattle.voters.specs.Marks.{standing_weight}
use Rattle.voters.specs.Calls.{Call, called, all_called, all_canceled, unless_refused}
use Rattle.voters.specs.Calls as call
use Rattle.voters.specs.Refusals.{cast_refusal, cancel_refusal, cancel_refusal_at, cancel_refusal_for, stop_refusal}
use Rattle.voters.specs.Results.{result_of, is_committed, committed_in, undecided_voters}
use Rattle.voters.specs.Rule.{IsPoll}
use Rattle.voters.specs.Sub.{IsSound}
use Rattle.voters.specs.Votes.{Poll, Votes, start, after}
use Rattle.std.proofs.Common.{map}
use Rattle.voters.proofs.KeepLemmas.{all_canceled-kept}
use Rattle.voters.proofs.MarkRuleLemmas.{start_sound}
use Rattle.voters.proofs.StepLemmas.{cast_sound, cancel_sound, stop_sound, run-threshold}

unless_case : {E : Type 0} (o : Option E) (votes : Votes) (a : Act) → IsSound votes → (o ≡ None → IsSound (after votes a)) → IsSound (unless_refused o votes a)
unless_case None votes a sound next = next refl
unless_case (Some e) votes a sound next = sound

uncommitted : (r : VoterResult) → cancel_refusal_for r ≡ None → is_committed r ≡ false
uncommitted result.Open e = refl
uncommitted (result.Committed s) e = absurd (cc)
uncommitted result.Failed e = refl
uncommitted result.Canceled e = refl
uncommitted result.Stopped e = refl

uncommitted_at : (votes : Votes) (v : ℕ) (o : Option Mark) → slice_get votes.marks v ≡ o → cancel_refusal_at votes o ≡ None → committed_in v votes ≡ false
uncommitted_at votes v None there e = absurd (cc)
uncommitted_at votes v (Some b) there e = rw there (uncommitted (result_of votes b) e)

pub called_sound : (votes : Votes) (c : Call) → IsSound votes → IsSound (called votes c)
called_sound votes (call.Cast v h) sound = unless_case (cast_refusal votes v) votes (act.Cast v h) sound (λ e. cast_sound votes v h sound)
called_sound votes (call.Cancel v) sound = unless_case (cancel_refusal votes v) votes (act.Cancel v) sound (λ e. cancel_sound votes v sound (uncommitted_at votes v (slice_get votes.marks v) refl e))
called_sound votes call.Cancel_all sound = (all_canceled-kept votes sound).votes.keeps.sound
called_sound votes call.Stop sound = unless_case (stop_refusal votes) votes act.Stop sound (λ e. stop_sound votes sound)

all_sound : (calls : List Call) (votes : Votes) → IsSound votes → IsSound (all_called calls votes)
all_sound [] votes sound = sound
all_sound (c ∷ cs) votes sound = all_sound cs (called votes c) (called_sound votes c sound)

unless_threshold : {E : Type 0} (o : Option E) (votes : Votes) (a : Act) → (unless_refused o votes a).threshold ≡ votes.threshold
unless_threshold None votes a = refl
unless_threshold (Some e) votes a = refl

called_threshold : (votes : Votes) (c : Call) → (called votes c).threshold ≡ votes.threshold
called_threshold votes (call.Cast v h) = unless_threshold (cast_refusal votes v) votes (act.Cast v h)
called_threshold votes (call.Cancel v) = unless_threshold (cancel_refusal votes v) votes (act.Cancel v)
called_threshold votes call.Cancel_all = run-threshold (map act.Cancel (undecided_voters votes)) votes
called_threshold votes call.Stop = unless_threshold (stop_refusal votes) votes act.Stop

pub all_threshold : (calls : List Call) (votes : Votes) → (all_called calls votes).threshold ≡ votes.threshold
all_threshold [] votes = refl
all_threshold (c ∷ cs) votes = all_threshold cs (called votes c) ∙ called_threshold votes c

pub calls-lead : (poll : Poll) (calls : List Call) (hash : Hash) → IsPoll poll → (all_called calls (start poll)).outcome ≡ Commit hash → poll.threshold ≤ standing_weight hash (all_called calls (start poll)).marks
calls-lead poll calls hash is e =
    omega (arith, all_threshold calls (start poll), (all_sound calls (start poll) (start_sound poll is)).leads hash e)
