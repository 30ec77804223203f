-- Calls of a subtransaction, refused or not.
use Rattle.std.specs.Prelude.{◌≡◌, ℕ, List, [], ◌∷◌, ◌++◌, map, Option, None, Some}
use Rattle.px_base.specs.declared.hash.Hash.{Hash}
use Rattle.voters.specs.declared.act.Act.{Act}
use Rattle.voters.specs.declared.act.Act.TheVariants as act
use Rattle.voters.specs.Refusals.{cast_refusal, cancel_refusal, stop_refusal}
use Rattle.voters.specs.Results.{undecided_voters}
use Rattle.voters.specs.Votes.{Votes, after, run}

-- a call that changes a subtransaction
pub data Call : Type 0 where
  Cast : (voter : ℕ) → (hash : Hash) → Call
  Cancel : (voter : ℕ) → Call
  Cancel_all : Call
  Stop : Call

-- one act more, where nothing refuses it
abbrev pub unless_refused : {E : Type 0} → Option E → Votes → Act → Votes
unless_refused None votes act = after votes act
unless_refused (Some e) votes act = votes

-- a cancel of each voter that is undecided now
abbrev pub all_canceled : Votes → Votes
all_canceled votes = run (map act.Cancel (undecided_voters votes)) votes

-- what a call leaves
abbrev pub called : Votes → Call → Votes
called votes (Cast voter hash) =
    unless_refused (cast_refusal votes voter) votes (act.Cast voter hash)
called votes (Cancel voter) =
    unless_refused (cancel_refusal votes voter) votes (act.Cancel voter)
called votes Cancel_all = all_canceled votes
called votes Stop = unless_refused (stop_refusal votes) votes act.Stop

-- what a list of calls leaves
abbrev pub all_called : List Call → Votes → Votes
all_called [] votes = votes
all_called (call ∷ calls) votes = all_called calls (called votes call)

-- a call is accepted: nothing refuses it
abbrev pub IsAccepted : Votes → Call → Type 0
IsAccepted votes (Cast voter hash) = cast_refusal votes voter ≡ None
IsAccepted votes (Cancel voter) = cancel_refusal votes voter ≡ None
IsAccepted votes Cancel_all = Unit {0}
IsAccepted votes Stop = stop_refusal votes ≡ None

-- each of a list of calls is accepted as it comes
abbrev pub AreAccepted : Votes → List Call → Type 0
AreAccepted votes [] = Unit {0}
AreAccepted votes (call ∷ calls) = IsAccepted votes call × AreAccepted (called votes call) calls

-- the act, where nothing refuses it
abbrev pub act_unless_refused : {E : Type 0} → Option E → Act → List Act
act_unless_refused None act = act ∷ []
act_unless_refused (Some e) act = []

-- the acts that a call appends
abbrev pub acts_of_call : Votes → Call → List Act
acts_of_call votes (Cast voter hash) =
    act_unless_refused (cast_refusal votes voter) (act.Cast voter hash)
acts_of_call votes (Cancel voter) =
    act_unless_refused (cancel_refusal votes voter) (act.Cancel voter)
acts_of_call votes Cancel_all = map act.Cancel (undecided_voters votes)
acts_of_call votes Stop = act_unless_refused (stop_refusal votes) act.Stop

-- the acts that a list of calls appends
abbrev pub acts_of : Votes → List Call → List Act
acts_of votes [] = []
acts_of votes (call ∷ calls) = acts_of_call votes call ++ acts_of (called votes call) calls
