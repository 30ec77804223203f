-- The rule of a list of acts by one mark beside each voter: its first cast, and its cancel.
use Rattle.std.specs.Prelude.{◌≡◌, ℕ, ◌+◌, ◌<◌, ◌≤◌, Bool, true, false, ◌==◌, if◌then◌else◌, List, [], ◌∷◌, Option, None, Some}
use Rattle.px_base.specs.declared.hash.Hash.{Hash}
use Rattle.voters.specs.declared.act.Act.{Act}
use Rattle.voters.specs.declared.act.Act.TheVariants.{Cast, Cancel, Stop as StopAct}
use Rattle.voters.specs.declared.mark.Mark.{Mark}
use Rattle.voters.specs.declared.outcome.Outcome.{Outcome}
use Rattle.voters.specs.Marks.{standing_weight, open_weight}
use Rattle.voters.specs.Prefixes.{IsFirstMet, IsOutcomeBy, ends_in_stop}
use Rattle.voters.specs.Votes.{Poll}

-- the hash that a voter cast first, if it cast any
abbrev pub vote_of : List Act → ℕ → Option Hash
vote_of [] voter = None
vote_of (Cast v hash ∷ acts) voter = if v == voter then Some hash else vote_of acts voter
vote_of (Cancel v ∷ acts) voter = vote_of acts voter
vote_of (StopAct ∷ acts) voter = vote_of acts voter

-- a cancel of the voter stands in the list
abbrev pub is_canceled : List Act → ℕ → Bool
is_canceled [] voter = false
is_canceled (Cast v hash ∷ acts) voter = is_canceled acts voter
is_canceled (Cancel v ∷ acts) voter = if v == voter then true else is_canceled acts voter
is_canceled (StopAct ∷ acts) voter = is_canceled acts voter

-- what stands beside a voter of that weight
abbrev pub mark_of : List Act → ℕ → ℕ → Mark
mark_of acts voter weight = record {
  weight = weight;
  vote = vote_of acts voter;
  canceled = is_canceled acts voter;
}

-- the marks of the voters from number i on
abbrev pub marks_from : List Act → ℕ → List ℕ → List Mark
marks_from acts i [] = []
marks_from acts i (w ∷ ws) = mark_of acts i w ∷ marks_from acts (i + 1) ws

-- the mark of each voter after the acts
abbrev pub marks_of : Poll → List Act → List Mark
marks_of poll acts = marks_from acts 0 poll.weights

-- the marks' standing votes for the hash weigh at least the threshold
abbrev pub MarksCommit : Poll → List Act → Hash → Type 0
MarksCommit poll acts hash = poll.threshold ≤ standing_weight hash (marks_of poll acts)

-- by the marks no hash can reach the threshold any more
abbrev pub MarksFail : Poll → List Act → Type 0
MarksFail poll acts = (hash : Hash)
    → standing_weight hash (marks_of poll acts) + open_weight (marks_of poll acts) < poll.threshold

-- the marks after the acts decide this
abbrev pub MarksDecide : Poll → List Act → Outcome → Type 0
MarksDecide poll acts =
    IsFirstMet (MarksCommit poll acts) (MarksFail poll acts) (ends_in_stop acts ≡ true)

-- the outcome of the acts, by the marks
abbrev pub IsMarksOutcome : Poll → List Act → Outcome → Type 0
IsMarksOutcome poll = IsOutcomeBy (MarksDecide poll)
