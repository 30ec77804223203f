-- The rule of the votes: what a list of acts comes to, by the votes that stand in it alone.
use Rattle.std.specs.Prelude.{◌≡◌, ℕ, ◌+◌, ◌*◌, ◌<◌, ◌≤◌, Bool, true, false, ◌==◌, ◌&&◌, not, nat_lt, if◌then◌else◌, List, [], ◌∷◌, sum, length, count_by, Option, None, Some}
use Rattle.std.specs.List.{list_any}
use Rattle.px_base.specs.declared.hash.Hash.{Hash}
use Rattle.px_base.specs.Hash.{same_hash}
use Rattle.voters.specs.declared.act.Act.{Act}
use Rattle.voters.specs.declared.act.Act.TheVariants.{Cast, Cancel, Stop as StopAct}
use Rattle.voters.specs.declared.outcome.Outcome.{Outcome}
use Rattle.voters.specs.declared.outcome.Outcome.TheVariants.{Open, Commit, Fail, Stop}
use Rattle.voters.specs.declared.voter_result.VoterResult.{VoterResult}
use Rattle.voters.specs.declared.voter_result.VoterResult.TheVariants.{Open as Undecided, Committed, Failed, Canceled, Stopped}
use Rattle.voters.specs.Prefixes.{IsFirstMet, IsOutcomeBy, ends_in_stop}
use Rattle.voters.specs.Verdict.{Standing, standing_with}
use Rattle.voters.specs.Votes.{Poll}

-- the act casts this hash for the voter
abbrev pub is_cast_of : ℕ → Hash → Act → Bool
is_cast_of voter hash (Cast v h) = (v == voter) && same_hash h hash
is_cast_of voter hash (Cancel v) = false
is_cast_of voter hash StopAct = false

-- the act casts some hash for the voter
abbrev pub is_cast_by : ℕ → Act → Bool
is_cast_by voter (Cast v h) = v == voter
is_cast_by voter (Cancel v) = false
is_cast_by voter StopAct = false

-- the act cancels the voter
abbrev pub is_cancel_of : ℕ → Act → Bool
is_cancel_of voter (Cast v h) = false
is_cancel_of voter (Cancel v) = v == voter
is_cancel_of voter StopAct = false

-- the list holds a cast of this hash by the voter
abbrev pub has_cast_of : List Act → ℕ → Hash → Bool
has_cast_of acts voter hash = list_any (is_cast_of voter hash) acts

-- the list holds a cast by the voter
abbrev pub has_cast : List Act → ℕ → Bool
has_cast acts voter = list_any (is_cast_by voter) acts

-- the list holds a cancel of the voter
abbrev pub has_cancel : List Act → ℕ → Bool
has_cancel acts voter = list_any (is_cancel_of voter) acts

-- no voter casts twice in the list
abbrev pub CastsOnce : List Act → Type 0
CastsOnce acts = (voter : ℕ) → count_by (is_cast_by voter) acts ≤ 1

-- the voter's vote for the hash stands: it was cast, and the voter was not canceled
abbrev pub stands : List Act → ℕ → Hash → Bool
stands acts voter hash = has_cast_of acts voter hash && not (has_cancel acts voter)

-- the voter is open: it neither voted nor was canceled
abbrev pub is_open : List Act → ℕ → Bool
is_open acts voter = not (has_cast acts voter) && not (has_cancel acts voter)

-- the weights of those voters summed up that pass a test, from number i on
abbrev pub weight_from : (ℕ → Bool) → ℕ → List ℕ → ℕ
weight_from passes i [] = 0
weight_from passes i (w ∷ ws) = (if passes i then w else 0) + weight_from passes (i + 1) ws

-- the weight that stands for the hash
abbrev pub weight_standing : Poll → List Act → Hash → ℕ
weight_standing poll acts hash = weight_from (λ voter. stands acts voter hash) 0 poll.weights

-- the weight of the open voters
abbrev pub weight_open : Poll → List Act → ℕ
weight_open poll acts = weight_from (is_open acts) 0 poll.weights

-- all voters together reach the threshold, and it is above half of their weight
pub record IsPoll (poll : Poll) : Type 0 where
  pub reachable : poll.threshold ≤ sum poll.weights
  pub most : sum poll.weights < 2 * poll.threshold

-- the standing votes for the hash weigh at least the threshold
abbrev pub Commits : Poll → List Act → Hash → Type 0
Commits poll acts hash = poll.threshold ≤ weight_standing poll acts hash

-- the open voters are too few for a new hash, and for each hash that a vote stands for
pub record IsLost (poll : Poll) (acts : List Act) : Type 0 where
  pub new : weight_open poll acts < poll.threshold
  pub each : (voter : ℕ) (hash : Hash) → voter < length poll.weights → stands acts voter hash ≡ true
      → weight_standing poll acts hash + weight_open poll acts < poll.threshold

-- the acts decide this
abbrev pub Decides : Poll → List Act → Outcome → Type 0
Decides poll acts = IsFirstMet (Commits poll acts) (IsLost poll acts) (ends_in_stop acts ≡ true)

-- the outcome of a list of acts
abbrev pub IsOutcome : Poll → List Act → Outcome → Type 0
IsOutcome poll = IsOutcomeBy (Decides poll)

-- the verdict on a committed hash: the weight that stands for it after the acts
abbrev pub verdict_on : Poll → List Act → Hash → Standing
verdict_on poll acts hash =
    standing_with hash (weight_standing poll acts hash) poll.threshold (sum poll.weights)

-- what an outcome means for a voter that was not canceled
abbrev pub meaning : Poll → List Act → ℕ → Outcome → VoterResult
meaning poll acts voter Stop = Stopped
meaning poll acts voter Open = Undecided
meaning poll acts voter (Commit hash) =
    if has_cast_of acts voter hash then Committed (verdict_on poll acts hash)
    else if has_cast acts voter then Failed else Undecided
meaning poll acts voter Fail = if has_cast acts voter then Failed else Undecided

-- the result of a voter, where the acts have this outcome
abbrev pub rule_result : Poll → List Act → Outcome → ℕ → VoterResult
rule_result poll acts outcome voter =
    if has_cancel acts voter then Canceled else meaning poll acts voter outcome

-- the same, where there is such a voter
abbrev pub rule_result_at : Poll → List Act → Outcome → ℕ → Option VoterResult
rule_result_at poll acts outcome voter =
    if nat_lt voter (length poll.weights) then Some (rule_result poll acts outcome voter) else None
