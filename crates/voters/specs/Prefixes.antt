-- Which prefix of a list of acts decides its outcome.
use Rattle.std.specs.Prelude.{ℕ, ◌<◌, ◌≤◌, Bool, false, List, [], ◌∷◌, length, take}
use Rattle.px_base.specs.declared.hash.Hash.{Hash}
use Rattle.voters.specs.declared.act.Act.{Act}
use Rattle.voters.specs.declared.outcome.Outcome.{Outcome}
use Rattle.voters.specs.declared.outcome.Outcome.TheVariants.{Open, Commit, Fail, Stop}
use Rattle.voters.specs.Votes.{is_stop}

-- the last act is a stop
abbrev pub ends_in_stop : List Act → Bool
ends_in_stop [] = false
ends_in_stop (act ∷ []) = is_stop act
ends_in_stop (act ∷ next ∷ acts) = ends_in_stop (next ∷ acts)

-- of a commit of a hash, a fail and a stop this is the first that is met
abbrev pub IsFirstMet : (Hash → Type 0) → Type 0 → Type 0 → Outcome → Type 0
IsFirstMet Commits Fails Stops (Commit hash) = Commits hash
IsFirstMet Commits Fails Stops Fail = ((hash : Hash) → ¬ Commits hash) × Fails
IsFirstMet Commits Fails Stops Stop = ((hash : Hash) → ¬ Commits hash) × (¬ Fails) × Stops
IsFirstMet Commits Fails Stops Open = ⊥

-- the acts decide no outcome
abbrev pub DecideNothing : (List Act → Outcome → Type 0) → List Act → Type 0
DecideNothing Decide acts = (outcome : Outcome) → ¬ Decide acts outcome

-- the shortest prefix of the acts that decides anything decides this
pub record IsDecided (Decide : List Act → Outcome → Type 0) (acts : List Act) (outcome : Outcome)
    : Type 0 where
  pub n : ℕ
  pub within : n ≤ length acts
  pub decides : Decide (take n acts) outcome
  pub shortest : (k : ℕ) → k < n → DecideNothing Decide (take k acts)

-- the outcome of the acts: what their shortest deciding prefix decides, and open where none decides
abbrev pub IsOutcomeBy : (List Act → Outcome → Type 0) → List Act → Outcome → Type 0
IsOutcomeBy Decide acts Open = (n : ℕ) → n ≤ length acts → DecideNothing Decide (take n acts)
IsOutcomeBy Decide acts (Commit hash) = IsDecided Decide acts (Commit hash)
IsOutcomeBy Decide acts Fail = IsDecided Decide acts Fail
IsOutcomeBy Decide acts Stop = IsDecided Decide acts Stop
