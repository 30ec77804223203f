-- Panels: who votes, with which weight, and how much is needed.
use Rattle.std.specs.Prelude.{◌≡◌, ℕ, ◌+◌, ◌*◌, ◌<◌, ◌≤◌, Bool, ◌==◌, ◌&&◌, nat_lt, nat_le, if◌then◌else◌, List, [], ◌∷◌, ◌++◌, length, map, sum_by, Option, None, Some}
use Rattle.std.specs.List.{list_any}
use Rattle.std.specs.Str.{bytes_eq}
use Rattle.px_base.specs.declared.voter.Voter.{Voter}
use Rattle.voters.specs.declared.panel.PanelRefusal.{PanelRefusal}
use Rattle.voters.specs.declared.panel.PanelRefusal.TheVariants.{NoVoters, TooManyVoters, DuplicateVoter, BadThreshold}
use Rattle.voters.specs.Marks.{voter_weight}
use Rattle.voters.specs.Votes.{Poll}
pub mod Inside

-- what is seen of a panel
pub record Roster : Type 0 where
  pub voters : List Voter
  pub threshold : ℕ

-- the voter has that name
abbrev pub same_name : List ℕ → Voter → Bool
same_name name voter = bytes_eq voter.name name

-- the first name of the later voters that a voter in front of it has
abbrev pub first_repeated_after : List Voter → List Voter → Option (List ℕ)
first_repeated_after before [] = None
first_repeated_after before (voter ∷ voters) =
    if list_any (same_name voter.name) before then Some voter.name
    else first_repeated_after (before ++ voter ∷ []) voters

-- the first name that stands twice, at its second place
abbrev pub first_repeated : List Voter → Option (List ℕ)
first_repeated voters = first_repeated_after [] voters

-- the refusal of a repeated name, or else of a threshold above the total or not above half of it
abbrev pub threshold_refusal : ℕ → ℕ → Option (List ℕ) → Option PanelRefusal
threshold_refusal total threshold (Some name) = Some (DuplicateVoter name)
threshold_refusal total threshold None =
    if nat_le threshold total && nat_lt total (2 * threshold) then None
    else Some (BadThreshold total threshold)

-- the first reason why there is no such panel, if there is one
abbrev pub panel_refusal : List Voter → ℕ → Option PanelRefusal
panel_refusal voters threshold =
    if length voters == 0 then Some NoVoters
    else if nat_lt 64 (length voters) then Some (TooManyVoters (length voters))
    else threshold_refusal (sum_by voter_weight voters) threshold (first_repeated voters)

-- one to 64 voters with distinct names, and a threshold that all together reach and half does not
pub record IsPanel (voters : List Voter) (threshold : ℕ) : Type 0 where
  pub some : 1 ≤ length voters
  pub few : length voters ≤ 64
  pub distinct : first_repeated voters ≡ None
  pub reachable : threshold ≤ sum_by voter_weight voters
  pub most : sum_by voter_weight voters < 2 * threshold

-- what a vote of the panel is taken by
abbrev pub poll_of : Roster → Poll
poll_of panel = record { weights = map voter_weight panel.voters; threshold = panel.threshold }
