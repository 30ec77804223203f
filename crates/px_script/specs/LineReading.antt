-- What the reader computes of the words of a line. The rule of the lines stands in Spelling.
use Rattle.std.specs.Prelude.{ℕ, List, [], ◌∷◌, Option, None, option_map}
use Rattle.std.specs.Option.{option_or}
use Rattle.px_script.specs.ClusterReading.{cluster_of}
use Rattle.px_script.specs.JobReading.{job_of}
use Rattle.px_script.specs.PushReading.{push_of}
use Rattle.px_script.specs.RepairReading.{repair_of}
use Rattle.px_script.specs.Spelling.{TakesMemory}
use Rattle.px_script.specs.VoteReading.{vote_of}
use Rattle.px_script.specs.declared.event.Event.{Event}
use Rattle.px_script.specs.declared.event.Event.TheVariants.{Operation}

-- the event that begins with this word and goes on with those, of the one family that has such
abbrev pub event_behind : List ℕ → List (List ℕ) → Option Event
event_behind first words =
    option_or (option_map Operation (vote_of first words))
    (option_or (cluster_of first words)
    (option_or (push_of first words)
    (option_or (job_of first words) (repair_of first words))))

-- the event of some words
abbrev pub event_of : List (List ℕ) → Option Event
event_of [] = None
event_of (first ∷ words) = event_behind first words

-- words of which the first is one whose line takes memory
abbrev pub FirstTakesMemory : List (List ℕ) → Type 0
FirstTakesMemory [] = ⊥
FirstTakesMemory (first ∷ words) = TakesMemory first
