-- What the events of a script are to the cluster: one move each, but for those that name a storage
-- which there is not, as nothing happens then.
use Rattle.std.specs.Prelude.{List, [], ◌∷◌, ◌++◌, Result, Ok, Err}
use Rattle.px_ops.specs.declared.refusal.Refusal.{Refusal}
use Rattle.px_cluster.specs.Astray.{Happens, Move}
use Rattle.px_cluster.specs.Cluster.{Cluster}
use Rattle.px_cluster.specs.Events.{Answer as Told, Event as Happening}
use Rattle.px_script.specs.declared.event.Event.{Event}
use Rattle.script_rules.specs.Machine.{told}
use Rattle.script_rules.specs.Resolved.{resolved}
use Rattle.script_rules.specs.Scripts.{LeadsOn}
use Rattle.script_rules.specs.declared.answer.Answer.{Answer}

abbrev pub moves_by : Result Happening Refusal → Told → List Move
moves_by (Ok happening) answer = Happens happening answer ∷ []
moves_by (Err why) answer = []

-- of events that lead from one cluster to another, with their answers
abbrev pub moves_of : (old new : Cluster) (asked : List Event) (answers : List Answer)
    → LeadsOn old asked answers new → List Move
moves_of old new [] answers run = []
moves_of old new (event ∷ asked) [] run = []
moves_of old new (event ∷ asked) (answer ∷ answers) run =
    moves_by (resolved old.core event) (told answer) ++ moves_of run.0 new asked answers run.2
