-- What a world does of an event: all of it, or nothing where memory wants.
use Rattle.std.specs.Prelude.{◌≡◌, Result, Ok, Err}
use Rattle.std.specs.declared.alloc.AllocError.{AllocError}
use Rattle.px_cluster.specs.Events.{Event as Happening}
use Rattle.px_cluster.specs.Step.{Step}
use Rattle.px_script.specs.declared.event.Event.{Event}
use Rattle.script_rules.specs.Machine.{Does, told}
use Rattle.script_rules.specs.declared.answer.Answer.{Answer}
use Rattle.px_world.specs.World.{Kept, cluster_of}

-- an event of a script
abbrev pub Tries : Kept → Event → Result Answer AllocError → Kept → Type 0
Tries old event (Ok answer) new = Does (cluster_of old) event answer (cluster_of new)
Tries old event (Err wants) new = cluster_of new ≡ cluster_of old

-- an event of the cluster
abbrev pub Happens : Kept → Happening → Result Answer AllocError → Kept → Type 0
Happens old happening (Ok answer) new =
    Step (cluster_of old) happening (told answer) (cluster_of new)
Happens old happening (Err wants) new = cluster_of new ≡ cluster_of old
