-- The machine that a script drives: its state is the cluster.
use Rattle.std.specs.Prelude.{◌≡◌, Result, Ok, Err}
use Rattle.px_ops.specs.declared.refusal.Refusal.{Refusal}
use Rattle.px_cluster.specs.Cluster.{Cluster}
use Rattle.px_cluster.specs.Events.{Answer as Told, Event as Happening}
use Rattle.px_cluster.specs.Events as cluster
use Rattle.px_cluster.specs.Step.{Step}
use Rattle.px_script.specs.Spelling.{Asks}
use Rattle.px_script.specs.declared.event.Event.{Event}
use Rattle.script_run.specs.Machine.{Machine as MachineOf}
use Rattle.script_rules.specs.Resolved.{resolved}
use Rattle.script_rules.specs.Texts.{text_of}
use Rattle.script_rules.specs.declared.answer.Answer.{Answer}
use Rattle.script_rules.specs.declared.answer.Answer.TheVariants.{Replied, Done, Voted, Refs, Snapshot, Last}

-- the answer, as the cluster gives it
abbrev pub told : Answer → Told
told (Replied reply) = cluster.Replied reply
told Done = cluster.Delivered
told (Voted hash) = cluster.Voted hash
told (Refs refs) = cluster.RefsAre refs
told (Snapshot refs objects) = cluster.SnapshotIs refs objects
told (Last last) = cluster.LastIs last

-- what happens is answered so, and leads from old to new; where nothing happens, the refusal is
-- answered, and nothing changes
abbrev pub Leads : Cluster → Result Happening Refusal → Told → Cluster → Type 0
Leads old (Ok happening) answer new = Step old happening answer new
Leads old (Err why) answer new = (answer ≡ cluster.refused why) × (new ≡ old)

-- an event is answered so, and leads from old to new
abbrev pub Does : Cluster → Event → Answer → Cluster → Type 0
Does old event answer new = Leads old (resolved old.core event) (told answer) new

-- the machine: its lines, its steps and its texts
abbrev pub machine : MachineOf Cluster Event Answer
machine = record { asks = Asks; does = Does; text = text_of }
