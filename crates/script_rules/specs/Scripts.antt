-- What a script asks and comes to, from the empty cluster.
use Rattle.std.specs.Prelude.{ℕ, List, Option}
use Rattle.px_cluster.specs.Cluster.{Cluster, empty}
use Rattle.px_script.specs.declared.event.Event.{Event}
use Rattle.script_run.specs.Machine.{events, Runs}
use Rattle.script_run.specs.Script.{AllAsk, AreLinesOf}
use Rattle.script_rules.specs.Machine.{machine}
use Rattle.script_rules.specs.declared.answer.Answer.{Answer}

-- the events are answered so, and lead from the empty cluster to this one
abbrev pub LeadsTo : List Event → List Answer → Cluster → Type 0
LeadsTo asked answers new = Runs machine empty asked answers new

-- .. and from one to another
abbrev pub LeadsOn : Cluster → List Event → List Answer → Cluster → Type 0
LeadsOn old asked answers new = Runs machine old asked answers new

-- the lines of a text ask for events, which are answered so and lead from the empty cluster to this one
pub record IsRunOf (text : List ℕ) (answers : List Answer) (new : Cluster) : Type 0 where
  pub lines : List (List ℕ)
  pub whole : AreLinesOf lines text
  pub asked : List (Option Event)
  pub lawful : AllAsk machine asked lines
  pub run : LeadsTo (events asked) answers new
