-- In each state an event has one answer and leads to one state; so a list of events has one run.
use Rattle.std.specs.Prelude.{◌≡◌, List}
use Rattle.px_cluster.specs.Cluster.{Cluster}
use Rattle.px_cluster.specs.Events.{Answer, Event}
use Rattle.px_cluster.specs.Step.{Runs, Step}

abbrev pub StepIsOne : Type 0
StepIsOne = (old new then_ : Cluster) (happened : Event) (answer other : Answer)
    → Step old happened answer new → Step old happened other then_
    → (answer ≡ other) × (new ≡ then_)

abbrev pub RunIsOne : Type 0
RunIsOne = (old new then_ : Cluster) (events : List Event) (answers others : List Answer)
    → Runs old events answers new → Runs old events others then_
    → (answers ≡ others) × (new ≡ then_)
