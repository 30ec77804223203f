use Rattle.std.proofs.Common.{◌≡◌, ◌+◌, ◌≤◌}
use Rattle.script_run.specs.Stream.{streams}
use Rattle.script_run.proofs.Progress.{Progress}
use Rattle.script_run.proofs.run.run_script.Given as goal

abbrev pub invariant-loop-last : goal.invariant-loop-last
invariant-loop-last g l = record {
  progress : Progress g.M.StateMachine.machine l.limit (g.M.StateMachine.state l.initial.machine) (g.M.StateMachine.state l.machine)
      (streams (g.S.Source.left l.initial.input) (g.S.Source.read_faults l.initial.input) (g.O.Sink.taken l.initial.out) (g.O.Sink.write_faults l.initial.out))
      (streams (g.S.Source.left l.input) (g.S.Source.read_faults l.input) (g.O.Sink.taken l.out) (g.O.Sink.write_faults l.out)) l.number l.room;
  counted : l.number + l.room ≤ l.limit;
  reads : g.S.Source.read_faults l.input ≡ g.S.Source.read_faults l.initial.input;
  writes : g.O.Sink.write_faults l.out ≡ g.O.Sink.write_faults l.initial.out;
}

abbrev pub decreases-loop-last : goal.decreases-loop-last
decreases-loop-last g l = l.room
