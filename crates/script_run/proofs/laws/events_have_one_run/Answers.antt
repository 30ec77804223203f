use Rattle.script_run.proofs.Runs.{one_run}
use Rattle.script_run.proofs.laws.events_have_one_run.Goals as goal

pub returns : goal.returns
returns g c = one_run g.M.StateMachine.machine g.met.M.StateMachine.one_answer
