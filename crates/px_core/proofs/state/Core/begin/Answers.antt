use Rattle.px_core.proofs.Begins.{planned, planned_own}
use Rattle.px_core.proofs.state.Core.begin.Goals as goal

pub begin_as-requires : goal.begin_as-requires
begin_as-requires c = planned_own c.args.self.now c.args.repo.0 c.in_ok-plan.plan
    (planned c.args.self.now c.args.repo.0 c.in_ok-plan.plan c.in_ok-may_begin.ensures.accepted
    c.in_ok-plan.ensures)
