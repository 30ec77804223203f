use Rattle.std.proofs.Common.{ap, sym, arith, List}
use Rattle.px_base.specs.RefList.{References}
use Rattle.px_base.specs.declared.push.Update.{Update}
use Rattle.refstore.specs.Updates.{after}
use Rattle.refstore.proofs.Stages.{one_more}
use Rattle.refstore.proofs.planned.Planned.update_all.Goals as goal

pub loop-update-preserved : goal.loop-update-preserved
loop-update-preserved c = record {
  done = one_more after c.loop-update.self c.update.new.self _ c.args.updates.now
      c.loop-update.update-index c.update-item.result c.loop-update-test.true c.update-item.is
      (λ (rest : List Update). ap (λ (r : References). after r rest) (sym c.in_ok-update.ensures.ok))
      c.loop-update.invariant.done;
  few = omega (arith, c.in_ok-update.ensures.few, c.loop-update.invariant.few);
}
