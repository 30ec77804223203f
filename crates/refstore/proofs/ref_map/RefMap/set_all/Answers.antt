use Rattle.refstore.proofs.Stages.{listed, one_more, way_begins}
use Rattle.std.proofs.Common.{refl, List}
use Rattle.px_base.specs.RefList.{References}
use Rattle.px_base.specs.declared.push.Update.{Update}
use Rattle.refstore.specs.Stages.{sets_of}
use Rattle.refstore.specs.Updates.{after}
use Rattle.refstore.proofs.ref_map.RefMap.set_all.Goals as goal

pub loop-update-init : goal.loop-update-init
loop-update-init c = record {
  done = refl;
  way = way_begins c.args.self.now c.args.updates.now;
  map = c.len-names.ensures.map;
}

pub loop-update-preserved : goal.loop-update-preserved
loop-update-preserved c = record {
  done = one_more (λ (r : References) (us : List Update). after r (sets_of us)) c.loop-update.self
      c.set_one.new.self _ c.args.updates.now c.loop-update.update-index c.update-item.result
      c.loop-update-test.true c.update-item.is c.in_ok-set_one.ensures.ok c.loop-update.invariant.done;
  way = c.set_one.ensures.way c.args.self.now c.args.updates.now
      (listed c.args.updates.now c.loop-update.update-index c.update-item.result
      c.loop-update-test.true c.update-item.is)
      c.loop-update.invariant.way;
  map = c.loop-update.invariant.map;
}

pub returns-in_err-set_one-clause-way : goal.returns-in_err-set_one-clause-way
returns-in_err-set_one-clause-way c = (
  c.loop-update.invariant.map,
  c.set_one.ensures.way c.args.self.now c.args.updates.now
      (listed c.args.updates.now c.loop-update.update-index c.update-item.result
      c.loop-update-test.true c.update-item.is)
      c.loop-update.invariant.way,
)
