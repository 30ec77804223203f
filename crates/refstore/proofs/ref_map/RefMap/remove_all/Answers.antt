use Rattle.std.proofs.Common.{refl, List, subst, sym}
use Rattle.px_base.specs.RefList.{IsRefList, References}
use Rattle.px_base.specs.declared.push.Update.{Update}
use Rattle.refstore.specs.RefMap.{IsRefMap}
use Rattle.refstore.specs.Stages.{removals_of}
use Rattle.refstore.specs.Updates.{after}
use Rattle.refstore.proofs.RefLists.{IsRefList-fits}
use Rattle.refstore.proofs.Stages.{all_done, both_stages, one_more}
use Rattle.refstore.proofs.ref_map.RefMap.remove_all.Goals as goal

pub loop-update-preserved : goal.loop-update-preserved
loop-update-preserved c =
    one_more (λ (r : References) (us : List Update). after r (removals_of us)) c.loop-update.self
    c.remove_one.new.self _ c.args.updates.now c.loop-update.update-index c.update-item.result
    c.loop-update-test.true c.update-item.is c.remove_one.ensures c.loop-update.invariant

pub returns : goal.returns
returns c = λ refs list fits first.
    let is = both_stages refs c.args.self.now c.loop-update.self c.args.updates.now list fits first
    (all_done (λ (r : References) (us : List Update). after r (removals_of us)) c.loop-update.self _
    c.args.updates.now c.loop-update.update-index c.loop-update-test.false (λ map. refl)
    c.loop-update.invariant) in (
      is,
      subst IsRefList (sym is) (IsRefList-fits refs c.args.updates.now list fits
          (subst IsRefMap is c.len-names.ensures.map)),
    )
