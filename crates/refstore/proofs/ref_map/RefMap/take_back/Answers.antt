use Rattle.std.proofs.Common.{refl, ◌∙◌}
use Rattle.refstore.proofs.Stages.{all_back, all_done, all_restored}
use Rattle.refstore.proofs.ref_map.RefMap.take_back.Goals as goal

pub returns : goal.returns
returns c = λ refs list fits way.
    all_done all_restored c.loop-update.self _ c.args.updates.now c.loop-update.update-index
    c.loop-update-test.false (λ map. refl) c.loop-update.invariant
    ∙ all_back refs c.args.self.now c.args.updates.now list c.len-names.ensures.map.ordered fits way
