use Rattle.refstore.proofs.Stages.{set_way}
use Rattle.refstore.proofs.ref_map.RefMap.set_one.Goals as goal

pub returns-clause-way : goal.returns-clause-way
returns-clause-way c = λ refs updates among way.
    set_way c.set.result c.args.self.now c.set.new.self c.args.update.now.name c.args.update.now.new
    c.set.ensures.ok c.set.ensures.err refs updates among way
