use Rattle.std.proofs.Common.{subst, sym}
use Rattle.px_base.specs.RefName.{IsRefName}
use Rattle.refstore.proofs.Stages.{IsRefMap-replaced, restored_is}
use Rattle.refstore.proofs.ref_map.RefMap.restore.Goals as goal

pub invariant_of-self : goal.invariant_of-self
invariant_of-self c =
    IsRefMap-replaced c.self.inside.map.entries c.replace.new.map.entries c.bytes.result.now
    c.args.update.now.old c.self.invariant
    (subst IsRefName (sym c.bytes.ensures.value) c.bytes.ensures.name) c.replace.ensures

pub returns : goal.returns
returns c =
    restored_is c.self.inside.map.entries c.replace.new.map.entries c.args.self.now c.args.update.now
    c.bytes.result.now c.is_zero.result c.is_zero.ensures c.if-is_zero.false c.self.view_is
    c.bytes.ensures.value c.replace.ensures
