use Rattle.std.proofs.Common.{None, List, ℕ, subst}
use Rattle.refstore.proofs.RefMaps.{IsRefMap-takes, Takes}
use Rattle.refstore.proofs.ref_map.RefMap.remove.Goals as goal

pub invariant_of-self : goal.invariant_of-self
invariant_of-self c =
    IsRefMap-takes c.self.inside.map.entries c.remove.new.self.entries c.args.name.now None
    (subst (λ (n : List ℕ). Takes c.self.inside.map.entries c.remove.new.self.entries n None) c.bytes.ensures.value c.remove.ensures.updates.0)
    c.self.invariant c.bytes.ensures.name c.remove.ensures.ordered
