-- The map takes the object under the name.
use Rattle.std.proofs.Common.{Some, ◌∙◌, subst}
use Rattle.std.proofs.Common.{List, ℕ, ◌≡◌}
use Rattle.refstore.specs.RefMap.{IsRefMap}
use Rattle.refstore.proofs.RefMaps.{IsRefMap-takes, Takes}
use Rattle.refstore.proofs.ref_map.RefMap.set.Goals as goal

-- each name is one
map : (c : goal.In_ok-insert) → IsRefMap c.insert.new.self.entries
map c =
    let same : c.in_ok-copied.copied ≡ c.args.name.now = c.in_ok-copied.ensures ∙ c.bytes.ensures.value in
    IsRefMap-takes c.self.inside.map.entries c.insert.new.self.entries c.args.name.now
    (Some c.args.id)
    (subst (λ (n : List ℕ). Takes c.self.inside.map.entries c.insert.new.self.entries n (Some c.args.id)) same c.in_ok-insert.ensures.updates.0)
    c.self.invariant c.bytes.ensures.name c.insert.ensures.ordered

pub invariant_of-self-2 : goal.invariant_of-self-2
invariant_of-self-2 c = map c

pub returns-clause-map : goal.returns-clause-map
returns-clause-map c = map c
