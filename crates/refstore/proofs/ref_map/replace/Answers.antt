use Rattle.std.proofs.Common.{refl, subst}
use Rattle.std.specs.Option.{IsSome}
use Rattle.refstore.proofs.Stages.{not_replaced, replaced}
use Rattle.refstore.proofs.ref_map.replace.Goals as goal

pub returns-in-Some : goal.returns-in-Some
returns-in-Some c =
    let there = subst IsSome c.in-Some.ensures.value refl in
    let wrote = c.get_mut.follows.holds c.args.id in
    replaced c.args.map.now.entries _ c.args.name.now c.args.id c.get_mut.ensures.ordered there
    (wrote.3 there).0 wrote.4

pub returns-in_default : goal.returns-in_default
returns-in_default c =
    rw c.get_mut.follows.holds-at-none
    (not_replaced c.args.map.now.entries c.args.name.now c.args.id c.in_default.ensures.value)
