use Rattle.std.proofs.Common.{sym, ◌∙◌, subst}
use Rattle.refstore.specs.Conflicts.{IsLeastUnder}
use Rattle.refstore.proofs.Conflicts.{least_under, none_under, none_under_first, tested}
use Rattle.refstore.proofs.conflict.least_under.Goals as goal

pub returns-in_default : goal.returns-in_default
returns-in_default c =
    none_under c.args.map.now c.args.name.now c.in_ok-front.front c.in_ok-front.ensures
    c.in_default.ensures

pub returns-then-not-starts_with : goal.returns-then-not-starts_with
returns-then-not-starts_with c =
    none_under_first c.args.map.now c.args.name.now c.in_ok-front.front c.in_ok-front.ensures
    c.in-Some.found.now c.in-Some.ensures
    (tested c.as_slice.result.now c.as_slice-2.result.now c.in-Some.found.now c.args.name.now
    c.starts_with.result _ c.starts_with.ensures.value c.as_slice.ensures
    (c.as_slice-2.ensures ∙ c.in_ok-front.ensures) c.if-not-starts_with.true)

pub returns : goal.returns
returns c =
    subst (IsLeastUnder c.args.map.now c.args.name.now) (sym (c.of.ensures ∙ c.in_ok-copy.ensures))
    (least_under c.args.map.now c.args.name.now c.in_ok-front.front c.in_ok-front.ensures
    c.in-Some.found.now c.in-Some.ensures
    (tested c.as_slice.result.now c.as_slice-2.result.now c.in-Some.found.now c.args.name.now
    c.starts_with.result _ c.starts_with.ensures.value c.as_slice.ensures
    (c.as_slice-2.ensures ∙ c.in_ok-front.ensures) c.if-not-starts_with.false))
