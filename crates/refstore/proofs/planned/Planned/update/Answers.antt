use Rattle.std.proofs.Common.{ap, ◌∙◌, List, ℕ}
use Rattle.std.specs.Option.{is_some}
use Rattle.px_base.specs.RefList.{ref_at}
use Rattle.refstore.proofs.Overlaid.{IsRefMap-overlaid, counted_is, one_at_most, update_is}
use Rattle.refstore.proofs.planned.Planned.update.Goals as goal

pub invariant_of-self-2 : goal.invariant_of-self-2
invariant_of-self-2 c =
    let refs = c.self.inside.refs.now in
    let kept = c.self.invariant.0 in (
      kept,
      c.in_ok-set.ensures.map,
      IsRefMap-overlaid refs c.set.new.self kept c.in_ok-set.ensures.map,
      counted_is refs c.self.inside.changes c.set.new.self c.args.self.now c.args.update.now kept.ordered
          c.self.invariant.1.ordered c.self.view_is c.in_ok-set.ensures.ok c.self.inside.count
          c.counted-self-inside.result c.contains-had.result c.is_zero-has.result c.self.invariant.3
          (c.contains-had.ensures.value
          ∙ ap (λ (n : List ℕ). is_some (ref_at c.args.self.now n)) c.bytes.ensures.value)
          c.is_zero-has.ensures c.counted-self-inside.ensures,
    )

pub returns-clause-ok : goal.returns-clause-ok
returns-clause-ok c =
    update_is c.self.inside.refs.now c.self.inside.changes c.set.new.self c.args.self.now
    c.args.update.now c.self.invariant.0.ordered c.self.invariant.1.ordered c.self.view_is
    c.in_ok-set.ensures.ok

pub returns-clause-few : goal.returns-clause-few
returns-clause-few c =
    one_at_most c.self.inside.refs.now c.self.inside.changes c.set.new.self c.args.self.now
    c.args.update.now c.self.invariant.0.ordered c.self.invariant.1.ordered c.self.view_is
    c.in_ok-set.ensures.ok
