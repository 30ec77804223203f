use Rattle.std.proofs.Common.{rules, ap, ◌∙◌}
use Rattle.std.specs.Map.{values_of}
use Rattle.turns.proofs.Changes.{kept_ended}
use Rattle.turns.proofs.Pushes.{ended_is}
use Rattle.turns.proofs.turns.Turns.end.Goals as goal

pub invariant_of-self : goal.invariant_of-self
invariant_of-self c =
    kept_ended c.args.tx.0 c.self.inside.pushes.entries c.remove.new.self.entries c.self.inside.holders.entries c.remove-in-Some.new.self.entries c.in-Some.push
    c.self.invariant (search rules) c.remove.ensures.entries c.remove.ensures.ordered (rw (← c.repo.ensures) c.remove-in-Some.ensures.updates.0)

pub returns-in-Some : goal.returns-in-Some
returns-in-Some c =
    rw (← c.self.view_is) (ap values_of c.remove.ensures.entries ∙ ended_is c.args.tx.0 c.self.inside.pushes.entries c.self.invariant.numbers c.self.invariant.ascend)

pub returns-in_default : goal.returns-in_default
returns-in_default c =
    rw (← c.self.view_is) (ap values_of c.remove.ensures.entries ∙ ended_is c.args.tx.0 c.self.inside.pushes.entries c.self.invariant.numbers c.self.invariant.ascend)
