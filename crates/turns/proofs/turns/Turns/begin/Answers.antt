use Rattle.std.proofs.Common.{rules}
use Rattle.turns.proofs.Begins.{MayBegin, begun_is, begun_kept, same_is}
use Rattle.turns.proofs.turns.Turns.begin.Goals as goal

pub invariant_of-self : goal.invariant_of-self
invariant_of-self c = search rules

pub invariant_of-self-2 : goal.invariant_of-self-2
invariant_of-self-2 c =
    let es = c.self.inside.pushes.entries in
    let may : MayBegin es c.args.push = record { later = rw c.self.view_is c.requires.later; free = rw c.self.view_is c.requires.free } in
    begun_kept c.put.result es c.put.new.pushes.entries c.self.inside.holders.entries c.hold.new.holders.entries c.args.push
    c.self.invariant may c.in_ok-hold.ensures.ok c.put.ensures.ascend c.put.ensures.ok c.put.ensures.err

pub returns-clause-ok : goal.returns-clause-ok
returns-clause-ok c =
    let es = c.self.inside.pushes.entries in
    let may : MayBegin es c.args.push = record { later = rw c.self.view_is c.requires.later; free = rw c.self.view_is c.requires.free } in
    rw (← c.self.view_is) (begun_is c.put.result es c.put.new.pushes.entries c.self.inside.holders.entries c.args.push c.self.invariant may c.put.ensures.ok)

pub returns-clause-err : goal.returns-clause-err
returns-clause-err c =
    rw (← c.self.view_is) (same_is c.put.result c.self.inside.pushes.entries c.put.new.pushes.entries c.put.ensures.err)
