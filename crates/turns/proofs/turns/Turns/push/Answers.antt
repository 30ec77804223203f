use Rattle.std.proofs.Common.{rules}
use Rattle.turns.proofs.Pushes.{found_push}
use Rattle.turns.proofs.turns.Turns.push.Goals as goal

pub returns : goal.returns
returns c =
    let is = found_push c.args.tx.0 c.self.inside.pushes.entries c.self.invariant.numbers in
    search (rules, is, c.self.view_is)
