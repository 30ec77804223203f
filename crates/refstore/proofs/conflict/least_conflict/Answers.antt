use Rattle.refstore.proofs.Conflicts.{told_above, told_none, told_under}
use Rattle.refstore.proofs.conflict.least_conflict.Goals as goal

pub returns-in-Some : goal.returns-in-Some
returns-in-Some c =
    told_above c.args.map.now c.args.name.now c.requires.ordered c.in_ok-above.field-0 c.in-Some.above
    c.in_ok-above.ensures c.in-Some.is

pub returns-in-None : goal.returns-in-None
returns-in-None c =
    told_under c.args.map.now c.args.name.now c.requires.ordered
    (told_none c.args.map.now c.args.name.now c.requires.ordered c.in_ok-above.field-0
    c.in_ok-above.ensures c.in-None.is)
    c.least_under.result c.least_under.ensures
