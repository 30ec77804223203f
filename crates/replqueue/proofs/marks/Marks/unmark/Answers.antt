use Rattle.std.proofs.Common.{List, subst}
use Rattle.replqueue.specs.Marks.{KeepsOthers}
use Rattle.replqueue.specs.declared.mark.Mark.{Mark}
use Rattle.replqueue.proofs.MarkLists.{unmarked_keeps}
use Rattle.replqueue.proofs.marks.Marks.unmark.Goals as goal

pub returns : goal.returns
returns c =
    subst (λ (old : List Mark). KeepsOthers c.args.number old c.remove.new.self.keys) c.self.view_is
    (unmarked_keeps c.args.line c.args.number c.self.inside.marks.keys c.remove.new.self.keys
    c.remove.ensures.updates.0)
