use Rattle.std.proofs.Common.{List, subst}
use Rattle.replqueue.specs.Marks.{KeepsAll, mark_of}
use Rattle.replqueue.specs.declared.mark.Mark.{Mark}
use Rattle.replqueue.proofs.MarkLists.{marked_keeps}
use Rattle.replqueue.proofs.marks.Marks.mark.Goals as goal

pub returns-clause-others : goal.returns-clause-others
returns-clause-others c =
    subst (λ (old : List Mark). KeepsAll old c.insert.new.self.keys) c.self.view_is
    (marked_keeps (mark_of c.args.line c.args.number) c.self.inside.marks.keys
    c.insert.new.self.keys c.in_ok-insert.ensures.updates.0)
