use Rattle.std.proofs.Common.{◌+◌, ◌≤◌, List, subst}
use Rattle.std.specs.BTreeSet.{IsKeyRangeOf}
use Rattle.std.specs.Option.{IfNone, IfSome}
use Rattle.std.specs.declared.ops.Bound.TheVariants.{Excluded, Unbounded}
use Rattle.replqueue.specs.Marks.{NoneBetween, NoneFrom, mark_cmp, mark_of}
use Rattle.replqueue.specs.declared.mark.Mark.{Mark}
use Rattle.replqueue.proofs.MarkLists.{after_number, next_none, next_some, none_next}
use Rattle.replqueue.proofs.marks.Marks.after.Goals as goal

pub returns-in-Some-clause-some : goal.returns-in-Some-clause-some
returns-in-Some-clause-some c =
    subst (λ (marks : List Mark). IfSome c.on_line.result (λ next. ((c.args.number + 1) ≤ next)
    × NoneBetween marks c.args.line (c.args.number + 1) next)) c.self.view_is
    (rw c.on_line.ensures (next_some c.self.inside.marks c.args.line (c.args.number + 1)
    (Excluded (mark_of c.args.line c.args.number)) (after_number c.args.line c.args.number)
    c.in-Some.mark.now c.next.new.self
    (subst (IsKeyRangeOf mark_cmp (Excluded (mark_of c.args.line c.args.number)) Unbounded
    c.self.inside.marks) c.in-Some.ensures.steps (c.range.ensures.in_range tt))))

pub returns-in-Some-clause-none : goal.returns-in-Some-clause-none
returns-in-Some-clause-none c =
    subst (λ (marks : List Mark). IfNone c.on_line.result
    (NoneFrom marks c.args.line (c.args.number + 1))) c.self.view_is
    (rw c.on_line.ensures (next_none c.self.inside.marks c.args.line (c.args.number + 1)
    (Excluded (mark_of c.args.line c.args.number)) (after_number c.args.line c.args.number)
    c.in-Some.mark.now c.next.new.self
    (subst (IsKeyRangeOf mark_cmp (Excluded (mark_of c.args.line c.args.number)) Unbounded
    c.self.inside.marks) c.in-Some.ensures.steps (c.range.ensures.in_range tt))))

pub returns-in-None-clause-none : goal.returns-in-None-clause-none
returns-in-None-clause-none c =
    subst (λ (marks : List Mark). NoneFrom marks c.args.line (c.args.number + 1)) c.self.view_is
    (none_next c.self.inside.marks c.args.line (c.args.number + 1)
    (Excluded (mark_of c.args.line c.args.number)) (after_number c.args.line c.args.number)
    (subst (IsKeyRangeOf mark_cmp (Excluded (mark_of c.args.line c.args.number)) Unbounded
    c.self.inside.marks) c.in-None.ensures.steps.0 (c.range.ensures.in_range tt)))
