use Rattle.std.proofs.Common.{◌++◌, ◌∙◌, [], ◌∷◌, ap, sym, append_assoc}
use Rattle.std.proofs.lemmas.List.{append-nil}
use Rattle.object_format.specs.Reading.{parents_of}
use Rattle.object_format.proofs.Contents.{line_shrinks, parents_end, parents_more}
use Rattle.object_format.proofs.kinds.push_parents.Goals as goal

pub loop-parent-smaller : goal.loop-parent-smaller
loop-parent-smaller c = line_shrinks c.loop-parent.rest.now c.in-Ok.parent c.in-Ok.more.now c.in-Ok.ensures

pub loop-parent-preserved : goal.loop-parent-preserved
loop-parent-preserved c =
    let ids = c.loop-parent.ids in
    let more = parents_of c.in-Ok.more.now in
    ap (λ front. front ++ more) c.in_ok-push.ensures.ok ∙ append_assoc ids (c.in-Ok.parent ∷ []) more
    ∙ ap (λ tail. ids ++ tail) (sym (parents_more c.loop-parent.rest.now c.in-Ok.parent c.in-Ok.more.now c.in-Ok.ensures)) ∙ c.loop-parent.invariant

pub returns : goal.returns
returns c =
    let ids = c.loop-parent.ids in
    sym (append-nil ids) ∙ ap (λ tail. ids ++ tail) (sym (parents_end c.loop-parent.rest.now c.in_default.field-0 c.in_default.ensures)) ∙ c.loop-parent.invariant
