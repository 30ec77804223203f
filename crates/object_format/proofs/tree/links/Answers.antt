use Rattle.std.proofs.Common.{◌++◌, ◌∙◌, [], ap, sym, Option}
use Rattle.std.specs.List.{cons_option}
use Rattle.std.proofs.lemmas.List.{append-nil}
use Rattle.px_base.specs.declared.hash.Hash.{Hash}
use Rattle.object_format.proofs.Contents.{links_more}
use Rattle.object_format.proofs.Loops.{finds_left, has_byte, has_none, ids_end, ids_more, ids_stop}
use Rattle.object_format.proofs.tree.links.Goals as goal

pub returns-in_err-link : goal.returns-in_err-link
returns-in_err-link c =
    let rest = c.loop-rest.rest.now in
    finds_left c.from_residual.result c.in_err-link.field-0.0 _ c.from_residual.ensures.1 (ids_stop c.loop-rest.ids rest c.in_err-link.field-0.0 _ (has_byte rest c.loop-rest-test.ensures) c.in_err-link.ensures c.loop-rest.invariant)

pub loop-rest-smaller-in_ok-push : goal.loop-rest-smaller-in_ok-push
loop-rest-smaller-in_ok-push c = (links_more c.loop-rest.rest.now c.in_ok-link.link c.in_ok-link.more.now c.in_ok-link.ensures).1

pub loop-rest-preserved-in_ok-push : goal.loop-rest-preserved-in_ok-push
loop-rest-preserved-in_ok-push c =
    let front = c.loop-rest.ids in
    let more = c.in_ok-push.ensures.ok ∙ ap (λ (link : Option Hash). front ++ cons_option link []) (sym c.in-Some.is) in
    ids_more front c.push.new.self c.loop-rest.rest.now c.in_ok-link.link c.in_ok-link.more.now _ c.in_ok-link.ensures more c.loop-rest.invariant

pub loop-rest-smaller : goal.loop-rest-smaller
loop-rest-smaller c = (links_more c.loop-rest.rest.now c.in_ok-link.link c.in_ok-link.more.now c.in_ok-link.ensures).1

pub loop-rest-preserved : goal.loop-rest-preserved
loop-rest-preserved c =
    let front = c.loop-rest.ids in
    let same = sym (append-nil front) ∙ ap (λ (link : Option Hash). front ++ cons_option link []) (sym c.in_default.is) in
    ids_more front front c.loop-rest.rest.now c.in_ok-link.link c.in_ok-link.more.now _ c.in_ok-link.ensures same c.loop-rest.invariant

pub returns : goal.returns
returns c = ids_end c.loop-rest.ids c.loop-rest.rest.now _ (has_none c.loop-rest.rest.now c.loop-rest-test.ensures) c.loop-rest.invariant
