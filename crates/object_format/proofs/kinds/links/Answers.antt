-- What was read is what is linked, and how many bytes are left gives the place.
use Rattle.std.proofs.Common.{◌-◌, ap, sym, length, refl, inr, [], List, Result, ℕ}
use Rattle.std.specs.Result.{result_unwrap_or}
use Rattle.px_base.specs.declared.hash.Hash.{Hash}
use Rattle.object_format.specs.Links.{bad_byte, links_at, links_of, place_of}
use Rattle.object_format.proofs.Contents.{left_within}
use Rattle.object_format.proofs.Loops.{left_found}
use Rattle.object_format.proofs.kinds.links.Goals as goal

pub overflow_sub-result : goal.overflow_sub-result
overflow_sub-result c =
    let arm = c.in-Err-Left in
    left_within c.args.kind c.args.content.now arm.left (left_found arm.field-0 arm.left (links_at c.args.kind c.args.content.now) arm.field-0-is arm.ensures)

pub returns-in-Ok-clause-ok : goal.returns-in-Ok-clause-ok
unfolding bad_byte links_of
returns-in-Ok-clause-ok c =
    (ap (place_of (length c.args.content.now)) c.in-Ok.ensures, sym (ap (λ (r : Result (List Hash) ℕ). result_unwrap_or r []) c.in-Ok.ensures))

pub returns-in-Err-Left-clause-err : goal.returns-in-Err-Left-clause-err
unfolding bad_byte
returns-in-Err-Left-clause-err c =
    let arm = c.in-Err-Left in
    let content = c.args.content.now in
    inr (length content - arm.left, refl, ap (place_of (length content)) (left_found arm.field-0 arm.left (links_at c.args.kind content) arm.field-0-is arm.ensures))
