-- How many bytes are left gives the place.
use Rattle.std.proofs.Common.{◌≡◌, ℕ, ap, sym, length, List, Some, None, Result, Ok, Err}
use Rattle.std.specs.Result.{result_err}
use Rattle.px_base.specs.declared.hash.Hash.{Hash}
use Rattle.object_format.specs.Links.{bad_byte, links_at, place_of}
use Rattle.object_format.proofs.Contents.{left_within}
use Rattle.object_format.proofs.kinds.check.Goals as goal

-- where a reading is told to be refused, it is, and else it gives something
refused : (read : Result (List Hash) ℕ) (left : ℕ) → Some left ≡ result_err read → read ≡ Err left
refused (Ok ids) left is = absurd cc
refused (Err other) left is = let same : other ≡ left = cc in ap (λ (n : ℕ). let r : Result (List Hash) ℕ = Err n in r) same

found : (size : ℕ) (read : Result (List Hash) ℕ) → None ≡ result_err read → None ≡ place_of size read
found size (Ok ids) is = is
found size (Err left) is = absurd cc

pub overflow_sub-result : goal.overflow_sub-result
overflow_sub-result c = left_within c.args.kind c.args.content.now c.in-Some.left (refused (links_at c.args.kind c.args.content.now) c.in-Some.left c.in-Some.ensures)

pub returns-in-Some : goal.returns-in-Some
unfolding bad_byte
returns-in-Some c =
    let content = c.args.content.now in
    sym (ap (place_of (length content)) (refused (links_at c.args.kind content) c.in-Some.left c.in-Some.ensures))

pub returns-in-None : goal.returns-in-None
unfolding bad_byte
returns-in-None c = found (length c.args.content.now) (links_at c.args.kind c.args.content.now) c.in-None.ensures
