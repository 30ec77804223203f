-- A byte that is not the one that is wanted is bad, and so is the end.
use Rattle.std.proofs.Common.{arith, ◌≡◌, ◌<◌, ◌==◌, ◌-◌, ◌∙◌, sym, length, get_or, drop, Err}
use Rattle.std.proofs.lemmas.Bool.{false_from_ne_true, eqb-true, ltb-false, ltb-true}
use Rattle.std.proofs.lemmas.List.{get_or_read}
use Rattle.object_format.specs.Reading.{byte_at}
use Rattle.object_format.proofs.Turns.{byte_none, byte_wrong, text_ends, text_more, text_stops}
use Rattle.object_format.proofs.form.text.Goals as goal
use Rattle.object_format.proofs.form.text.Goals.{in_default-via-in-Some+else-byte-wanted, in_default-via-in_default}

pub returns-in_default : goal.returns-in_default
returns-in_default c =
    let i = c.loop-place.place in
    let text = c.args.text.now in
    let bytes = c.args.bytes.now in
    let wanted = get_or text i 0 in
    let stops : byte_at (λ b. b == wanted) (drop i bytes) ≡ Err (length bytes - i) = elim c.in_default.branch [
      | in_default-via-in-Some+else-byte-wanted w ↦
          let lt : i < length bytes = ltb-true _ _ (sym w.in-Some.ensures.lookup.0) in
          let byte = get_or_read bytes i w.in-Some.byte.now lt w.in-Some.ensures.lookup.1 0 in
          byte_wrong (λ b. b == wanted) bytes i lt (false_from_ne_true (get_or bytes i 0 == wanted) (λ t. w.if-byte-wanted.false (byte ∙ eqb-true (get_or bytes i 0) wanted t)))
      | in_default-via-in_default w ↦ byte_none (λ b. b == wanted) bytes i (ltb-false _ _ (sym w.in_default.ensures.lookup.0))
    ] in
    sym c.loop-place.invariant.1 ∙ text_stops text bytes i c.loop-place-test.true stops

pub loop-place-preserved : goal.loop-place-preserved
loop-place-preserved c =
    let i = c.loop-place.place in
    let bytes = c.args.bytes.now in
    let lt : i < length bytes = ltb-true _ _ (sym c.in-Some.ensures.lookup.0) in
    let byte = get_or_read bytes i c.in-Some.byte.now lt c.in-Some.ensures.lookup.1 0 in
    (omega arith, sym (text_more c.args.text.now bytes i c.loop-place-test.true lt (sym byte ∙ c.if-byte-wanted.true)) ∙ c.loop-place.invariant.1)

pub returns : goal.returns
returns c = sym c.loop-place.invariant.1 ∙ text_ends c.args.text.now c.args.bytes.now c.loop-place.place (omega arith)
