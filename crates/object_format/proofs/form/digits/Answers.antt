-- A byte that is no digit is bad, and so is the end.
use Rattle.std.proofs.Common.{arith, ◌≡◌, ◌<◌, ◌-◌, ◌∙◌, ap, sym, length, drop, Err}
use Rattle.std.proofs.lemmas.Bool.{ltb-false, ltb-true}
use Rattle.std.proofs.lemmas.List.{get_or_read}
use Rattle.px_base.specs.Hash.{is_hex_digit}
use Rattle.object_format.specs.Reading.{byte_at}
use Rattle.object_format.proofs.Turns.{byte_none, byte_wrong, digits_end, digits_more, digits_stop}
use Rattle.object_format.proofs.form.digits.Goals as goal
use Rattle.object_format.proofs.form.digits.Goals.{in_default-via-in-Some+else-is_hex_digit, in_default-via-in_default}

pub returns-in_default : goal.returns-in_default
returns-in_default c =
    let i = c.loop-place.place in
    let bytes = c.args.bytes.now in
    let stops : byte_at is_hex_digit (drop i bytes) ≡ Err (length bytes - i) = elim c.in_default.branch [
      | in_default-via-in-Some+else-is_hex_digit w ↦
          let lt : i < length bytes = ltb-true _ _ (sym w.in-Some.ensures.lookup.0) in
          let byte = get_or_read bytes i w.in-Some.byte.now lt w.in-Some.ensures.lookup.1 0 in
          byte_wrong is_hex_digit bytes i lt (ap is_hex_digit (sym byte) ∙ sym w.is_hex_digit.ensures ∙ w.if-is_hex_digit.false)
      | in_default-via-in_default w ↦ byte_none is_hex_digit bytes i (ltb-false _ _ (sym w.in_default.ensures.lookup.0))
    ] in
    sym c.loop-place.invariant.1 ∙ digits_stop 40 bytes i c.loop-place-test.true stops

pub loop-place-preserved : goal.loop-place-preserved
loop-place-preserved c =
    let i = c.loop-place.place in
    let bytes = c.args.bytes.now in
    let lt : i < length bytes = ltb-true _ _ (sym c.in-Some.ensures.lookup.0) in
    let byte = get_or_read bytes i c.in-Some.byte.now lt c.in-Some.ensures.lookup.1 0 in
    (omega arith, sym (digits_more 40 bytes i c.loop-place-test.true lt (ap is_hex_digit (sym byte) ∙ sym c.is_hex_digit.ensures ∙ c.if-is_hex_digit.true)) ∙ c.loop-place.invariant.1)

pub returns : goal.returns
returns c =
    sym c.loop-place.invariant.1 ∙ digits_end 40 c.args.bytes.now c.loop-place.place (omega arith)
    ∙ cc
