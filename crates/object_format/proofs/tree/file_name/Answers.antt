-- A NUL ends the name where one byte stands before it.
use Rattle.std.proofs.Common.{arith, ◌≡◌, ◌==◌, ◌∙◌, ap, sym, get_or, not, true}
use Rattle.std.proofs.lemmas.Bool.{and_from, and_parts, eq-eqb, eqb-true, false_from_ne_true, lt-ltb, ltb-true}
use Rattle.object_format.specs.TreeReading.{in_file_name}
use Rattle.object_format.proofs.Turns.{until_ends, until_more, until_none, until_stops}
use Rattle.object_format.proofs.tree.file_name.Goals as goal

pub loop-place-preserved : goal.loop-place-preserved
loop-place-preserved c =
    let i = c.loop-place.place in
    let bytes = c.args.bytes.now in
    let goes : in_file_name i (get_or bytes i 0) ≡ true = ap not (false_from_ne_true (get_or bytes i 0 == 0) (λ t. c.if-byte-ne0.true (eqb-true (get_or bytes i 0) 0 t))) in
    sym (until_more in_file_name 0 bytes i c.loop-place-test.true goes) ∙ c.loop-place.invariant

pub returns-then-place-gt0 : goal.returns-then-place-gt0
returns-then-place-gt0 c =
    let i = c.loop-place.place in
    let bytes = c.args.bytes.now in
    let nul = eq-eqb (get_or bytes i 0) 0 c.if-byte-ne0.false in
    sym c.loop-place.invariant ∙ until_ends in_file_name 0 bytes i c.loop-place-test.true (ap not nul) (and_from _ _ nul (lt-ltb 0 i c.if-place-gt0.true))

pub returns-in-loop-place : goal.returns-in-loop-place
returns-in-loop-place c =
    let i = c.loop-place.place in
    let bytes = c.args.bytes.now in
    let nul = eq-eqb (get_or bytes i 0) 0 c.if-byte-ne0.false in
    sym c.loop-place.invariant
    ∙ until_stops in_file_name 0 bytes i c.loop-place-test.true (ap not nul) (false_from_ne_true _ (λ t. let later = ltb-true 0 i (and_parts _ _ t).1 in absurd (omega arith)))

pub returns : goal.returns
returns c = sym c.loop-place.invariant ∙ until_none in_file_name 0 c.args.bytes.now c.loop-place.place c.loop-place-test.false
