-- A space ends the mode where one to six digits stand before it.
use Rattle.std.proofs.Common.{arith, ◌≡◌, ◌==◌, ◌&&◌, ◌∙◌, sym, get_or, nat_lt, false}
use Rattle.std.proofs.lemmas.Bool.{and_from, and_parts, eq-eqb, eqb-true, false_from_ne_true, lt-ltb, ltb-true}
use Rattle.object_format.specs.TreeReading.{in_mode}
use Rattle.object_format.proofs.Turns.{until_ends, until_more, until_none, until_stops}
use Rattle.object_format.proofs.tree.mode.Goals as goal
use Rattle.object_format.proofs.tree.mode.Goals.{else-byte-eq32-via-else-byte-eq32, else-byte-eq32-via-then-byte-eq32+else-place-gt0}

pub loop-place-preserved : goal.loop-place-preserved
loop-place-preserved c =
    sym (until_more in_mode 32 c.args.bytes.now c.loop-place.place c.loop-place-test.true (sym c.is_in_mode.ensures ∙ c.if-is_in_mode.true)) ∙ c.loop-place.invariant

pub returns-then-place-gt0 : goal.returns-then-place-gt0
returns-then-place-gt0 c =
    let i = c.loop-place.place in
    let bytes = c.args.bytes.now in
    let space = eq-eqb (get_or bytes i 0) 32 c.if-byte-eq32.true in
    sym c.loop-place.invariant
    ∙ until_ends in_mode 32 bytes i c.loop-place-test.true (sym c.is_in_mode.ensures ∙ c.if-is_in_mode.false) (and_from _ _ space (lt-ltb 0 i c.if-place-gt0.true))

pub returns-in-loop-place : goal.returns-in-loop-place
returns-in-loop-place c =
    let i = c.loop-place.place in
    let bytes = c.args.bytes.now in
    let goes : ((get_or bytes i 0 == 32) && nat_lt 0 i) ≡ false = elim c.else-byte-eq32.branch [
      | else-byte-eq32-via-then-byte-eq32+else-place-gt0 w ↦ false_from_ne_true _ (λ t. let later = ltb-true 0 i (and_parts _ _ t).1 in absurd (omega arith))
      | else-byte-eq32-via-else-byte-eq32 w ↦ false_from_ne_true _ (λ t. w.if-byte-eq32.false (eqb-true _ _ (and_parts _ _ t).0))
    ] in
    sym c.loop-place.invariant ∙ until_stops in_mode 32 bytes i c.loop-place-test.true (sym c.is_in_mode.ensures ∙ c.if-is_in_mode.false) goes

pub returns : goal.returns
returns c = sym c.loop-place.invariant ∙ until_none in_mode 32 c.args.bytes.now c.loop-place.place c.loop-place-test.false
