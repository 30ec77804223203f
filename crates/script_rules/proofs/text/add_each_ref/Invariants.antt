-- The references so far stand behind the text.
use Rattle.std.proofs.Common.{◌≡◌, ◌++◌, take}
use Rattle.px_ops.specs.BookingTexts.{each_after_space}
use Rattle.script_rules.specs.Texts.{ref_text}
use Rattle.script_rules.proofs.text.add_each_ref.Given as goal

abbrev pub invariant-loop-reference : goal.invariant-loop-reference
invariant-loop-reference l =
    l.text ≡ l.initial.text ++ each_after_space ref_text (take l.reference-index l.refs)
