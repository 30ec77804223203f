-- The items so far stand behind the text.
use Rattle.std.proofs.Common.{◌≡◌, ◌++◌, take}
use Rattle.px_ops.specs.BookingTexts.{each_after_space}
use Rattle.px_ops.proofs.booking_text.add_each_name.Given as goal

abbrev pub invariant-loop-name : goal.invariant-loop-name
invariant-loop-name l =
    l.text ≡ l.initial.text ++ each_after_space (λ name. name) (take l.name-index l.names)
