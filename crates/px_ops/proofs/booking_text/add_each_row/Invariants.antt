-- The items so far stand behind the text.
use Rattle.std.proofs.Common.{◌≡◌, ◌++◌, take}
use Rattle.px_ops.specs.BookingTexts.{each_after_space, row_text}
use Rattle.px_ops.proofs.booking_text.add_each_row.Given as goal

abbrev pub invariant-loop-row : goal.invariant-loop-row
invariant-loop-row l =
    l.text ≡ l.initial.text ++ each_after_space row_text (take l.row-index l.rows)
