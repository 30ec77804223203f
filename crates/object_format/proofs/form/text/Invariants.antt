-- What is left of the text is read of what is left of the bytes.
use Rattle.std.proofs.Common.{◌≡◌, ◌≤◌, drop, length}
use Rattle.object_format.specs.Reading.{text_at}
use Rattle.object_format.proofs.form.text.Given as goal

abbrev pub invariant-loop-place : goal.invariant-loop-place
invariant-loop-place l =
    (l.place ≤ length l.bytes) × (text_at (drop l.place l.text) (drop l.place l.bytes) ≡ text_at l.text l.bytes)
