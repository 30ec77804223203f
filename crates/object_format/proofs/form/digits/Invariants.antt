-- The digits so far stand before those that are still read.
use Rattle.std.proofs.Common.{◌≡◌, ◌≤◌, ◌-◌, drop, length, take}
use Rattle.object_format.specs.Reading.{digits_at}
use Rattle.object_format.proofs.Turns.{with_front}
use Rattle.object_format.proofs.form.digits.Given as goal

abbrev pub invariant-loop-place : goal.invariant-loop-place
invariant-loop-place l =
    (l.place ≤ length l.bytes) × (with_front (take l.place l.bytes) (digits_at (40 - l.place) (drop l.place l.bytes)) ≡ digits_at 40 l.bytes)
