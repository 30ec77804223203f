-- The digits so far stand before what is still read.
use Rattle.std.proofs.Common.{◌≡◌, drop, take}
use Rattle.object_format.specs.TreeReading.{in_mode, mode_at, until_at}
use Rattle.object_format.proofs.Turns.{with_front}
use Rattle.object_format.proofs.tree.mode.Given as goal

abbrev pub invariant-loop-place : goal.invariant-loop-place
invariant-loop-place l = with_front (take l.place l.bytes) (until_at in_mode 32 l.place (drop l.place l.bytes)) ≡ mode_at l.bytes
