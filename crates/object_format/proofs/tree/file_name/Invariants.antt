-- The bytes of the name so far stand before what is still read.
use Rattle.std.proofs.Common.{◌≡◌, drop, take}
use Rattle.object_format.specs.TreeReading.{file_name_at, in_file_name, until_at}
use Rattle.object_format.proofs.Turns.{with_front}
use Rattle.object_format.proofs.tree.file_name.Given as goal

abbrev pub invariant-loop-place : goal.invariant-loop-place
invariant-loop-place l = with_front (take l.place l.bytes) (until_at in_file_name 0 l.place (drop l.place l.bytes)) ≡ file_name_at l.bytes
