-- No more was filled than there is room.
use Rattle.std.proofs.Common.{◌≤◌, ◌-◌, length}
use Rattle.plumbing.proofs.objects.fill.Given as goal

abbrev pub invariant-loop-filled : goal.invariant-loop-filled
invariant-loop-filled g l = l.filled ≤ length l.buffer

abbrev pub decreases-loop-filled : goal.decreases-loop-filled
decreases-loop-filled g l = length l.buffer - l.filled
