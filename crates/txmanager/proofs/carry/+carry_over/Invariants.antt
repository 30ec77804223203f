use Rattle.std.proofs.Common.{length}
use Rattle.txmanager.proofs.carry.+carry_over.Given as goal

abbrev pub decreases-carry_over : goal.decreases-carry_over
decreases-carry_over l = length l.subs.now
