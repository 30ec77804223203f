use Rattle.std.proofs.Common.{◌<◌}
use Rattle.std.specs.List.{All}
use Rattle.px_cluster.specs.Core.{OpenPush}
use Rattle.tests_router.proofs.holders.many.Given as goal

abbrev pub invariant-loop-number : goal.invariant-loop-number
invariant-loop-number l = All (λ (other : OpenPush). other.tx.0 < l.number) l.turns
