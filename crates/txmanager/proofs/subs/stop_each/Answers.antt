use Rattle.std.proofs.Common.{arith}
use Rattle.std.proofs.lemmas.Grind.{common_steps}
use Rattle.std.proofs.lemmas.List.Edits.{map_over_more}
use Rattle.txmanager.specs.Rounds.{stopped}
use Rattle.txmanager.proofs.subs.stop_each.Goals as goal

pub loop-sub-preserved : goal.loop-sub-preserved
loop-sub-preserved c = grind (arith, common_steps, map_over_more stopped, c.stop_open.ensures)
