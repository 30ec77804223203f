use Rattle.std.proofs.Common.{arith}
use Rattle.std.proofs.lemmas.Grind.{common_steps}
use Rattle.std.proofs.lemmas.List.Edits.{map_over_more}
use Rattle.voters.specs.Calls.{all_canceled}
use Rattle.txmanager.proofs.subs.cancel_each.Goals as goal

pub loop-sub-preserved : goal.loop-sub-preserved
loop-sub-preserved c = grind (arith, common_steps, map_over_more all_canceled, c.cancel_all.ensures.ok)
