use Rattle.std.proofs.Common.{arith}
use Rattle.std.proofs.lemmas.Grind.{common_steps}
use Rattle.std.proofs.lemmas.List.Edits.{map_over_more}
use Rattle.txmanager.specs.Rounds.{without}
use Rattle.txmanager.proofs.carry.take_out_of_each.Goals as goal

pub loop-next-preserved : goal.loop-next-preserved
loop-next-preserved c = grind (arith, common_steps, map_over_more (without c.args.voter), c.take_out.ensures)
