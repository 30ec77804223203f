use Rattle.std.proofs.Common.{arith}
use Rattle.std.proofs.lemmas.List.Edits.{map_over_more}
use Rattle.std.proofs.lemmas.Grind.{common_steps}
use Rattle.voters.specs.Tallies.{lowered}
use Rattle.voters.proofs.tally.lower.Goals as goal

pub loop-tally-preserved : goal.loop-tally-preserved
loop-tally-preserved c =
    grind (arith, common_steps, map_over_more (lowered c.args.hash.now c.args.by), c.lower_one.ensures)
