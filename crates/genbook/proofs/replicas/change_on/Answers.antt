use Rattle.std.proofs.Common.{arith}
use Rattle.std.proofs.lemmas.List.Edits.{map_over_more}
use Rattle.std.proofs.lemmas.Grind.{common_steps}
use Rattle.genbook.specs.Changes.{changed_on}
use Rattle.genbook.proofs.replicas.change_on.Goals as goal

pub loop-replica-preserved : goal.loop-replica-preserved
loop-replica-preserved c =
    grind (arith, common_steps, map_over_more (changed_on c.args.storage.0 c.args.change.now), c.changed_on.ensures)
