use Rattle.std.proofs.Common.{arith}
use Rattle.std.proofs.lemmas.List.Edits.{map_over_more}
use Rattle.std.proofs.lemmas.Grind.{common_steps}
use Rattle.genbook.specs.Changes.{assigned_among, numbers_of}
use Rattle.genbook.proofs.replicas.assign.Goals as goal

pub loop-replica-preserved : goal.loop-replica-preserved
loop-replica-preserved c =
    grind (arith, common_steps, map_over_more (assigned_among (numbers_of c.args.storages.now)), c.assigned_among.ensures)
