use Rattle.std.proofs.Common.{arith}
use Rattle.std.proofs.lemmas.List.Edits.{map_over_more}
use Rattle.std.proofs.lemmas.Grind.{common_steps}
use Rattle.px_cluster.specs.Creating.{assigned_under}
use Rattle.genbook.specs.Changes.{numbers_of}
use Rattle.genbook.proofs.replicas.assign_under.Goals as goal

pub loop-replica-preserved : goal.loop-replica-preserved
loop-replica-preserved c =
    grind (arith, common_steps, map_over_more (assigned_under (numbers_of c.args.storages.now) c.args.lease), c.assigned_under.ensures)
