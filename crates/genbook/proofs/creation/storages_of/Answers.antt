use Rattle.std.proofs.Common.{arith}
use Rattle.px_cluster.specs.Book.{is_of}
use Rattle.genbook.specs.Changes.{numbers_of}
use Rattle.genbook.proofs.Places.{one_more}
use Rattle.genbook.proofs.creation.storages_of.Goals as goal

pub loop-number-preserved : goal.loop-number-preserved
loop-number-preserved c = (
  one_more (is_of c.args.virt.now) (numbers_of c.loop-number.found) _ _ c.loop-number.number c.index-storages-number.result c.args.storages.now
      (omega arith) c.loop-number.invariant.0 c.index-storages-number.is c.in_ok-add_storage.ensures.found,
  omega (arith, c.loop-number.invariant.1, c.add_storage.ensures.few),
)
