use Rattle.std.proofs.Common.{◌≡◌, Some, rules}
use Rattle.px_core.specs.Readers.{storage_of}
use Rattle.px_world.proofs.AtNames.{storage_within}
use Rattle.px_world.proofs.world.World.prepare.Goals as goal

pub prepare_at-requires : goal.prepare_at-requires
prepare_at-requires c =
    let found : storage_of c.args.self.now.core c.args.name.now ≡ Some c.in-Some.storage.0 =
    search rules in
    storage_within c.args.self.now.core c.args.name.now c.in-Some.storage.0 found
