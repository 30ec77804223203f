use Rattle.std.proofs.Common.{◌≡◌, Some, rules}
use Rattle.px_core.specs.Readers.{storage_of}
use Rattle.px_world.proofs.AtNames.{storage_within}
use Rattle.px_world.proofs.world.World.fence.Goals as goal

pub fence_at-requires : goal.fence_at-requires
fence_at-requires c =
    let found : storage_of c.args.self.now.core c.args.name.now ≡ Some c.in-Some.storage.0 =
    search rules in
    storage_within c.args.self.now.core c.args.name.now c.in-Some.storage.0 found
