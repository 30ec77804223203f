use Rattle.std.proofs.Common.{rules}
use Rattle.px_core.specs.Parts.{core_with}
use Rattle.px_core.proofs.OpenPushes.{begun_below}
use Rattle.px_core.proofs.state.Core.end_of.Goals as goal

pub end_of-requires : goal.end_of-requires
end_of-requires c =
    let core = core_with c.self.inside.book c.self.inside.health.up c.self.inside.votes
    c.self.inside.last c.self.inside.turns c.self.inside.reads.items c.self.inside.queue in
    search (rules, begun_below core c.self.invariant.begun c.args.tx)
