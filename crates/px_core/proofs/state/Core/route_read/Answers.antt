use Rattle.std.proofs.Common.{◌≡◌, ℕ, List, None, ap, subst, sym}
use Rattle.px_ops.specs.declared.op.Op.TheVariants as op
use Rattle.px_cluster.specs.Core.{Core}
use Rattle.px_cluster.specs.Ops.{refusal_of}
use Rattle.px_core.specs.Parts.{core_with}
use Rattle.px_core.specs.Sound.{IsSound}
use Rattle.px_core.proofs.Kept.{kept_done}
use Rattle.px_core.proofs.state.Core.route_read.Goals as goal

pub invariant_of-self : goal.invariant_of-self
invariant_of-self c =
    let inside = c.self.inside in
    let core = core_with inside.book inside.health.up inside.votes inside.last inside.turns
    inside.reads.items inside.queue in
    let none : refusal_of core (op.RouteRead c.args.repo) ≡ None =
    subst (λ (known : Core). refusal_of known (op.RouteRead c.args.repo) ≡ None)
    (sym c.self.view_is) c.in-Ok.ensures.accepted in
    subst IsSound (ap (λ (reads : List ℕ). core_with inside.book inside.health.up inside.votes
    inside.last inside.turns reads inside.queue) (sym c.count_read.ensures))
    (kept_done core (op.RouteRead c.args.repo) none c.self.invariant)
