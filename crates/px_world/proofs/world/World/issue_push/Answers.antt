use Rattle.std.proofs.Common.{◌≡◌, ◌∙◌, Some, ap, rules, subst, sym}
use Rattle.nodes.specs.State.{state_of}
use Rattle.genbook.specs.Changes.{numbers_of}
use Rattle.px_cluster.specs.Core.{push_of}
use Rattle.px_world.specs.Asked.{begins_in}
use Rattle.px_world.specs.World.{Kept, cluster_of, world}
use Rattle.px_world.proofs.Issuing.{push_begun}
use Rattle.px_world.proofs.world.World.issue_push.Goals as goal

pub returns-in-Some : goal.returns-in-Some
returns-in-Some c =
    let inside = c.self.inside in
    let nodes = state_of inside.nodes in
    let push = c.in-Some.push.now in
    let there : Some push ≡ push_of inside.core c.args.tx = search rules in
    subst (λ (old : Kept). world inside.core nodes c.begins.new.self
    ≡ begins_in (cluster_of old) (push_of old.core c.args.tx)) c.self.view_is
    (push_begun inside.core nodes inside.issued c.begins.new.self push c.tx.result c.repo.result.0
    (numbers_of c.members.result.now) c.lease.result c.begun.result.0 c.begins.ensures
    (sym c.tx.ensures) (sym c.repo.ensures) (sym c.members.ensures) (sym c.lease.ensures)
    (sym c.begun.ensures)
    ∙ ap (begins_in (world inside.core nodes inside.issued)) there)
