use Rattle.std.proofs.Common.{◌≡◌, ◌∙◌, Some, rules, subst, sym}
use Rattle.nodes.specs.State.{state_of}
use Rattle.px_cluster.specs.Core.{push_of}
use Rattle.px_core.specs.Readers.{member_of}
use Rattle.px_world.specs.Asked.{issues_to}
use Rattle.px_world.specs.World.{Kept, cluster_of, world}
use Rattle.px_world.proofs.Issuing.{commit_told}
use Rattle.px_world.proofs.world.World.issue_commit.Goals as goal

pub returns : goal.returns
returns c =
    let inside = c.self.inside in
    let nodes = state_of inside.nodes in
    let push = c.in-Some.push.now in
    let hash = c.args.verdict.now.hash in
    let there : Some push ≡ push_of inside.core c.args.tx = search rules in
    let member : Some c.in-Some-member.storage.0
    ≡ member_of inside.core c.args.tx c.args.voter.now = search rules in
    subst (λ (old : Kept). world inside.core nodes c.commits.new.self
    ≡ issues_to (cluster_of old) (push_of old.core c.args.tx)
    (member_of old.core c.args.tx c.args.voter.now) hash) c.self.view_is
    (commit_told inside.core nodes inside.issued c.commits.new.self push c.repo.result.0
    c.in-Some-member.storage.0 c.lease.result hash c.commits.ensures (sym c.repo.ensures)
    (sym c.lease.ensures)
    ∙ λ i. issues_to (world inside.core nodes inside.issued) (there i) (member i) hash)
