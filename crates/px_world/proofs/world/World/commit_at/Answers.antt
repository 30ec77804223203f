use Rattle.std.proofs.Common.{◌≡◌, Ok, Some, rules, subst}
use Rattle.nodes.specs.State.{state_of}
use Rattle.px_cluster.specs.Events as cluster
use Rattle.px_core.specs.Readers.{path_on}
use Rattle.script_rules.specs.declared.answer.Answer.TheVariants.{Voted}
use Rattle.px_world.specs.Tries.{Happens}
use Rattle.px_world.specs.World.{Kept}
use Rattle.px_world.proofs.Delivering.{commit_done}
use Rattle.px_world.proofs.world.World.commit_at.Goals as goal

pub returns-in-Ok : goal.returns-in-Ok
returns-in-Ok c =
    let inside = c.self.inside in
    let path = c.in-Some-path_on.path.now in
    let there : path_on inside.core c.in-Some.repo.0 c.args.storage.0 ≡ Some path =
    search (rules, c.path_on.ensures.path, c.in-Some-path_on.is) in
    let new : Kept = record { core = inside.core; nodes = c.commit.new.self; issued = c.answers.new.self } in
    subst (λ (old : Kept). Happens old (cluster.Commit c.args.tx c.args.storage.0) (Ok (Voted c.in-Ok.vote)) new)
    c.self.view_is
    (commit_done inside.core (state_of inside.nodes) (state_of c.commit.new.self) inside.issued
    c.answers.new.self c.in-Some.repo.0 c.args.storage.0 _ path there c.answers.ensures c.args.tx
    c.in-Some-verdict_of.verdict.hash c.in-Ok.vote (search (rules, c.in-Some.ensures))
    (search (rules, c.in-Some-verdict_of.ensures)) c.in-Ok.ensures)
