use Rattle.std.proofs.Common.{◌≡◌, Ok, Some, rules, true, subst}
use Rattle.issued.specs.Draws.{ledger_of}
use Rattle.px_cluster.specs.Events as cluster
use Rattle.px_cluster.specs.Ledger.{is_fence}
use Rattle.px_core.specs.Readers.{path_on}
use Rattle.script_rules.specs.declared.answer.Answer.TheVariants.{Last}
use Rattle.px_world.specs.Tries.{Happens}
use Rattle.px_world.specs.World.{Kept}
use Rattle.px_world.proofs.Fencing.{fence_done, fence_not_done}
use Rattle.px_world.proofs.world.World.fence_at.Goals as goal

pub returns-in-Ok : goal.returns-in-Ok
returns-in-Ok c =
    let inside = c.self.inside in
    let there : path_on inside.core c.args.repo.0 c.args.storage.0 ≡ Some c.in-Some.path.now =
    search (rules, c.path_on.ensures.path, c.in-Some.is) in
    let out : is_fence (ledger_of inside.issued.draws c.args.repo.0 c.args.storage.0 c.args.lease) ≡ true =
    search (rules, c.is_fence.ensures, c.if-not-is_fence.false) in
    let new : Kept = record { core = inside.core; nodes = c.fence.new.self; issued = c.answers_fence.new.self } in
    subst (λ (old : Kept). Happens old (cluster.Fence c.args.storage.0 c.args.repo.0 c.args.lease)
    (Ok (Last c.in-Ok.last)) new) c.self.view_is
    (fence_done inside.core inside.nodes c.fence.new.self inside.issued c.answers_fence.new.self
    c.args.repo.0 c.args.storage.0 c.args.lease c.in-Some.path.now there out c.in-Ok.last
    c.answers_fence.ensures c.in-Ok.ensures)

pub returns-in-Err : goal.returns-in-Err
returns-in-Err c =
    let inside = c.self.inside in
    let there : path_on inside.core c.args.repo.0 c.args.storage.0 ≡ Some c.in-Some.path.now =
    search (rules, c.path_on.ensures.path, c.in-Some.is) in
    let out : is_fence (ledger_of inside.issued.draws c.args.repo.0 c.args.storage.0 c.args.lease) ≡ true =
    search (rules, c.is_fence.ensures, c.if-not-is_fence.false) in
    let new : Kept = record { core = inside.core; nodes = c.fence.new.self; issued = inside.issued } in
    subst (λ (old : Kept). Happens old (cluster.Fence c.args.storage.0 c.args.repo.0 c.args.lease)
    c.refused_by.result new) c.self.view_is
    (fence_not_done inside.core inside.nodes c.fence.new.self inside.issued inside.issued
    c.args.repo.0 c.args.storage.0 c.args.lease c.in-Some.path.now there out c.in-Err.fault
    c.refused_by.result c.refused_by.ensures c.in-Err.ensures)
