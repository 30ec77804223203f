use Rattle.std.proofs.Common.{◌≡◌, Ok, Some, rules, true, subst}
use Rattle.issued.specs.Draws.{ledger_of}
use Rattle.issued.specs.Issued.{worked_of}
use Rattle.px_cluster.specs.Events as cluster
use Rattle.px_cluster.specs.Ledger.{is_delete_of}
use Rattle.px_core.specs.Readers.{path_on}
use Rattle.script_rules.specs.declared.answer.Answer.TheVariants.{Done}
use Rattle.px_world.specs.Tries.{Happens}
use Rattle.px_world.specs.World.{Kept}
use Rattle.px_world.proofs.JobCalls.{remove_done}
use Rattle.px_world.proofs.world.World.remove_for.Goals as goal

pub returns-in-Ok : goal.returns-in-Ok
returns-in-Ok c =
    let inside = c.self.inside in
    let repo = c.in-Some.repo.0 in
    let target = c.in-Some.target.0 in
    let lease = c.args.lease in
    let job = c.args.job.0 in
    let path = c.in-Some-path_on.path.now in
    let there : path_on inside.core repo target ≡ Some path =
    search (rules, c.path_on.ensures.path, c.in-Some-path_on.is) in
    let worked : worked_of inside.issued.works job
    ≡ Some (record { repo = repo; number = target }) = search (rules, c.in-Some.ensures) in
    let issued : is_delete_of job (ledger_of inside.issued.draws repo target lease) ≡ true =
    search (rules, c.is_delete_of.ensures, c.if-not-is_delete_of.false) in
    let new : Kept = record { core = inside.core; nodes = c.remove.new.self; issued = c.answers.new.self } in
    subst (λ (old : Kept). Happens old (cluster.Remove job lease) (Ok Done) new) c.self.view_is
    (remove_done inside.core inside.nodes c.remove.new.self inside.issued c.answers.new.self job
    repo target lease path there worked issued c.answers.ensures c.in-Ok.ensures)
