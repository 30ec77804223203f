use Rattle.std.proofs.Common.{◌≡◌, Ok, Some, rules, subst}
use Rattle.issued.specs.Draws.{ledger_of}
use Rattle.issued.specs.Issued.{worked_of}
use Rattle.px_cluster.specs.Events as cluster
use Rattle.px_cluster.specs.Ledger.{snapshot_in}
use Rattle.px_core.specs.Readers.{path_on}
use Rattle.script_rules.specs.declared.answer.Answer.TheVariants.{Done}
use Rattle.px_world.specs.Tries.{Happens}
use Rattle.px_world.specs.World.{Kept}
use Rattle.px_world.proofs.JobCalls.{apply_done, apply_not_done}
use Rattle.px_world.proofs.world.World.apply_for.Goals as goal

pub returns-in-Ok : goal.returns-in-Ok
returns-in-Ok c =
    let inside = c.self.inside in
    let repo = c.in-Some.repo.0 in
    let target = c.in-Some.target.0 in
    let lease = c.args.lease in
    let job = c.args.job.0 in
    let path = c.in-Some-path_on.path.now in
    let snapshot = c.in-Some-snapshot_in.snapshot.now in
    let there : path_on inside.core repo target ≡ Some path =
    search (rules, c.path_on.ensures.path, c.in-Some-path_on.is) in
    let worked : worked_of inside.issued.works job
    ≡ Some (record { repo = repo; number = target }) = search (rules, c.in-Some.ensures) in
    let kept : snapshot_in job (ledger_of inside.issued.draws repo target lease) ≡ Some snapshot =
    search (rules, c.snapshot_in.ensures, c.in-Some-snapshot_in.is) in
    let new : Kept = record { core = inside.core; nodes = c.apply.new.self; issued = c.answers.new.self } in
    subst (λ (old : Kept). Happens old (cluster.Apply job lease) (Ok Done) new) c.self.view_is
    (apply_done inside.core inside.nodes c.apply.new.self inside.issued c.answers.new.self job
    repo target lease path there worked snapshot kept c.answers.ensures c.in-Ok.ensures)

pub returns-in-Err : goal.returns-in-Err
returns-in-Err c =
    let inside = c.self.inside in
    let repo = c.in-Some.repo.0 in
    let target = c.in-Some.target.0 in
    let lease = c.args.lease in
    let job = c.args.job.0 in
    let path = c.in-Some-path_on.path.now in
    let snapshot = c.in-Some-snapshot_in.snapshot.now in
    let there : path_on inside.core repo target ≡ Some path =
    search (rules, c.path_on.ensures.path, c.in-Some-path_on.is) in
    let worked : worked_of inside.issued.works job
    ≡ Some (record { repo = repo; number = target }) = search (rules, c.in-Some.ensures) in
    let kept : snapshot_in job (ledger_of inside.issued.draws repo target lease) ≡ Some snapshot =
    search (rules, c.snapshot_in.ensures, c.in-Some-snapshot_in.is) in
    let new : Kept = record { core = inside.core; nodes = c.apply.new.self; issued = inside.issued } in
    subst (λ (old : Kept). Happens old (cluster.Apply job lease) c.refused_by.result new)
    c.self.view_is
    (apply_not_done inside.core inside.nodes c.apply.new.self inside.issued inside.issued job
    repo target lease path there worked snapshot kept c.in-Err.fault c.refused_by.result
    c.refused_by.ensures c.in-Err.ensures)
