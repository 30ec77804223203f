use Rattle.std.proofs.Common.{◌≡◌, Ok, Some, is_some, rules, true, subst}
use Rattle.issued.specs.Draws.{ledger_of}
use Rattle.issued.specs.Issued.{worked_of}
use Rattle.px_cluster.specs.Events as cluster
use Rattle.px_cluster.specs.Ledger.{source_in}
use Rattle.px_core.specs.Readers.{path_on}
use Rattle.script_rules.specs.declared.answer.Answer.TheVariants as answer
use Rattle.px_world.specs.Tries.{Happens}
use Rattle.px_world.specs.World.{Kept}
use Rattle.px_world.proofs.JobCalls.{snapshot_done, some_path}
use Rattle.px_world.proofs.world.World.snapshot_for.Goals as goal

pub returns-in-Ok : goal.returns-in-Ok
returns-in-Ok c =
    let inside = c.self.inside in
    let repo = c.in-Some.repo.0 in
    let target = c.in-Some.target.0 in
    let lease = c.args.lease in
    let job = c.args.job.0 in
    let source = c.in-Some-source_in.source.0 in
    let from = c.in-Some-path_on.path.now in
    let known : is_some (path_on inside.core repo target) ≡ true =
    search (rules, c.path_on.ensures.path, c.is_none.ensures, c.if-is_none.false) in
    let there = some_path (path_on inside.core repo target) known in
    let at : path_on inside.core repo source ≡ Some from =
    search (rules, c.path_on-2.ensures.path, c.in-Some-path_on.is) in
    let worked : worked_of inside.issued.works job
    ≡ Some (record { repo = repo; number = target }) = search (rules, c.in-Some.ensures) in
    let issued : source_in job (ledger_of inside.issued.draws repo target lease) ≡ Some source =
    search (rules, c.source_in.ensures, c.in-Some-source_in.is) in
    let snapshot = c.in-Ok.snapshot in
    let new : Kept = record { core = inside.core; nodes = c.snapshot.new.self; issued = c.keep_snapshot.new.self } in
    subst (λ (old : Kept). Happens old (cluster.TakeSnapshot job lease)
    (Ok (answer.Snapshot c.len-refs.result c.len-objects.result)) new) c.self.view_is
    (snapshot_done inside.core inside.nodes c.snapshot.new.self inside.issued
    c.keep_snapshot.new.self job repo target lease there.0 there.1 worked source issued from at
    snapshot c.len-refs.result c.len-objects.result c.keep_snapshot.ensures c.len-refs.ensures
    c.len-objects.ensures c.in-Ok.ensures)
