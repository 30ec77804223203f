use Rattle.std.proofs.Common.{◌+◌, ◌<◌, ◌∷◌, List, ap, arith, length, rules, subst, sym, take}
use Rattle.std.specs.Prelude.{flat_map}
use Rattle.px_ops.specs.declared.job.Job.{Job}
use Rattle.px_cluster.specs.Plan.{planned_at}
use Rattle.reconciler.specs.Listed.{Adds, jobs_of}
use Rattle.reconciler.specs.Sites.{core_at}
use Rattle.reconciler.proofs.Additions.{both_added}
use Rattle.reconciler.proofs.PlannedLists.{one_piece_more}
use Rattle.reconciler.proofs.planning.list_for.Goals as goal

pub loop-replica-preserved : goal.loop-replica-preserved
loop-replica-preserved c =
    let site = c.args.site.now in
    let planned = planned_at (core_at site) site.repo.0 site.repository.now in
    let replicas = site.repository.now.replicas in
    let place = c.loop-replica.replica-index in
    let item = c.replica-item.result in
    let start = c.args.listed.now in
    let now = c.loop-replica.listed in
    let new = c.add.new.self in
    let within : place < length replicas =
    search (rules, c.loop-replica-test.true, c.replicas-replica-items.ensures) in
    let added = subst (λ (jobs : List Job). Adds jobs now new) c.planned_at.ensures
    c.in_ok-add.ensures in
    subst (λ (jobs : List Job). Adds jobs start new)
    (sym (one_piece_more planned place item replicas within
    (search (rules, c.replica-item.is, c.replicas-replica-items.ensures))))
    (both_added start now new (flat_map planned (take place replicas)) (planned item)
    c.loop-replica.invariant added)
