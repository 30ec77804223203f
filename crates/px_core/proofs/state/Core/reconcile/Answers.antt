use Rattle.std.proofs.Common.{◌≡◌, ◌∙◌, List, ap, subst, sym, true}
use Rattle.std.specs.List.{AllByRecursion}
use Rattle.px_ops.specs.declared.job.Job.{Job}
use Rattle.px_ops.specs.declared.op.Op.TheVariants as op
use Rattle.px_cluster.specs.Core.{Core}
use Rattle.px_cluster.specs.Ids.{repo_number}
use Rattle.px_cluster.specs.Jobs.{is_ready}
use Rattle.px_cluster.specs.Plan.{numbered, plan, with_plan}
use Rattle.px_core.specs.Known.{AreJobsKnown}
use Rattle.px_core.specs.Parts.{core_with}
use Rattle.px_core.specs.Sound.{IsSound}
use Rattle.px_core.proofs.JobStorages.{plan_known, plan_numbered, plan_ready}
use Rattle.px_core.proofs.Kept.{kept}
use Rattle.px_core.proofs.Queues.{plan_in}
use Rattle.px_core.proofs.state.Core.reconcile.Goals as goal

pub jobs_told-requires : goal.jobs_told-requires
jobs_told-requires c =
    let inside = c.self.inside in
    let core = core_with inside.book inside.health.up inside.votes inside.last inside.turns
    inside.reads.items inside.queue in
    let only = repo_number c.args.only in
    let are : c.as_slice.result.now ≡ plan core only = c.as_slice.ensures ∙ c.in_ok-jobs.ensures
    ∙ ap (λ (known : Core). plan known only) (sym c.self.view_is) in
    subst (AreJobsKnown inside.book.storages) (sym are) (plan_known core c.self.invariant only)

pub enqueue_all-requires-clause-numbers : goal.enqueue_all-requires-clause-numbers
enqueue_all-requires-clause-numbers c =
    let inside = c.self.inside in
    let core = core_with inside.book inside.health.up inside.votes inside.last inside.turns
    inside.reads.items inside.queue in
    let only = repo_number c.args.only in
    let are : c.as_slice-2.result.now ≡ plan core only =
    c.as_slice-2.ensures ∙ c.in_ok-jobs.ensures
    ∙ ap (λ (known : Core). plan known only) (sym c.self.view_is) in
    subst (λ (jobs : List Job). numbered inside.queue.last jobs ≡ jobs) (sym are)
    (plan_numbered core only)

pub enqueue_all-requires-clause-ready : goal.enqueue_all-requires-clause-ready
enqueue_all-requires-clause-ready c =
    let inside = c.self.inside in
    let core = core_with inside.book inside.health.up inside.votes inside.last inside.turns
    inside.reads.items inside.queue in
    let only = repo_number c.args.only in
    let are : c.as_slice-2.result.now ≡ plan core only =
    c.as_slice-2.ensures ∙ c.in_ok-jobs.ensures
    ∙ ap (λ (known : Core). plan known only) (sym c.self.view_is) in
    subst (AllByRecursion (λ (job : Job). is_ready job.state ≡ true)) (sym are)
    (plan_ready core c.self.invariant only)

pub invariant_of-self-2 : goal.invariant_of-self-2
invariant_of-self-2 c =
    let inside = c.self.inside in
    let core = core_with inside.book inside.health.up inside.votes inside.last inside.turns
    inside.reads.items inside.queue in
    let only = repo_number c.args.only in
    let jobs = c.as_slice-2.result.now in
    let are : jobs ≡ plan core only = c.as_slice-2.ensures ∙ c.in_ok-jobs.ensures
    ∙ ap (λ (known : Core). plan known only) (sym c.self.view_is) in
    subst IsSound (sym (plan_in inside.book inside.health.up inside.votes inside.last inside.turns
    inside.reads.items inside.queue c.enqueue_all.new.self jobs c.in_ok-enqueue_all.ensures.ok
    ∙ ap (λ (js : List Job). with_plan js core) are))
    (kept core (op.Reconcile c.args.only) c.self.invariant)
