use Rattle.std.proofs.Common.{◌≡◌, ◌∙◌, List, None, Some, ap, slice_get, subst, sym, take}
use Rattle.std.specs.Option.{option_copied}
use Rattle.px_ops.specs.declared.job.Job.{Job}
use Rattle.px_cluster.specs.Book.{Repository}
use Rattle.px_cluster.specs.Plan.{planned_for, planned_from}
use Rattle.reconciler.specs.Known.{core_with}
use Rattle.reconciler.specs.Listed.{Adds}
use Rattle.reconciler.proofs.Additions.{both_added}
use Rattle.reconciler.proofs.PlannedLists.{next_repository, past_end}
use Rattle.reconciler.proofs.planning.list_all.Goals as goal

pub loop-repository-preserved : goal.loop-repository-preserved
loop-repository-preserved c =
    let core = core_with c.args.known.now c.args.queue.now in
    let books = core.repositories in
    let number = c.loop-repository.number in
    let book = c.in-Some.repository.now in
    let start = c.args.listed.now in
    let now = c.loop-repository.listed in
    let new = c.list_for.new.listed in
    let here : slice_get books number ≡ Some book = sym c.repository.ensures.value
    ∙ ap option_copied c.in-Some.is in
    subst (λ (jobs : List Job). Adds jobs start new) (next_repository core books number book here)
    (both_added start now new (planned_from core 0 (take number books))
    (planned_for core number book) c.loop-repository.invariant c.in_ok-list_for.ensures)

pub returns : goal.returns
returns c =
    let core = core_with c.args.known.now c.args.queue.now in
    let books = core.repositories in
    let number = c.loop-repository.number in
    let none : slice_get books number ≡ None = sym c.repository.ensures.value
    ∙ ap option_copied c.in_default.is in
    subst (λ (each : List Repository). Adds (planned_from core 0 each) c.args.listed.now
    c.loop-repository.listed)
    (past_end books number none) c.loop-repository.invariant
