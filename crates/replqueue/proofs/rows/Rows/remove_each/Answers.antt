use Rattle.std.proofs.Common.{◌≡◌, ◌==◌, ◌∙◌, ◌||◌, ◌+◌, List, ap, arith, sym, take}
use Rattle.std.specs.Prelude.{filter, not}
use Rattle.std.proofs.lemmas.List.{take_all}
use Rattle.std.proofs.lemmas.List.Folds.{list_any_more}
use Rattle.px_ops.specs.declared.job.Job.{Job}
use Rattle.replqueue.specs.Rows.{is_among}
use Rattle.replqueue.proofs.Orders.{filter_both, none_gone}
use Rattle.replqueue.proofs.rows.Rows.remove_each.Goals as goal

pub loop-job-init : goal.loop-job-init
loop-job-init c = none_gone c.args.self.now

pub loop-job-preserved : goal.loop-job-preserved
loop-job-preserved c =
    let jobs = c.args.jobs.now in
    let i = c.loop-job.job-index in
    let item = c.job-item.result in
    c.remove.ensures.value
    ∙ ap (λ (left : List Job). filter (λ (job : Job). not (job.number.0 == item.number.0)) left)
    c.loop-job.invariant
    ∙ filter_both (is_among (take i jobs)) (λ (job : Job). job.number.0 ==
    item.number.0) (is_among (take (i + 1) jobs)) c.args.self.now
    (λ job. list_any_more (λ (other : Job). job.number.0 == other.number.0) jobs i item
    c.loop-job-test.true
    ∙ ap (λ (other : Job). is_among (take i jobs) job || (job.number.0 == other.number.0))
    (sym c.job-item.is))

pub returns : goal.returns
returns c =
    let jobs = c.args.jobs.now in
    let all : take c.loop-job.job-index jobs ≡ jobs =
    take_all c.loop-job.job-index jobs (omega (arith, c.loop-job-test.false)) in
    c.loop-job.invariant ∙ ap (λ (gone : List Job). filter (λ (job : Job). not (is_among gone job))
    c.args.self.now) all
