use Rattle.std.proofs.Common.{◌≡◌, ◌&&◌, ◌∙◌, List, ap, arith, refl, subst, take}
use Rattle.std.specs.Prelude.{filter, not}
use Rattle.std.proofs.lemmas.List.{take_all}
use Rattle.px_ops.specs.declared.job.Job.{Job}
use Rattle.px_cluster.specs.Jobs.{is_dead, is_for}
use Rattle.replqueue.specs.Edits.{RemovesBuried}
use Rattle.replqueue.proofs.Removals.{buried_further, none_buried}
use Rattle.replqueue.proofs.queue.Queue.bury_each.Goals as goal

pub loop-job-init : goal.loop-job-init
loop-job-init c = record {
  jobs = none_buried c.args.self.now.jobs;
  last = refl;
}

pub loop-job-preserved : goal.loop-job-preserved
loop-job-preserved c =
    let item = c.job-item.result in
    record {
      jobs = c.remove_all.ensures.jobs
          ∙ ap (λ (left : List Job). filter
          (λ (job : Job). not (is_dead job.state && is_for item.repo.0 item.target.0 job)) left)
          c.loop-job.invariant.jobs
          ∙ buried_further c.loop-job.job-index c.args.jobs.now c.args.self.now.jobs item
          c.loop-job-test.true c.job-item.is;
      last = c.remove_all.ensures.last ∙ c.loop-job.invariant.last;
    }

pub returns : goal.returns
returns c =
    let jobs = c.args.jobs.now in
    let all : take c.loop-job.job-index jobs ≡ jobs =
    take_all c.loop-job.job-index jobs (omega (arith, c.loop-job-test.false)) in
    subst (λ (more : List Job). RemovesBuried more c.args.self.now c.loop-job.self) all
    c.loop-job.invariant
