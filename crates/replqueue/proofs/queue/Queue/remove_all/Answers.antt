use Rattle.std.proofs.Common.{◌≡◌, ◌<◌, ◌==◌, ◌∙◌, List, None, Some, ap, length, subst, sym}
use Rattle.std.specs.Prelude.{filter, find, not}
use Rattle.px_ops.specs.declared.job.Job.{Job}
use Rattle.px_cluster.specs.Core.{Core}
use Rattle.replqueue.specs.Search.{is_of}
use Rattle.replqueue.proofs.Orders.{fewer_left, filter_less, found_by_number, taken_out}
use Rattle.replqueue.proofs.Removals.{none_taken}
use Rattle.replqueue.proofs.queue.Queue.remove_all.Goals as goal

pub loop-job-smaller : goal.loop-job-smaller
loop-job-smaller c =
    let jobs = c.loop-job.self.jobs in
    let job = c.in-Some.job in
    let found : find (is_of c.args.pair.now) jobs ≡ Some job = sym c.copy_first.ensures.value
    ∙ c.in-Some.is in
    let gone : c.remove.new.self.jobs
    ≡ filter (λ (other : Job). not (other.number.0 == job.number.0)) jobs =
    ap (λ (core : Core). core.jobs) c.remove.ensures in
    subst (λ (left : List Job). length left < length jobs) (sym gone)
    (fewer_left job.number.0 jobs job (found_by_number (is_of c.args.pair.now) jobs job
    c.copy_first.ensures.ascend found))

pub loop-job-preserved : goal.loop-job-preserved
loop-job-preserved c =
    let jobs = c.loop-job.self.jobs in
    let job = c.in-Some.job in
    let found : find (is_of c.args.pair.now) jobs ≡ Some job = sym c.copy_first.ensures.value
    ∙ c.in-Some.is in
    let gone : c.remove.new.self.jobs
    ≡ filter (λ (other : Job). not (other.number.0 == job.number.0)) jobs =
    ap (λ (core : Core). core.jobs) c.remove.ensures in
    record {
      jobs = ap (λ (left : List Job). filter (λ (other : Job). not (is_of c.args.pair.now other))
          left) gone
          ∙ filter_less (λ (other : Job). not (is_of c.args.pair.now other))
          (λ (other : Job). not (other.number.0 == job.number.0)) jobs
          (taken_out (is_of c.args.pair.now) jobs job c.copy_first.ensures.ascend found)
          ∙ c.loop-job.invariant.jobs;
      last = ap (λ (core : Core). core.last_job) c.remove.ensures ∙ c.loop-job.invariant.last;
    }

pub returns : goal.returns
returns c =
    let jobs = c.loop-job.self.jobs in
    let none : find (is_of c.args.pair.now) jobs ≡ None = sym c.copy_first.ensures.value
    ∙ c.in_default.is in
    record {
      jobs = sym (none_taken (is_of c.args.pair.now) jobs none) ∙ c.loop-job.invariant.jobs;
      last = c.loop-job.invariant.last;
    }
