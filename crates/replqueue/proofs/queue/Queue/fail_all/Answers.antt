use Rattle.std.proofs.Common.{◌≡◌, ◌∷◌, ◌<◌, ◌+◌, ◌∙◌, List, None, Some, ap, arith, length, map, subst, sym}
use Rattle.std.specs.Prelude.{filter, find, nat_le}
use Rattle.px_ops.specs.declared.job.Job.{Job}
use Rattle.px_cluster.specs.Core.{Core}
use Rattle.px_cluster.specs.Jobs.{failed, is_stale}
use Rattle.cluster_form.proofs.Lists.{both_right}
use Rattle.replqueue.specs.Rows.{changed_at}
use Rattle.replqueue.specs.Search.{least_after, passes_from}
use Rattle.replqueue.proofs.OneJob.{core_with}
use Rattle.replqueue.proofs.Orders.{found_by_number, passes_found}
use Rattle.replqueue.proofs.StaleJobs.{ended, ended_from_zero, first_then_rest, left_behind, none_ends, one_ended, works}
use Rattle.replqueue.proofs.queue.Queue.fail_all.Goals as goal

pub loop-job-init : goal.loop-job-init
loop-job-init c =
    let stale = is_stale c.args.stale.now.time c.args.stale.now.silence in
    ap (λ (left : List Job). core_with left c.args.self.now.last)
    (ended_from_zero stale c.args.self.now.jobs)

pub fail-requires : goal.fail-requires
fail-requires c =
    let stale = is_stale c.args.stale.now.time c.args.stale.now.silence in
    let from = least_after c.loop-job.after in
    let jobs = c.loop-job.self.jobs in
    let job = c.in-Some.job in
    let is : find (passes_from from stale) jobs ≡ Some job = sym c.first_stale.ensures.value
    ∙ c.in-Some.is in
    record {
      found = found_by_number (passes_from from stale) jobs job c.first_stale.ensures.ascend is;
      works = works c.args.stale.now.time c.args.stale.now.silence job
          (both_right (nat_le from job.number.0) (stale job) (passes_found (passes_from from stale)
          jobs job is));
    }

pub loop-job-smaller : goal.loop-job-smaller
loop-job-smaller c =
    let stale = is_stale c.args.stale.now.time c.args.stale.now.silence in
    let jobs = c.loop-job.self.jobs in
    let job = c.in-Some.job in
    let rest = filter (passes_from (job.number.0 + 1) stale) jobs in
    let turn : filter (passes_from (least_after c.loop-job.after) stale) jobs ≡ job ∷ rest =
    first_then_rest stale (least_after c.loop-job.after) jobs job c.first_stale.ensures.ascend
    (sym c.first_stale.ensures.value ∙ c.in-Some.is) in
    let become : c.fail.new.self.jobs ≡ map (changed_at job.number.0 failed) jobs =
    ap (λ (core : Core). core.jobs) c.fail.ensures.ok in
    let left : filter (passes_from (job.number.0 + 1) stale) c.fail.new.self.jobs ≡ rest =
    ap (λ (jobs : List Job). filter (passes_from (job.number.0 + 1) stale) jobs) become
    ∙ left_behind stale job.number.0 jobs in
    subst (λ (before : List Job). length (filter (passes_from (job.number.0 + 1) stale)
    c.fail.new.self.jobs) < length before) (sym turn)
    (subst (λ (after : List Job). length after < length (job ∷ rest)) (sym left) (omega arith))

pub loop-job-preserved : goal.loop-job-preserved
loop-job-preserved c =
    let stale = is_stale c.args.stale.now.time c.args.stale.now.silence in
    let jobs = c.loop-job.self.jobs in
    let job = c.in-Some.job in
    ap (λ (core : Core). core_with (map (ended (passes_from (job.number.0 + 1) stale)) core.jobs)
    core.last_job) c.fail.ensures.ok
    ∙ ap (λ (left : List Job). core_with left c.loop-job.self.last)
    (one_ended stale (least_after c.loop-job.after) jobs job c.first_stale.ensures.ascend
    (sym c.first_stale.ensures.value ∙ c.in-Some.is))
    ∙ c.loop-job.invariant

pub returns : goal.returns
returns c =
    let later = passes_from (least_after c.loop-job.after)
    (is_stale c.args.stale.now.time c.args.stale.now.silence) in
    let jobs = c.loop-job.self.jobs in
    let none : find later jobs ≡ None = sym c.first_stale.ensures.value ∙ c.in_default.is in
    sym (ap (λ (left : List Job). core_with left c.loop-job.self.last) (none_ends later jobs none))
    ∙ c.loop-job.invariant
