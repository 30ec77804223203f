use Rattle.std.proofs.Common.{◌≡◌, ◌+◌, ◌<◌, ◌++◌, ◌∷◌, [], ◌∙◌, List, ap, append_assoc, arith, length, map, subst, sym}
use Rattle.std.specs.Prelude.{filter}
use Rattle.std.proofs.lemmas.List.{append-nil}
use Rattle.px_base.specs.declared.ids.JobId.{JobId}
use Rattle.px_ops.specs.declared.job.Job.{Job}
use Rattle.px_cluster.specs.Jobs.{is_stale}
use Rattle.replqueue.specs.Search.{least_after, passes_from}
use Rattle.replqueue.proofs.StaleJobs.{all_from_zero, first_then_rest, none_left}
use Rattle.replqueue.proofs.queue.Queue.stale_numbers.Goals as goal

pub loop-job-init : goal.loop-job-init
loop-job-init c =
    let stale = is_stale c.args.stale.now.time c.args.stale.now.silence in
    rw c.new-numbers.ensures (ap (map (λ (job : Job). job.number))
    (all_from_zero stale c.args.self.now.jobs))

pub loop-job-smaller : goal.loop-job-smaller
loop-job-smaller c =
    let stale = is_stale c.args.stale.now.time c.args.stale.now.silence in
    let jobs = c.args.self.now.jobs in
    let job = c.in-Some.job in
    let rest = filter (passes_from (job.number.0 + 1) stale) jobs in
    let turn : filter (passes_from (least_after c.loop-job.after) stale) jobs ≡ job ∷ rest =
    first_then_rest stale (least_after c.loop-job.after) jobs job c.first_stale.ensures.ascend
    (sym c.first_stale.ensures.value ∙ c.in-Some.is) in
    subst (λ (left : List Job). length rest < length left) (sym turn) (omega arith)

pub loop-job-preserved : goal.loop-job-preserved
loop-job-preserved c =
    let stale = is_stale c.args.stale.now.time c.args.stale.now.silence in
    let jobs = c.args.self.now.jobs in
    let job = c.in-Some.job in
    let rest = filter (passes_from (job.number.0 + 1) stale) jobs in
    let turn : filter (passes_from (least_after c.loop-job.after) stale) jobs ≡ job ∷ rest =
    first_then_rest stale (least_after c.loop-job.after) jobs job c.first_stale.ensures.ascend
    (sym c.first_stale.ensures.value ∙ c.in-Some.is) in
    let numbers = c.loop-job.numbers in
    let behind = map (λ (job : Job). job.number) rest in
    ap (λ (front : List JobId). front ++ behind) c.in_ok-push.ensures.ok
    ∙ append_assoc numbers (job.number ∷ []) behind
    ∙ ap (λ (left : List Job). numbers ++ map (λ (job : Job). job.number) left) (sym turn)
    ∙ c.loop-job.invariant

pub returns : goal.returns
returns c =
    let stale = is_stale c.args.stale.now.time c.args.stale.now.silence in
    let jobs = c.args.self.now.jobs in
    let numbers = c.loop-job.numbers in
    let none : filter (passes_from (least_after c.loop-job.after) stale) jobs ≡ [] =
    none_left stale (least_after c.loop-job.after) jobs (sym c.first_stale.ensures.value
    ∙ c.in_default.is) in
    sym (append-nil numbers)
    ∙ ap (λ (left : List Job). numbers ++ map (λ (job : Job). job.number) left) (sym none)
    ∙ c.loop-job.invariant
