use Rattle.std.proofs.Common.{◌≡◌, ◌+◌, ◌++◌, ◌∷◌, [], ap, sym, ◌∙◌, take, true}
use Rattle.std.proofs.lemmas.List.{take_more}
use Rattle.cluster_form.proofs.Lists.{all_both}
use Rattle.px_ops.specs.declared.job.Job.{Job}
use Rattle.replqueue.specs.Lines.{line_by}
use Rattle.replqueue.specs.Marks.{has}
use Rattle.replqueue.proofs.Upkeep.{marked_still}
use Rattle.replqueue.proofs.lines.mark_each.Goals as goal

pub loop-job-preserved : goal.loop-job-preserved
loop-job-preserved c =
    let jobs = c.args.jobs.now in
    let i = c.loop-job.job-index in
    let item = c.job-item.result in
    let here : has c.mark.new.self (line_by c.args.by item) item.number.0 ≡ true =
    rw (← c.line_by.ensures) c.in_ok-mark.ensures.ok in
    let more : take (i + 1) jobs ≡ take i jobs ++ item ∷ [] =
    take_more jobs i item c.loop-job-test.true
    ∙ ap (λ (last : Job). take i jobs ++ last ∷ []) (sym c.job-item.is) in
    record {
      marked = rw more (all_both (λ (job : Job). true ≡ true
          → has c.mark.new.self (line_by c.args.by job) job.number.0 ≡ true) (take i jobs)
          (item ∷ [])
          (marked_still (λ (job : Job). true) (line_by c.args.by) c.loop-job.marks c.mark.new.self
          (take i jobs) c.mark.ensures.others c.loop-job.invariant.marked)
          (λ any. here, tt));
      others = λ line number is. c.mark.ensures.others line number (c.loop-job.invariant.others line
          number is);
    }
