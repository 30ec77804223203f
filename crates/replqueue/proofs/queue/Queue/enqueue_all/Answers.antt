use Rattle.std.proofs.Common.{◌+◌, ◌++◌, ◌∙◌, List, ap, length}
use Rattle.px_ops.specs.declared.job.Job.{Job}
use Rattle.replqueue.proofs.OneJob.{same_core}
use Rattle.replqueue.proofs.Removals.{plan_stays, unburied}
use Rattle.replqueue.proofs.queue.Queue.enqueue_all.Goals as goal

pub returns-in-Ok-clause-ok : goal.returns-in-Ok-clause-ok
returns-in-Ok-clause-ok c =
    let more = c.args.jobs.now in
    let come = c.in-Ok.ensures.ok in
    same_core (unburied more c.args.self.now.jobs ++ more) c.bury_each.new.self.jobs
    (c.args.self.now.last + length more) c.bury_each.new.self.last
    (c.bury_each.ensures.jobs ∙ ap (λ (jobs : List Job). unburied more jobs) come.jobs
    ∙ plan_stays c.args.self.now.jobs more c.requires.ready)
    (c.bury_each.ensures.last ∙ come.last)
