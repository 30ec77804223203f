use Rattle.std.proofs.Common.{◌≡◌, ◌∙◌, Some, refl, sym, subst}
use Rattle.px_cluster.specs.Core.{job_at}
use Rattle.replqueue.specs.Edits.{MayReplace}
use Rattle.replqueue.specs.Queue.{Queued, core_of}
use Rattle.replqueue.proofs.OneJob.{same_core}
use Rattle.replqueue.proofs.Upkeep.{kept_replaced}
use Rattle.replqueue.proofs.queue.Queue.replace.Goals as goal

pub invariant_of-self : goal.invariant_of-self
invariant_of-self c =
    let job = c.args.job.now in
    let inside : Queued = record {
      jobs = c.self.inside.rows;
      last = c.self.inside.last;
      room =
          c.self.inside.running;
    } in
    let may : MayReplace inside job =
    subst (λ (queue : Queued). MayReplace queue job) (sym c.self.view_is) c.requires in
    kept_replaced job may.before c.self.inside.rows c.self.invariant.ascend may.found
    c.self.inside.last c.self.inside.pairs c.self.inside.targets c.self.inside.running
    c.unmark_unless.new.self c.unmark_unless-2.new.self
    c.self.invariant may.repo may.target may.lock may.room
    c.unmark_unless.ensures.others (λ locked. c.unmark_unless.ensures.all (c.holds_lock.ensures
    ∙ locked))
    c.unmark_unless-2.ensures.others
    (λ works. c.unmark_unless-2.ensures.all (c.is_in_progress.ensures ∙ works))
    c.replace.new.self (c.replace.ensures.value (λ other. job) may.before may.found refl)
    c.replace.ensures.ascend

pub returns : goal.returns
returns c change before found becomes =
    let there : job_at (core_of (record {
      jobs = c.self.inside.rows;
      last =
          c.self.inside.last;
      room = c.self.inside.running;
    })) c.args.job.now.number.0 ≡ Some before =
    subst (λ (queue : Queued). job_at (core_of queue) c.args.job.now.number.0
    ≡ Some before) (sym c.self.view_is) found in
    rw (← c.self.view_is) (same_core _ c.replace.new.self c.self.inside.last c.self.inside.last
    (c.replace.ensures.value change before there becomes) refl)
