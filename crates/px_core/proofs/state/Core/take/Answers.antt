use Rattle.std.proofs.Common.{◌≡◌, ◌∙◌, IfSome, Option, ap, subst, sym, true}
use Rattle.px_ops.specs.declared.job.Job.{Job}
use Rattle.px_ops.specs.declared.job.TakenJob.{TakenJob}
use Rattle.px_ops.specs.declared.op.Op.TheVariants as op
use Rattle.px_ops.specs.declared.reply.Reply.TheVariants as reply
use Rattle.px_cluster.specs.Core.{Core, job_at}
use Rattle.px_cluster.specs.Ids.{storage_number}
use Rattle.px_cluster.specs.Jobs.{with_job_changed}
use Rattle.px_cluster.specs.Taking.{as_taken}
use Rattle.replqueue.specs.Queue.{is_waiting}
use Rattle.px_core.specs.Parts.{core_with}
use Rattle.px_core.specs.Steps.{IsDone}
use Rattle.px_core.specs.Work.{IsWork, work_told}
use Rattle.px_core.proofs.Begins.{within}
use Rattle.px_core.proofs.BookOps.{done_sound}
use Rattle.px_core.proofs.Works.{in_queue, is_given, source_known, take_done, work_waits}
use Rattle.px_core.proofs.state.Core.take.Goals as goal

pub told-told-requires-clause-source : goal.told-told-requires-clause-source
told-told-requires-clause-source c =
    let inside = c.self.inside in
    let core = core_with inside.book inside.health.up inside.votes inside.last inside.turns
    inside.reads.items inside.queue in
    let work = c.args.work.now in
    let is = subst (λ (known : Core). IsWork known work.job.target.0 work) (sym c.self.view_is)
    c.requires in
    source_known core work.job.target.0 work is c.self.invariant

pub book_taken-requires-clause-known : goal.book_taken-requires-clause-known
book_taken-requires-clause-known c =
    let inside = c.self.inside in
    let core = core_with inside.book inside.health.up inside.votes inside.last inside.turns
    inside.reads.items inside.queue in
    let work = c.args.work.now in
    let is = subst (λ (known : Core). IsWork known work.job.target.0 work) (sym c.self.view_is)
    c.requires in
    within core.repositories work.job.repo.0 is.book is.there

pub take-requires-clause-waits : goal.take-requires-clause-waits
take-requires-clause-waits c =
    let inside = c.self.inside in
    let core = core_with inside.book inside.health.up inside.votes inside.last inside.turns
    inside.reads.items inside.queue in
    let work = c.args.work.now in
    let is = subst (λ (known : Core). IsWork known work.job.target.0 work) (sym c.self.view_is)
    c.requires in
    subst (λ (there : Option Job). IfSome there (λ (row : Job). is_waiting row.state ≡ true))
    (sym (ap (λ (known : Core). job_at known work.job.number.0) c.reserve.ensures.same
    ∙ in_queue core work.job.target.0 work is c.self.invariant))
    (work_waits core work.job.target.0 work is)

pub invariant_of-self-2 : goal.invariant_of-self-2
invariant_of-self-2 c =
    let inside = c.self.inside in
    let core = core_with inside.book inside.health.up inside.votes inside.last inside.turns
    inside.reads.items inside.queue in
    let work = c.args.work.now in
    let is = subst (λ (known : Core). IsWork known work.job.target.0 work) (sym c.self.view_is)
    c.requires in
    let from = storage_number work.source in
    let makes = c.take.ensures.rule is.book from (is_given core work.job.target.0 work is)
    ∙ ap (with_job_changed work.job.number (as_taken is.book from c.args.now))
    c.reserve.ensures.same in
    done_sound core _ (op.Dequeue work.job.target c.args.now) (reply.Taken (work_told core work))
    c.self.invariant (take_done inside.book inside.health.up inside.votes inside.last inside.turns
    inside.reads.items inside.queue c.take.new.self work.job.target c.args.now c.book_taken.new.book
    work is
    c.book_taken.ensures makes)

pub returns : goal.returns
returns c =
    let inside = c.self.inside in
    let core = core_with inside.book inside.health.up inside.votes inside.last inside.turns
    inside.reads.items inside.queue in
    let after_ = core_with c.book_taken.new.book inside.health.up inside.votes inside.last
    inside.turns inside.reads.items c.take.new.self in
    let work = c.args.work.now in
    let is = subst (λ (known : Core). IsWork known work.job.target.0 work) (sym c.self.view_is)
    c.requires in
    let from = storage_number work.source in
    let makes = c.take.ensures.rule is.book from (is_given core work.job.target.0 work is)
    ∙ ap (with_job_changed work.job.number (as_taken is.book from c.args.now))
    c.reserve.ensures.same in
    let asked = op.Dequeue work.job.target c.args.now in
    subst (λ (known : Core). IsDone known asked (reply.Taken c.told-told.result) after_)
    c.self.view_is
    (subst (λ (told : TakenJob). IsDone core asked (reply.Taken told) after_)
    (sym c.told-told.ensures)
    (take_done inside.book inside.health.up inside.votes inside.last inside.turns
    inside.reads.items inside.queue c.take.new.self work.job.target c.args.now c.book_taken.new.book
    work is
    c.book_taken.ensures makes))
