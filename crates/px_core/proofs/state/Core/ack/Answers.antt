use Rattle.std.proofs.Common.{◌≡◌, ◌∙◌, None, ap, rules, subst, sym}
use Rattle.px_ops.specs.declared.op.Op.TheVariants as op
use Rattle.px_cluster.specs.Core.{Core, job_at}
use Rattle.px_cluster.specs.Jobs.{ended_job, worker_refusal}
use Rattle.px_cluster.specs.Ops.{next_core}
use Rattle.replqueue.specs.Queue.{core_of as jobs_of}
use Rattle.px_core.specs.Parts.{core_with}
use Rattle.px_core.specs.Sound.{IsSound}
use Rattle.px_core.proofs.BookChanges.{ack_leads, on_record}
use Rattle.px_core.proofs.Kept.{kept}
use Rattle.px_core.proofs.state.Core.ack.Goals as goal

pub book_end-requires : goal.book_end-requires
book_end-requires c =
    let inside = c.self.inside in
    let core = core_with inside.book inside.health.up inside.votes inside.last inside.turns
    inside.reads.items inside.queue in
    let known = on_record inside.book inside.health.up inside.votes inside.last inside.turns
    inside.reads.items inside.queue c.self.invariant c.args.job.0 in
    search (rules, known)

pub invariant_of-self : goal.invariant_of-self
invariant_of-self c =
    let inside = c.self.inside in
    let core = core_with inside.book inside.health.up inside.votes inside.last inside.turns
    inside.reads.items inside.queue in
    let row : c.copied-row.result ≡ job_at core c.args.job.0 = search rules in
    let heard : worker_refusal c.args.job c.args.lease (job_at core c.args.job.0) ≡ None =
    search rules in
    let made : jobs_of c.ack.new.self
    ≡ ended_job c.args.good (job_at core c.args.job.0) (jobs_of inside.queue) = search rules in
    subst IsSound (sym (ack_leads inside.book c.book_end.new.book inside.health.up inside.votes
    inside.last inside.turns inside.reads.items inside.queue c.ack.new.self c.args.job c.args.lease
    c.args.good
    c.copied-row.result row heard c.book_end.ensures made))
    (kept core (op.Ack c.args.job c.args.lease c.args.good) c.self.invariant)

pub returns-in-Ok-clause-state : goal.returns-in-Ok-clause-state
returns-in-Ok-clause-state c =
    let inside = c.self.inside in
    let core = core_with inside.book inside.health.up inside.votes inside.last inside.turns
    inside.reads.items inside.queue in
    let row : c.copied-row.result ≡ job_at core c.args.job.0 = search rules in
    let heard : worker_refusal c.args.job c.args.lease (job_at core c.args.job.0) ≡ None =
    search rules in
    let made : jobs_of c.ack.new.self
    ≡ ended_job c.args.good (job_at core c.args.job.0) (jobs_of inside.queue) = search rules in
    ack_leads inside.book c.book_end.new.book inside.health.up inside.votes
    inside.last inside.turns inside.reads.items inside.queue c.ack.new.self c.args.job c.args.lease
    c.args.good
    c.copied-row.result row heard c.book_end.ensures made
    ∙ ap (λ (known : Core). next_core known (op.Ack c.args.job c.args.lease c.args.good))
    c.self.view_is
