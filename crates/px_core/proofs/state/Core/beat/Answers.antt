use Rattle.std.proofs.Common.{subst, sym}
use Rattle.px_ops.specs.declared.op.Op.TheVariants as op
use Rattle.px_cluster.specs.Core.{job_at}
use Rattle.px_cluster.specs.Jobs.{worker_refusal}
use Rattle.px_core.specs.Parts.{core_with}
use Rattle.px_core.specs.Sound.{IsSound}
use Rattle.px_core.proofs.Kept.{kept}
use Rattle.px_core.proofs.Queues.{beat_leads}
use Rattle.px_core.proofs.state.Core.beat.Goals as goal

pub invariant_of-self : goal.invariant_of-self
invariant_of-self c =
    let inside = c.self.inside in
    let core = core_with inside.book inside.health.up inside.votes inside.last inside.turns
    inside.reads.items inside.queue in
    subst IsSound (sym (beat_leads inside.book inside.health.up inside.votes inside.last
    inside.turns inside.reads.items inside.queue c.beat.new.self c.args.job c.args.now
    (worker_refusal c.args.job c.args.lease (job_at core c.args.job.0)) c.beat.result
    c.beat.ensures.ok c.beat.ensures.accepted c.beat.ensures.refused c.beat.ensures.err))
    (kept core (op.Beat c.args.job c.args.lease c.args.now) c.self.invariant)
