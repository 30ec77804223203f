use Rattle.std.proofs.Common.{◌∙◌, ap}
use Rattle.px_cluster.specs.Core.{Core}
use Rattle.px_cluster.specs.Taking.{next_job}
use Rattle.px_core.proofs.Queues.{next_same}
use Rattle.px_core.proofs.state.Core.next_job.Goals as goal

pub returns : goal.returns
returns c =
    let inside = c.self.inside in
    c.next.ensures
    ∙ next_same inside.book inside.health.up inside.votes inside.last inside.turns
    inside.reads.items inside.queue
    c.args.target.0 inside.queue.jobs
    ∙ ap (λ (known : Core). next_job known c.args.target.0) c.self.view_is
