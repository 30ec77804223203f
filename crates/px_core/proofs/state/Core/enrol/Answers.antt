use Rattle.std.proofs.Common.{◌∙◌, ap, sym, subst}
use Rattle.px_ops.specs.declared.op.Op.TheVariants as op
use Rattle.px_cluster.specs.Book.{with_replica_on}
use Rattle.px_cluster.specs.Core.{Core}
use Rattle.px_cluster.specs.Creating.{enrol_refusal, enrolled}
use Rattle.px_cluster.specs.Ops.{next_core}
use Rattle.genbook.specs.Books.{core_of, on_book}
use Rattle.px_core.specs.Parts.{core_with}
use Rattle.px_core.specs.Sound.{IsSound}
use Rattle.px_core.proofs.Kept.{kept}
use Rattle.px_core.proofs.Parts.{book_leads}
use Rattle.px_core.proofs.state.Core.enrol.Goals as goal

pub invariant_of-self : goal.invariant_of-self
invariant_of-self c =
    let book = c.self.inside.book in
    let core = core_with book c.self.inside.health.up c.self.inside.votes c.self.inside.last
    c.self.inside.turns c.self.inside.reads.items c.self.inside.queue in
    subst IsSound (sym (book_leads book c.enrol.new.self c.self.inside.health.up
    c.self.inside.votes c.self.inside.last c.self.inside.turns c.self.inside.reads.items
    c.self.inside.queue c.args.repo.0
    (with_replica_on c.args.storage.0 enrolled)
    (enrol_refusal (core_of book) (on_book book c.args.repo.0) c.args.storage.0 c.args.lease)
    c.enrol.result c.enrol.ensures.ok c.enrol.ensures.accepted c.enrol.ensures.refused
    c.enrol.ensures.err))
    (kept core (op.Enrol c.args.repo c.args.storage c.args.lease) c.self.invariant)

pub returns-clause-state : goal.returns-clause-state
returns-clause-state c =
    let book = c.self.inside.book in
    book_leads book c.enrol.new.self c.self.inside.health.up
    c.self.inside.votes c.self.inside.last c.self.inside.turns c.self.inside.reads.items
    c.self.inside.queue c.args.repo.0
    (with_replica_on c.args.storage.0 enrolled)
    (enrol_refusal (core_of book) (on_book book c.args.repo.0) c.args.storage.0 c.args.lease)
    c.enrol.result c.enrol.ensures.ok c.enrol.ensures.accepted c.enrol.ensures.refused
    c.enrol.ensures.err
    ∙ ap (λ (known : Core). next_core known (op.Enrol c.args.repo c.args.storage c.args.lease))
    c.self.view_is
