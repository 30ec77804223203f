use Rattle.std.proofs.Common.{◌≡◌, ◌∙◌, None, ap, refl, rules, subst, sym}
use Rattle.px_ops.specs.declared.op.Op.TheVariants as op
use Rattle.px_cluster.specs.Book.{with_lease_for}
use Rattle.px_cluster.specs.Core.{Core}
use Rattle.px_cluster.specs.Ops.{next_core, refusal_of}
use Rattle.genbook.specs.Books.{Becomes}
use Rattle.px_core.specs.Parts.{core_with}
use Rattle.px_core.specs.Sound.{IsSound}
use Rattle.px_core.proofs.Kept.{kept}
use Rattle.px_core.proofs.RepairOps.{repair_leads}
use Rattle.px_core.proofs.state.Core.draw_to_accept.Goals as goal

pub invariant_of-self : goal.invariant_of-self
invariant_of-self c =
    let inside = c.self.inside in
    let core = core_with inside.book inside.health.up inside.votes inside.last inside.turns
    inside.reads.items inside.queue in
    let asked = op.AcceptBegin c.args.repo c.args.storage in
    let none : refusal_of core asked ≡ None = search rules in
    let becomes : Becomes c.args.repo.0 (with_lease_for c.args.storage.0) inside.book
    c.draw_to_accept.new.self = search rules in
    subst IsSound (sym (repair_leads inside.book c.draw_to_accept.new.self inside.health.up
    inside.votes inside.last inside.turns inside.reads.items inside.queue c.lift.new.self
    c.args.repo c.args.storage asked (with_lease_for c.args.storage.0) c.lift.ensures becomes
    none refl))
    (kept core asked c.self.invariant)

pub returns-clause-state : goal.returns-clause-state
returns-clause-state c =
    let inside = c.self.inside in
    let core = core_with inside.book inside.health.up inside.votes inside.last inside.turns
    inside.reads.items inside.queue in
    let asked = op.AcceptBegin c.args.repo c.args.storage in
    let none : refusal_of core asked ≡ None = search rules in
    let becomes : Becomes c.args.repo.0 (with_lease_for c.args.storage.0) inside.book
    c.draw_to_accept.new.self = search rules in
    repair_leads inside.book c.draw_to_accept.new.self inside.health.up inside.votes inside.last
    inside.turns inside.reads.items inside.queue c.lift.new.self c.args.repo c.args.storage asked
    (with_lease_for c.args.storage.0) c.lift.ensures becomes none refl
    ∙ ap (λ (known : Core). next_core known asked) c.self.view_is
