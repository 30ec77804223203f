use Rattle.std.proofs.Common.{◌≡◌, ◌∙◌, None, Some, ap, refl, rules, subst, sym}
use Rattle.px_ops.specs.declared.op.Op.TheVariants as op
use Rattle.px_ops.specs.declared.reply.Reply.TheVariants as reply
use Rattle.px_cluster.specs.Book.{with_replica_on}
use Rattle.px_cluster.specs.Core.{Core}
use Rattle.px_cluster.specs.Ops.{next_core, refusal_of, reply_of}
use Rattle.px_cluster.specs.Repairs.{settled}
use Rattle.genbook.specs.Books.{Becomes}
use Rattle.px_core.specs.Parts.{core_with}
use Rattle.px_core.specs.Sound.{IsSound}
use Rattle.px_core.proofs.Kept.{kept}
use Rattle.px_core.proofs.RepairOps.{repair_leads, settled_reply}
use Rattle.px_core.proofs.state.Core.settle.Goals as goal

pub returns-in-Err-clause-reply : goal.returns-in-Err-clause-reply
returns-in-Err-clause-reply c =
    let asked = op.Settle c.args.repo c.args.storage c.args.lease c.args.last in
    let why : refusal_of c.args.self.now asked ≡ Some c.in-Err.refusal =
    c.in-Err.ensures.refused c.args.last in
    search (rules, why)

pub returns-in-Err-clause-state : goal.returns-in-Err-clause-state
returns-in-Err-clause-state c =
    let asked = op.Settle c.args.repo c.args.storage c.args.lease c.args.last in
    let why : refusal_of c.args.self.now asked ≡ Some c.in-Err.refusal =
    c.in-Err.ensures.refused c.args.last in
    search (rules, why)

pub unreachable-requires : goal.unreachable-requires
unreachable-requires c =
    let inside = c.self.inside in
    let core = core_with inside.book inside.health.up inside.votes inside.last inside.turns
    inside.reads.items inside.queue in
    let asked = op.Settle c.args.repo c.args.storage c.args.lease c.args.last in
    let none : refusal_of core asked ≡ None = subst (λ (known : Core).
    refusal_of known asked ≡ None) (sym c.self.view_is)
    (c.in_default.ensures.accepted c.args.last) in
    let some : refusal_of core asked ≡ Some c.in-Err-settle.field-0 =
    c.in-Err-settle.ensures.refused in
    let both : None ≡ Some c.in-Err-settle.field-0 = sym none ∙ some in
    cc

pub invariant_of-self : goal.invariant_of-self
invariant_of-self c =
    let inside = c.self.inside in
    let core = core_with inside.book inside.health.up inside.votes inside.last inside.turns
    inside.reads.items inside.queue in
    let asked = op.Settle c.args.repo c.args.storage c.args.lease c.args.last in
    let none : refusal_of core asked ≡ None = search rules in
    let becomes : Becomes c.args.repo.0 (with_replica_on c.args.storage.0 (settled c.args.last))
    inside.book c.settle.new.self = search rules in
    subst IsSound (sym (repair_leads inside.book c.settle.new.self inside.health.up
    inside.votes inside.last inside.turns inside.reads.items inside.queue c.lift.new.self
    c.args.repo c.args.storage asked (with_replica_on c.args.storage.0 (settled c.args.last))
    c.lift.ensures becomes none refl))
    (kept core asked c.self.invariant)

pub returns-clause-state : goal.returns-clause-state
returns-clause-state c =
    let inside = c.self.inside in
    let core = core_with inside.book inside.health.up inside.votes inside.last inside.turns
    inside.reads.items inside.queue in
    let asked = op.Settle c.args.repo c.args.storage c.args.lease c.args.last in
    let none : refusal_of core asked ≡ None = search rules in
    let becomes : Becomes c.args.repo.0 (with_replica_on c.args.storage.0 (settled c.args.last))
    inside.book c.settle.new.self = search rules in
    repair_leads inside.book c.settle.new.self inside.health.up inside.votes inside.last
    inside.turns inside.reads.items inside.queue c.lift.new.self c.args.repo c.args.storage asked
    (with_replica_on c.args.storage.0 (settled c.args.last)) c.lift.ensures becomes none refl
    ∙ ap (λ (known : Core). next_core known asked) c.self.view_is

pub returns-clause-reply : goal.returns-clause-reply
returns-clause-reply c =
    let inside = c.self.inside in
    let core = core_with inside.book inside.health.up inside.votes inside.last inside.turns
    inside.reads.items inside.queue in
    let asked = op.Settle c.args.repo c.args.storage c.args.lease c.args.last in
    let none : refusal_of core asked ≡ None = search rules in
    let becomes : Becomes c.args.repo.0 (with_replica_on c.args.storage.0 (settled c.args.last))
    inside.book c.settle.new.self = search rules in
    ap reply.BookedIs c.booking_at.ensures
    ∙ settled_reply inside.book c.settle.new.self inside.health.up inside.votes inside.last
    inside.turns inside.reads.items inside.queue c.lift.new.self c.args.repo c.args.storage
    c.args.lease c.args.last none becomes
    ∙ ap (λ (known : Core). reply_of known asked) c.self.view_is
