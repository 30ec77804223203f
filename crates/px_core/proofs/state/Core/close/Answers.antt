use Rattle.std.proofs.Common.{◌≡◌, ◌∙◌, None, refl, rules, ap, sym, subst}
use Rattle.px_ops.specs.declared.op.Op.TheVariants as op
use Rattle.px_ops.specs.declared.refusal.Refusal.TheVariants as refusal
use Rattle.px_ops.specs.declared.reply.Reply.TheVariants as reply
use Rattle.px_cluster.specs.Core.{Core, push_of}
use Rattle.px_cluster.specs.Ops.{next_core, reply_of}
use Rattle.px_core.specs.Parts.{core_with}
use Rattle.px_core.specs.Sound.{IsSound}
use Rattle.px_core.proofs.Calls.{close_leads, push_refused}
use Rattle.px_core.proofs.Kept.{kept}
use Rattle.px_core.proofs.state.Core.close.Goals as goal

pub returns-then-is_some-clause-reply : goal.returns-then-is_some-clause-reply
returns-then-is_some-clause-reply c =
    let core = core_with c.self.inside.book c.self.inside.health.up c.self.inside.votes
    c.self.inside.last c.self.inside.turns c.self.inside.reads.items c.self.inside.queue in
    subst (λ (known : Core). reply.Refused refusal.IsPush ≡ reply_of known (op.Close c.args.tx))
    c.self.view_is (sym (push_refused core c.args.tx c.self.invariant.form
    (push_of core c.args.tx) refl (search (rules, c.push.ensures, c.is_some.ensures))))

pub invariant_of-self : goal.invariant_of-self
invariant_of-self c =
    let core = core_with c.self.inside.book c.self.inside.health.up c.self.inside.votes
    c.self.inside.last c.self.inside.turns c.self.inside.reads.items c.self.inside.queue in
    let none : push_of core c.args.tx ≡ None = search (rules, c.push.ensures, c.is_some.ensures) in
    subst IsSound (sym (close_leads core c.args.tx none c.close.result c.close.new.self
    c.close.ensures.answer c.close.ensures.state c.close.ensures.same))
    (kept core (op.Close c.args.tx) c.self.invariant)

pub returns-clause-state : goal.returns-clause-state
returns-clause-state c =
    let core = core_with c.self.inside.book c.self.inside.health.up c.self.inside.votes
    c.self.inside.last c.self.inside.turns c.self.inside.reads.items c.self.inside.queue in
    let none : push_of core c.args.tx ≡ None = search (rules, c.push.ensures, c.is_some.ensures) in
    close_leads core c.args.tx none c.close.result c.close.new.self
    c.close.ensures.answer c.close.ensures.state c.close.ensures.same
    ∙ ap (λ (known : Core). next_core known (op.Close c.args.tx)) c.self.view_is
