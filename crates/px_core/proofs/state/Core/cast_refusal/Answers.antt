use Rattle.std.proofs.Common.{◌≡◌, None, Some, rules, subst, sym}
use Rattle.px_base.specs.declared.ids.TxId.{TxId}
use Rattle.px_ops.specs.declared.op.Op.TheVariants as op
use Rattle.txmanager.specs.VoterCalls.{cast_answer}
use Rattle.px_cluster.specs.Core.{Core, push_of}
use Rattle.px_cluster.specs.Ops.{refusal_of, refused_at}
use Rattle.px_core.specs.Counting.{IsCounted}
use Rattle.px_core.specs.Parts.{core_with}
use Rattle.px_core.specs.Steps.{IsCause}
use Rattle.px_core.proofs.Counts.{counted_accepted}
use Rattle.px_core.proofs.OpenPushes.{open_push}
use Rattle.px_core.proofs.state.Core.cast_refusal.Goals as goal

pub plan_cast-requires : goal.plan_cast-requires
plan_cast-requires c =
    let core = core_with c.self.inside.book c.self.inside.health.up c.self.inside.votes
    c.self.inside.last c.self.inside.turns c.self.inside.reads.items c.self.inside.queue in
    let push = c.in-Some.push.now in
    let found : push_of core c.args.tx ≡ Some push = search rules in
    let is = open_push core c.self.invariant c.args.tx push found in
    subst (λ (known : Core). push_of known push.tx ≡ Some push) c.self.view_is is.of_tx

pub returns-in-Ok : goal.returns-in-Ok
returns-in-Ok c =
    let core = core_with c.self.inside.book c.self.inside.health.up c.self.inside.votes
    c.self.inside.last c.self.inside.turns c.self.inside.reads.items c.self.inside.queue in
    let push = c.in-Some.push.now in
    let found : push_of core c.args.tx ≡ Some push = search rules in
    let is = open_push core c.self.invariant c.args.tx push found in
    let plan = c.in-Ok.field-0 in
    let counted : IsCounted core push c.args.voter.now c.args.phase c.args.hash.now plan =
    subst (λ (known : Core). IsCounted known push c.args.voter.now c.args.phase c.args.hash.now
    plan) (sym c.self.view_is) c.in-Ok.ensures.ok in
    let accepted = counted_accepted c.self.inside.book c.self.inside.book c.self.inside.health.up
    c.self.inside.votes c.self.inside.last c.self.inside.turns c.self.inside.reads.items
    c.self.inside.queue c.args.tx
    c.args.voter.now c.args.phase
    c.args.hash.now push plan found is.same counted in
    sym (subst (λ (known : Core). refusal_of known
    (op.Cast c.args.tx c.args.voter.now c.args.phase c.args.hash.now) ≡ None) c.self.view_is
    accepted)

pub returns-in-Err-Refused : goal.returns-in-Err-Refused
returns-in-Err-Refused c =
    let core = core_with c.self.inside.book c.self.inside.health.up c.self.inside.votes
    c.self.inside.last c.self.inside.turns c.self.inside.reads.items c.self.inside.queue in
    let push = c.in-Some.push.now in
    let found : push_of core c.args.tx ≡ Some push = search rules in
    let is = open_push core c.self.invariant c.args.tx push found in
    let cause : refused_at c.args.self.now push.tx
    (cast_answer c.args.voter.now c.args.phase c.args.hash.now) ≡ Some c.in-Err-Refused.refusal =
    subst (IsCause (refused_at c.args.self.now push.tx
    (cast_answer c.args.voter.now c.args.phase c.args.hash.now))) c.in-Err-Refused.field-0-is
    c.in-Err-Refused.ensures.refused in
    sym (subst (λ (t : TxId). refused_at c.args.self.now t
    (cast_answer c.args.voter.now c.args.phase c.args.hash.now) ≡ Some c.in-Err-Refused.refusal)
    is.same cause)
