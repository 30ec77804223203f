use Rattle.std.proofs.Common.{◌≡◌, ◌∙◌, ℕ, Some, ap, rules, subst, sym}
use Rattle.px_base.specs.declared.ids.TxId.{TxId}
use Rattle.px_ops.specs.declared.op.Op.TheVariants as op
use Rattle.px_ops.specs.declared.reply.Reply.TheVariants as reply
use Rattle.txmanager.specs.VoterCalls.{cast_answer}
use Rattle.px_cluster.specs.Core.{Core, push_of, repository}
use Rattle.px_cluster.specs.Ops.{refusal_of, refused_at}
use Rattle.px_core.specs.Counting.{IsCounted}
use Rattle.px_core.specs.Parts.{core_with}
use Rattle.px_core.specs.Sound.{IsSound}
use Rattle.px_core.specs.Steps.{IsCause, IsDone}
use Rattle.px_core.proofs.Begins.{within}
use Rattle.px_core.proofs.Counts.{counted_accepted, counted_answer, counted_leads, fault_steps}
use Rattle.px_core.proofs.Kept.{kept_done}
use Rattle.px_core.proofs.OpenPushes.{open_push}
use Rattle.px_core.proofs.state.Core.cast.Goals as goal

pub plan_cast-requires : goal.plan_cast-requires
plan_cast-requires c =
    let core = core_with c.self.inside.book c.self.inside.health.up c.self.inside.votes
    c.self.inside.last c.self.inside.turns c.self.inside.reads.items c.self.inside.queue in
    let push = c.in-Some.push.now in
    let found : push_of core c.args.tx ≡ Some push = search rules in
    let is = open_push core c.self.invariant c.args.tx push found in
    subst (λ (known : Core). push_of known push.tx ≡ Some push) c.self.view_is is.of_tx

pub put-requires-2-clause-known : goal.put-requires-2-clause-known
put-requires-2-clause-known c =
    let core = core_with c.self.inside.book c.self.inside.health.up c.self.inside.votes
    c.self.inside.last c.self.inside.turns c.self.inside.reads.items c.self.inside.queue in
    let push = c.in-Some.push.now in
    let found : push_of core c.args.tx ≡ Some push = search rules in
    let is = open_push core c.self.invariant c.args.tx push found in
    within core.repositories c.repo-repo.result.0 is.book
    (ap (λ (n : ℕ). repository core n) c.repo-repo.ensures ∙ is.there)

pub invariant_of-self : goal.invariant_of-self
invariant_of-self c =
    let core = core_with c.self.inside.book c.self.inside.health.up c.self.inside.votes
    c.self.inside.last c.self.inside.turns c.self.inside.reads.items c.self.inside.queue in
    let push = c.in-Some.push.now in
    let found : push_of core c.args.tx ≡ Some push = search rules in
    let is = open_push core c.self.invariant c.args.tx push found in
    let plan = c.in-Ok.plan in
    let counted : IsCounted core push c.args.voter.now c.args.phase c.args.hash.now plan =
    subst (λ (known : Core). IsCounted known push c.args.voter.now c.args.phase c.args.hash.now
    plan) (sym c.self.view_is) c.in-Ok.ensures.ok in
    let leads = counted_leads c.self.inside.book c.put-2.new.self c.self.inside.health.up
    c.self.inside.votes c.self.inside.last c.self.inside.turns c.self.inside.reads.items
    c.self.inside.queue c.args.tx
    c.args.voter.now c.args.phase
    c.args.hash.now push plan found is.same counted c.put.new.self c.repo-repo.result.0
    c.put.ensures
    c.repo-repo.ensures c.put-2.ensures in
    let accepted = counted_accepted c.self.inside.book c.put-2.new.self c.self.inside.health.up
    c.self.inside.votes c.self.inside.last c.self.inside.turns c.self.inside.reads.items
    c.self.inside.queue c.args.tx
    c.args.voter.now c.args.phase
    c.args.hash.now push plan found is.same counted in
    subst IsSound (sym leads) (kept_done core
    (op.Cast c.args.tx c.args.voter.now c.args.phase c.args.hash.now) accepted c.self.invariant)

pub returns : goal.returns
returns c =
    let core = core_with c.self.inside.book c.self.inside.health.up c.self.inside.votes
    c.self.inside.last c.self.inside.turns c.self.inside.reads.items c.self.inside.queue in
    let push = c.in-Some.push.now in
    let found : push_of core c.args.tx ≡ Some push = search rules in
    let is = open_push core c.self.invariant c.args.tx push found in
    let plan = c.in-Ok.plan in
    let counted : IsCounted core push c.args.voter.now c.args.phase c.args.hash.now plan =
    subst (λ (known : Core). IsCounted known push c.args.voter.now c.args.phase c.args.hash.now
    plan) (sym c.self.view_is) c.in-Ok.ensures.ok in
    let leads = counted_leads c.self.inside.book c.put-2.new.self c.self.inside.health.up
    c.self.inside.votes c.self.inside.last c.self.inside.turns c.self.inside.reads.items
    c.self.inside.queue c.args.tx
    c.args.voter.now c.args.phase
    c.args.hash.now push plan found is.same counted c.put.new.self c.repo-repo.result.0
    c.put.ensures
    c.repo-repo.ensures c.put-2.ensures in
    let accepted = counted_accepted c.self.inside.book c.put-2.new.self c.self.inside.health.up
    c.self.inside.votes c.self.inside.last c.self.inside.turns c.self.inside.reads.items
    c.self.inside.queue c.args.tx
    c.args.voter.now c.args.phase
    c.args.hash.now push plan found is.same counted in
    let answers = counted_answer c.self.inside.book c.put-2.new.self c.self.inside.health.up
    c.self.inside.votes c.self.inside.last c.self.inside.turns c.self.inside.reads.items
    c.self.inside.queue c.args.tx
    c.args.voter.now c.args.phase
    c.args.hash.now push plan found is.same counted in
    let after_ = core_with c.put-2.new.self c.self.inside.health.up c.put.new.self
    c.self.inside.last c.self.inside.turns c.self.inside.reads.items c.self.inside.queue in
    subst (λ (known : Core). IsDone known
    (op.Cast c.args.tx c.args.voter.now c.args.phase c.args.hash.now)
    (reply.Counted plan.sub plan.result) after_) c.self.view_is
    (record { accepted = accepted; answers = answers; leads = leads })

pub returns-in-Err : goal.returns-in-Err
returns-in-Err c =
    let core = core_with c.self.inside.book c.self.inside.health.up c.self.inside.votes
    c.self.inside.last c.self.inside.turns c.self.inside.reads.items c.self.inside.queue in
    let push = c.in-Some.push.now in
    let found : push_of core c.args.tx ≡ Some push = search rules in
    let is = open_push core c.self.invariant c.args.tx push found in
    let asked = op.Cast c.args.tx c.args.voter.now c.args.phase c.args.hash.now in
    let cause : IsCause (refusal_of c.args.self.now asked) c.in-Err.fault = subst (λ (t : TxId).
    IsCause (refused_at c.args.self.now t (cast_answer c.args.voter.now c.args.phase
    c.args.hash.now))
    c.in-Err.fault) is.same c.in-Err.ensures.refused in
    fault_steps c.args.self.now asked c.in-Err.fault cause
