use Rattle.std.proofs.Common.{◌≡◌, ◌∙◌, ◌+◌, ◌==◌, ℕ, List, Some, ap, arith, find, rules, subst, sym}
use Rattle.px_base.specs.declared.ids.TxId.{TxId}
use Rattle.px_ops.specs.declared.op.Op.TheVariants as op
use Rattle.px_ops.specs.declared.push.Begun.{Begun}
use Rattle.txmanager.specs.Registry.{Registry, with_registered}
use Rattle.txmanager.specs.Voting.{voting_on}
use Rattle.px_cluster.specs.Core.{Core, OpenPush, repository, with_repository}
use Rattle.px_cluster.specs.Ops.{next_core}
use Rattle.genbook.specs.Books.{core_of}
use Rattle.px_cluster.specs.Pushes.{beginning, next_tx, with_begun}
use Rattle.turns.specs.Turns.{without}
use Rattle.px_cluster.specs.Ids.{repo_id}
use Rattle.px_core.specs.Beginning.{IsPlanned}
use Rattle.px_core.specs.Parts.{core_with}
use Rattle.px_core.specs.Sound.{IsSound}
use Rattle.px_core.proofs.Begins.{begin_leads, begin_replies, begun_found, begun_is, ended_again, others_before, within}
use Rattle.px_core.proofs.Kept.{kept}
use Rattle.px_core.proofs.Tables.{next_is_free}
use Rattle.px_core.proofs.state.Core.begin_as.Goals as goal

pub register-requires : goal.register-requires
register-requires c =
    let core = core_with c.self.inside.book c.self.inside.health.up c.self.inside.votes
    c.self.inside.last c.self.inside.turns c.self.inside.reads.items c.self.inside.queue in
    let plan = c.args.plan in
    let p = subst (λ (known : Core). IsPlanned known plan.push.repo plan) (sym c.self.view_is)
    c.requires in
    let tx_is : plan.begun.tx ≡ next_tx core = ap (λ (b : Begun). b.tx) p.is.told in
    let number : plan.begun.tx.0 ≡ c.self.inside.last + 1 = ap (λ (t : TxId). t.0) tx_is in
    next_is_free c.self.inside.last c.self.inside.votes plan.begun.tx
    c.self.invariant.form.turns.numbers.given (omega (arith, number))

pub invariant_of-self-then-is_err : goal.invariant_of-self-then-is_err
invariant_of-self-then-is_err c =
    let core = core_with c.self.inside.book c.self.inside.health.up c.self.inside.votes
    c.self.inside.last c.self.inside.turns c.self.inside.reads.items c.self.inside.queue in
    let plan = c.args.plan in
    let p = subst (λ (known : Core). IsPlanned known plan.push.repo plan) (sym c.self.view_is)
    c.requires in
    let tx_is : plan.begun.tx ≡ next_tx core = ap (λ (b : Begun). b.tx) p.is.told in
    let number : plan.begun.tx.0 ≡ c.self.inside.last + 1 = ap (λ (t : TxId). t.0) tx_is in
    let votes_same : c.register.new.self ≡ c.self.inside.votes = search rules in
    let push_tx : plan.push.tx ≡ plan.begun.tx =
    ap (λ (push : OpenPush). push.tx) p.is.push ∙ sym tx_is in
    let turns_same : c.end.new.self ≡ c.self.inside.turns =
    c.end.ensures ∙ ap (λ (pushes : List OpenPush). without plan.begun.tx pushes)
    c.in_ok-begin.ensures.ok ∙ ended_again plan.begun.tx plan.push c.self.inside.turns
    (others_before core.storages core.transactions c.self.inside.last plan.begun.tx
    c.self.inside.turns number c.self.invariant.form.turns.each) push_tx in
    subst (λ (votes : Registry). IsSound (core_with c.self.inside.book c.self.inside.health.up
    votes c.self.inside.last c.end.new.self c.self.inside.reads.items c.self.inside.queue))
    (sym votes_same)
    (subst (λ (pushes : List OpenPush). IsSound (core_with c.self.inside.book
    c.self.inside.health.up c.self.inside.votes c.self.inside.last pushes c.self.inside.reads.items
    c.self.inside.queue))
    (sym turns_same)
    c.self.invariant)

pub returns-then-is_err-clause-err : goal.returns-then-is_err-clause-err
returns-then-is_err-clause-err c =
    let core = core_with c.self.inside.book c.self.inside.health.up c.self.inside.votes
    c.self.inside.last c.self.inside.turns c.self.inside.reads.items c.self.inside.queue in
    let plan = c.args.plan in
    let p = subst (λ (known : Core). IsPlanned known plan.push.repo plan) (sym c.self.view_is)
    c.requires in
    let tx_is : plan.begun.tx ≡ next_tx core = ap (λ (b : Begun). b.tx) p.is.told in
    let number : plan.begun.tx.0 ≡ c.self.inside.last + 1 = ap (λ (t : TxId). t.0) tx_is in
    let votes_same : c.register.new.self ≡ c.self.inside.votes = search rules in
    let push_tx : plan.push.tx ≡ plan.begun.tx =
    ap (λ (push : OpenPush). push.tx) p.is.push ∙ sym tx_is in
    let turns_same : c.end.new.self ≡ c.self.inside.turns =
    c.end.ensures ∙ ap (λ (pushes : List OpenPush). without plan.begun.tx pushes)
    c.in_ok-begin.ensures.ok ∙ ended_again plan.begun.tx plan.push c.self.inside.turns
    (others_before core.storages core.transactions c.self.inside.last plan.begun.tx
    c.self.inside.turns number c.self.invariant.form.turns.each) push_tx in
    (λ i. core_with c.self.inside.book c.self.inside.health.up (votes_same i)
    c.self.inside.last (turns_same i) c.self.inside.reads.items c.self.inside.queue)
    ∙ c.self.view_is

pub put-requires-clause-known : goal.put-requires-clause-known
put-requires-clause-known c =
    let core = core_with c.self.inside.book c.self.inside.health.up c.self.inside.votes
    c.self.inside.last c.self.inside.turns c.self.inside.reads.items c.self.inside.queue in
    let plan = c.args.plan in
    let p = subst (λ (known : Core). IsPlanned known plan.push.repo plan) (sym c.self.view_is)
    c.requires in
    let tx_is : plan.begun.tx ≡ next_tx core = ap (λ (b : Begun). b.tx) p.is.told in
    let number : plan.begun.tx.0 ≡ c.self.inside.last + 1 = ap (λ (t : TxId). t.0) tx_is in
    within core.repositories c.repo-repo.result.0 p.book
    (ap (λ (n : ℕ). repository core n) c.repo-repo.ensures ∙ p.there)

pub invariant_of-self-2 : goal.invariant_of-self-2
invariant_of-self-2 c =
    let core = core_with c.self.inside.book c.self.inside.health.up c.self.inside.votes
    c.self.inside.last c.self.inside.turns c.self.inside.reads.items c.self.inside.queue in
    let plan = c.args.plan in
    let p = subst (λ (known : Core). IsPlanned known plan.push.repo plan) (sym c.self.view_is)
    c.requires in
    let tx_is : plan.begun.tx ≡ next_tx core = ap (λ (b : Begun). b.tx) p.is.told in
    let number : plan.begun.tx.0 ≡ c.self.inside.last + 1 = ap (λ (t : TxId). t.0) tx_is in
    let votes_are : c.register.new.self
    ≡ with_registered c.self.inside.votes plan.begun.tx (voting_on plan.panel 1) = search rules in
    let put : core_of c.put.new.self
    ≡ with_repository plan.push.repo plan.entry (core_of c.self.inside.book) =
    subst (λ (n : ℕ). core_of c.put.new.self ≡ with_repository n plan.entry
    (core_of c.self.inside.book)) c.repo-repo.ensures c.put.ensures in
    let leads : core_with c.put.new.self c.self.inside.health.up c.register.new.self
    plan.begun.tx.0 c.begin.new.self c.self.inside.reads.items c.self.inside.queue
    ≡ with_begun (beginning core plan.push.repo p.book) p.book core =
    begun_is c.self.inside.book c.put.new.self c.self.inside.health.up c.self.inside.votes
    c.self.inside.last c.self.inside.turns c.self.inside.reads.items c.self.inside.queue
    plan.push.repo p.book plan.entry
    plan.panel
    plan.begun.tx plan.push c.register.new.self c.begin.new.self put p.is.entry votes_are
    p.is.panel tx_is c.in_ok-begin.ensures.ok p.is.push in
    subst IsSound (sym (leads ∙ begin_leads core plan.push.repo p.book p.there p.none))
    (kept core (op.Begin (repo_id plan.push.repo)) c.self.invariant)

pub returns-clause-state : goal.returns-clause-state
returns-clause-state c =
    let core = core_with c.self.inside.book c.self.inside.health.up c.self.inside.votes
    c.self.inside.last c.self.inside.turns c.self.inside.reads.items c.self.inside.queue in
    let plan = c.args.plan in
    let p = subst (λ (known : Core). IsPlanned known plan.push.repo plan) (sym c.self.view_is)
    c.requires in
    let tx_is : plan.begun.tx ≡ next_tx core = ap (λ (b : Begun). b.tx) p.is.told in
    let number : plan.begun.tx.0 ≡ c.self.inside.last + 1 = ap (λ (t : TxId). t.0) tx_is in
    let votes_are : c.register.new.self
    ≡ with_registered c.self.inside.votes plan.begun.tx (voting_on plan.panel 1) = search rules in
    let put : core_of c.put.new.self
    ≡ with_repository plan.push.repo plan.entry (core_of c.self.inside.book) =
    subst (λ (n : ℕ). core_of c.put.new.self ≡ with_repository n plan.entry
    (core_of c.self.inside.book)) c.repo-repo.ensures c.put.ensures in
    let leads : core_with c.put.new.self c.self.inside.health.up c.register.new.self
    plan.begun.tx.0 c.begin.new.self c.self.inside.reads.items c.self.inside.queue
    ≡ with_begun (beginning core plan.push.repo p.book) p.book core =
    begun_is c.self.inside.book c.put.new.self c.self.inside.health.up c.self.inside.votes
    c.self.inside.last c.self.inside.turns c.self.inside.reads.items c.self.inside.queue
    plan.push.repo p.book plan.entry
    plan.panel
    plan.begun.tx plan.push c.register.new.self c.begin.new.self put p.is.entry votes_are
    p.is.panel tx_is c.in_ok-begin.ensures.ok p.is.push in
    leads ∙ begin_leads core plan.push.repo p.book p.there p.none
    ∙ ap (λ (known : Core). next_core known (op.Begin (repo_id plan.push.repo))) c.self.view_is

pub returns-clause-reply : goal.returns-clause-reply
returns-clause-reply c =
    let plan = c.args.plan in
    let p = c.requires in
    begin_replies c.args.self.now plan.push.repo p.book plan.begun p.there p.none p.is.told

pub returns-clause-turn : goal.returns-clause-turn
returns-clause-turn c =
    let core = core_with c.self.inside.book c.self.inside.health.up c.self.inside.votes
    c.self.inside.last c.self.inside.turns c.self.inside.reads.items c.self.inside.queue in
    let plan = c.args.plan in
    let p = subst (λ (known : Core). IsPlanned known plan.push.repo plan) (sym c.self.view_is)
    c.requires in
    let number : plan.push.tx.0 ≡ c.self.inside.last + 1 =
    ap (λ (push : OpenPush). push.tx.0) p.is.push in
    subst (λ (pushes : List OpenPush). find (λ (other : OpenPush). other.tx.0 == plan.push.tx.0)
    pushes ≡ Some plan.push) (sym c.in_ok-begin.ensures.ok)
    (begun_found plan.push c.self.inside.turns
    (others_before core.storages core.transactions c.self.inside.last plan.push.tx
    c.self.inside.turns number c.self.invariant.form.turns.each))
