use Rattle.std.proofs.Common.{◌≡◌, ap, sym, ◌∙◌, refl, subst}
use Rattle.voters.specs.declared.act.Act.TheVariants.{Stop as StopAct}
use Rattle.voters.specs.declared.outcome.Outcome.{Outcome}
use Rattle.voters.specs.declared.outcome.Outcome.TheVariants.{Open, Stop}
use Rattle.voters.specs.Refusals.{stop_refusal, stop_refusal_for}
use Rattle.voters.specs.Sub.{IsSound, votes_in}
use Rattle.voters.specs.Votes.{Votes, after}
use Rattle.voters.proofs.ActsLemmas.{unless_none}
use Rattle.voters.proofs.StepLemmas.{stop_sound}
use Rattle.voters.proofs.SubLemmas.{stop_step}
use Rattle.voters.proofs.sub.Sub.stop.Goals as goal

pub invariant_of-self : goal.invariant_of-self
invariant_of-self c = record {
  sound = subst (λ (votes : Votes). IsSound votes) (sym (stop_step (votes_in c.self.inside) Stop c.self.invariant.sound c.in-Open.is refl)) (stop_sound (votes_in c.self.inside) c.self.invariant.sound);
  total = c.self.invariant.total;
  few = c.self.invariant.few;
}

pub returns-in-Open-clause-ok : goal.returns-in-Open-clause-ok
returns-in-Open-clause-ok c =
    λ none. stop_step (votes_in c.self.inside) Stop c.self.invariant.sound c.in-Open.is refl ∙ ap (λ (votes : Votes). after votes StopAct) c.self.view_is

pub returns-in-Open-clause-call : goal.returns-in-Open-clause-call
returns-in-Open-clause-call c =
    let is : c.args.self.now.outcome ≡ Open = ap (λ (votes : Votes). votes.outcome) (sym c.self.view_is) ∙ c.in-Open.is in
    stop_step (votes_in c.self.inside) Stop c.self.invariant.sound c.in-Open.is refl
    ∙ ap (λ (votes : Votes). after votes StopAct) c.self.view_is
    ∙ sym (unless_none (stop_refusal c.args.self.now) c.args.self.now StopAct (ap (λ (o : Outcome). stop_refusal_for o) is))
