use Rattle.std.proofs.Common.{◌≡◌, arith, ap, sym, ◌∙◌, Some, slice_get, length-set, set, false, subst}
use Rattle.voters.specs.declared.act.Act.TheVariants.{Cancel}
use Rattle.voters.specs.Marks.{canceling}
use Rattle.voters.specs.Results.{committed_in}
use Rattle.voters.specs.Sub.{IsSound, votes_in}
use Rattle.voters.specs.Votes.{Votes, after}
use Rattle.voters.proofs.CountLemmas.{cancel-weights}
use Rattle.voters.proofs.StepLemmas.{cancel_sound}
use Rattle.voters.proofs.SubLemmas.{cancel_step, cancel_commits, uncommitted}
use Rattle.voters.proofs.sub.Sub.record_cancel.Goals as goal

there : (c : goal.After-self-1) → slice_get c.self.inside.count c.args.voter ≡ Some c.args.mark
there c = ap (λ (votes : Votes). slice_get votes.marks c.args.voter) c.self.view_is ∙ c.requires.there

step : (c : goal.After-self-1) → votes_in (record { count = c.cancel.new.self; threshold = c.self.inside.threshold; total = c.self.inside.total; outcome = c.first_of-self-inside.result }) ≡ after (votes_in c.self.inside) (Cancel c.args.voter)
step c = cancel_step (votes_in c.self.inside) c.args.voter c.args.mark c.cancel.new.self c.after_cancel.result c.first_of-self-inside.result c.self.invariant.sound (there c) c.requires.not_canceled
    c.cancel.ensures c.after_cancel.ensures c.first_of-self-inside.ensures

-- the voter isn't committed
not : (c : goal.After-self-1) → committed_in c.args.voter (votes_in c.self.inside) ≡ false
not c = uncommitted (votes_in c.self.inside) c.args.voter c.args.mark (there c) (λ h e. c.requires.no_vote h (ap (λ (votes : Votes). votes.outcome) (sym c.self.view_is) ∙ e))

pub invariant_of-self : goal.invariant_of-self
invariant_of-self c = record {
  sound = subst (λ (votes : Votes). IsSound votes) (sym (step c)) (cancel_sound (votes_in c.self.inside) c.args.voter c.self.invariant.sound (not c));
  total = rw c.cancel.ensures (omega (arith, c.self.invariant.total, (cancel-weights c.self.inside.count c.args.voter c.args.mark (there c) c.requires.not_canceled).0));
  few = rw (c.cancel.ensures, length-set) c.self.invariant.few;
}

pub returns-clause-act : goal.returns-clause-act
returns-clause-act c = step c ∙ ap (λ (votes : Votes). after votes (Cancel c.args.voter)) c.self.view_is

pub returns-clause-marks : goal.returns-clause-marks
returns-clause-marks c = c.cancel.ensures ∙ ap (λ (votes : Votes). set votes.marks c.args.voter (canceling c.args.mark)) c.self.view_is

pub returns-clause-commit : goal.returns-clause-commit
returns-clause-commit c =
    λ h e.
    ap (λ (votes : Votes). votes.outcome) (sym c.self.view_is)
    ∙ cancel_commits (votes_in c.self.inside) c.args.voter c.args.mark c.self.invariant.sound (there c) c.requires.not_canceled h (ap (λ (votes : Votes). votes.outcome) (sym (step c)) ∙ e)
