-- At most one hash at a time is named by standing votes of threshold weight.
use Rattle.std.proofs.Common.{◌≡◌, ◌≤◌, List, arith, ap, ◌∙◌, subst}
use Rattle.px_base.specs.declared.hash.Hash.{Hash}
use Rattle.voters.specs.declared.act.Act.{Act}
use Rattle.voters.specs.declared.mark.Mark.{Mark}
use Rattle.voters.specs.Calls.{Call, acts_of, all_called}
use Rattle.voters.specs.MarkRule.{marks_of}
use Rattle.voters.specs.Marks.{standing_weight}
use Rattle.voters.specs.Rule.{CastsOnce, Commits, IsPoll}
use Rattle.voters.specs.Votes.{Poll, Votes, start}
use Rattle.voters.proofs.ActsLemmas.{calls_come_to}
use Rattle.voters.proofs.AgreeLemmas.{standing_agrees}
use Rattle.voters.proofs.MarkRuleLemmas.{few, run-marks}
use Rattle.voters.proofs.OutcomeLemmas.{one_commits}

-- by the acts alone
pub one_of_acts : (poll : Poll) (acts : List Act) (one other : Hash) → IsPoll poll → CastsOnce acts → Commits poll acts one → Commits poll acts other → one ≡ other
one_of_acts poll acts one other is once reached reaches =
    one_commits poll.threshold (marks_of poll acts) one other (few poll acts is)
    (omega (arith, standing_agrees poll acts one once, reached)) (omega (arith, standing_agrees poll acts other once, reaches))

-- by the marks after any calls
pub one_of_calls : (poll : Poll) (calls : List Call) (one other : Hash) → IsPoll poll → poll.threshold ≤ standing_weight one (all_called calls (start poll)).marks → poll.threshold ≤ standing_weight other (all_called calls (start poll)).marks → one ≡ other
one_of_calls poll calls one other is reached reaches =
    let acts = acts_of (start poll) calls in
    let same : (all_called calls (start poll)).marks ≡ marks_of poll acts = ap (λ (votes : Votes). votes.marks) (calls_come_to (start poll) calls) ∙ run-marks poll acts in
    one_commits poll.threshold (marks_of poll acts) one other (few poll acts is)
    (subst (λ (marks : List Mark). poll.threshold ≤ standing_weight one marks) same reached)
    (subst (λ (marks : List Mark). poll.threshold ≤ standing_weight other marks) same reaches)
