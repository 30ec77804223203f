use Rattle.std.proofs.Common.{◌≡◌, arith, ap, sym, ◌∙◌}
use Rattle.voters.specs.Marks.{canceling}
use Rattle.voters.specs.declared.outcome.Outcome.{Outcome}
use Rattle.voters.specs.Results.{undecided_by}
use Rattle.voters.proofs.CancelAllLemmas.{so_far_canceled, so_far_skipped, so_far_all}
use Rattle.voters.proofs.sub.Sub.cancel_all.Goals as goal
use Rattle.voters.proofs.sub.Sub.cancel_all.Goals.{then-is_still_undecided, else-is_still_undecided}

pub loop-voter-preserved : goal.loop-voter-preserved
loop-voter-preserved c =
    let b = c.mark_at-mark.result in
    let by : c.is_still_undecided.result ≡ undecided_by c.args.self.now.outcome b = c.is_still_undecided.ensures ∙ ap (λ (o : Outcome). undecided_by o b) c.outcome-before.ensures.value in
    elim c.if-is_still_undecided.branch [
      | then-is_still_undecided w ↦ rw (w.self-is, w.canceled-is)
          (so_far_canceled c.args.self.now c.loop-voter.self w.record_cancel.new.self c.loop-voter.voter c.loop-voter.canceled b (canceling b) c.loop-voter.invariant
          c.mark_at-mark.ensures (sym by ∙ w.if-is_still_undecided.true) w.record_cancel.ensures.act w.record_cancel.ensures.marks w.record_cancel.ensures.commit)
      | else-is_still_undecided w ↦ rw (w.self-is, w.canceled-is)
          (so_far_skipped c.args.self.now c.loop-voter.self c.loop-voter.voter c.loop-voter.canceled b c.loop-voter.invariant
          c.mark_at-mark.ensures (sym by ∙ w.if-is_still_undecided.false))
    ]

pub returns-clause-ok : goal.returns-clause-ok
returns-clause-ok c =
    (so_far_all c.args.self.now c.loop-voter.self c.loop-voter.voter c.loop-voter.canceled c.loop-voter.invariant (omega (arith, c.loop-voter-test.false, c.len-voter-end.ensures.value))).0

pub returns-clause-value : goal.returns-clause-value
returns-clause-value c =
    (so_far_all c.args.self.now c.loop-voter.self c.loop-voter.voter c.loop-voter.canceled c.loop-voter.invariant (omega (arith, c.loop-voter-test.false, c.len-voter-end.ensures.value))).1
