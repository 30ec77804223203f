use Rattle.std.proofs.Common.{◌≡◌, false, sym, ◌∙◌, arith, take, subst, List}
use Rattle.std.specs.List.{AllByRecursion}
use Rattle.voters.specs.Results.{voted_in}
use Rattle.voters.specs.Votes.{Votes}
use Rattle.txmanager.specs.Rounds.{out_from}
use Rattle.txmanager.proofs.CarryIntoLemmas.{map_without_none, out_voted_each, so_far_out, so_far_in}
use Rattle.txmanager.proofs.carry.carry_into_each.Goals as goal
use Rattle.txmanager.proofs.carry.carry_into_each.Goals.{then-is_out, else-is_out}

pub loop-voter-init : goal.loop-voter-init
loop-voter-init c = map_without_none c.args.later.now

pub take_out_of_each-requires : goal.take_out_of_each-requires
take_out_of_each-requires c =
    subst (λ (xs : List Votes). AllByRecursion (λ next. voted_in c.loop-voter.voter next ≡ false) xs) (sym c.loop-voter.invariant)
    (out_voted_each c.args.earlier.now c.loop-voter.voter (out_from c.args.earlier.now 0 (take c.loop-voter.voter c.args.earlier.now.marks)) c.args.later.now c.requires.1 (sym c.is_out.ensures ∙ c.if-is_out.true))

pub loop-voter-preserved : goal.loop-voter-preserved
loop-voter-preserved c =
    elim c.if-is_out.branch [
      | then-is_out w ↦ rw w.later-is (so_far_out c.args.earlier.now c.args.later.now c.loop-voter.later w.take_out_of_each.new.later c.loop-voter.voter (omega (arith, c.loop-voter-test.true, c.len-voter-end.ensures.value)) c.loop-voter.invariant (sym c.is_out.ensures ∙ w.if-is_out.true) w.take_out_of_each.ensures)
      | else-is_out w ↦ rw w.later-is (so_far_in c.args.earlier.now c.args.later.now c.loop-voter.later c.loop-voter.voter (omega (arith, c.loop-voter-test.true, c.len-voter-end.ensures.value)) c.loop-voter.invariant (sym c.is_out.ensures ∙ w.if-is_out.false))
    ]
