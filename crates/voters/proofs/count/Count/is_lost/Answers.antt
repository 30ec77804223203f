use Rattle.std.proofs.Common.{◌≡◌, ap, ◌∙◌, List, ◌+◌, nat_lt, true, false, arith}
use Rattle.std.specs.List.{list_all}
use Rattle.voters.specs.Marks.{is_lost}
use Rattle.voters.specs.declared.mark.Mark.{Mark}
use Rattle.voters.specs.declared.tally.Tally.{Tally}
use Rattle.voters.proofs.LostLemmas.{test-is, tallies_fit}
use Rattle.std.proofs.lemmas.Bool.{lt-ltb, le-ltb}
use Rattle.voters.proofs.count.Count.is_lost.Goals as goal

pub all_fall_short-requires : goal.all_fall_short-requires
all_fall_short-requires c = rw c.deref.ensures.value (
    tallies_fit c.self.inside.pending c.self.inside.marks.items c.self.inside.tallies.items c.self.invariant.tallies
    (omega (arith, c.self.invariant.pending)) c.self.invariant.fits)

pub returns-then-self-threshold : goal.returns-then-self-threshold
returns-then-self-threshold c =
    let less : nat_lt c.self.inside.pending c.args.threshold ≡ true = lt-ltb _ _ c.if-self-threshold.true in
    let e = test-is c.args.threshold c.self.inside.pending c.self.inside.marks.items c.self.inside.tallies.items c.self.invariant.tallies c.self.invariant.pending in
    c.all_fall_short.ensures
    ∙ ap (λ (ts : List Tally). list_all (λ t. nat_lt (t.weight + c.self.inside.pending) c.args.threshold) ts) c.deref.ensures.value
    ∙ (rw less at e)
    ∙ ap (λ (bs : List Mark). is_lost c.args.threshold bs) c.self.view_is

pub returns-else-self-threshold : goal.returns-else-self-threshold
returns-else-self-threshold c =
    let more : nat_lt c.self.inside.pending c.args.threshold ≡ false = le-ltb _ _ c.if-self-threshold.false in
    let e = test-is c.args.threshold c.self.inside.pending c.self.inside.marks.items c.self.inside.tallies.items c.self.invariant.tallies c.self.invariant.pending in
    more ∙ (rw more at e) ∙ ap (λ (bs : List Mark). is_lost c.args.threshold bs) c.self.view_is
