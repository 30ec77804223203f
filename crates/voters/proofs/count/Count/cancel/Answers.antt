use Rattle.std.proofs.Common.{◌≡◌, length, arith, ap, ◌∙◌, List, Some, slice_get}
use Rattle.std.proofs.lemmas.Option.{slice_get_within}
use Rattle.voters.specs.declared.mark.Mark.{Mark}
use Rattle.voters.specs.declared.tally.Tally.{Tally}
use Rattle.voters.proofs.CountLemmas.{cancel-tallies, length-without_vote, cancel-weights, cancel_low}
use Rattle.voters.proofs.count.Count.cancel.Goals as goal

pub take_vote-requires : goal.take_vote-requires
take_vote-requires c =
    let there : slice_get c.self.inside.marks.items c.args.voter ≡ Some c.args.mark = ap (λ (bs : List Mark). slice_get bs c.args.voter) c.self.view_is ∙ c.requires.there in
    rw c.from.ensures (cancel_low c.self.inside.marks.items c.args.voter c.args.mark there c.requires.not_canceled c.self.inside.tallies.items c.self.invariant.tallies)

pub overflow_sub-self : goal.overflow_sub-self
overflow_sub-self c =
    let there : slice_get c.self.inside.marks.items c.args.voter ≡ Some c.args.mark = ap (λ (bs : List Mark). slice_get bs c.args.voter) c.self.view_is ∙ c.requires.there in
    let w = cancel-weights c.self.inside.marks.items c.args.voter c.args.mark there c.requires.not_canceled in
    omega (arith, w.1, c.open_part.ensures, c.self.invariant.pending)

pub index_mut-requires : goal.index_mut-requires
index_mut-requires c =
    let there : slice_get c.self.inside.marks.items c.args.voter ≡ Some c.args.mark = ap (λ (bs : List Mark). slice_get bs c.args.voter) c.self.view_is ∙ c.requires.there in
    omega (arith, slice_get_within c.self.inside.marks.items c.args.voter c.args.mark there, c.self.inside.marks.ok.0)

pub invariant_of-self : goal.invariant_of-self
invariant_of-self c =
    let there : slice_get c.self.inside.marks.items c.args.voter ≡ Some c.args.mark = ap (λ (bs : List Mark). slice_get bs c.args.voter) c.self.view_is ∙ c.requires.there in
    let bs = c.self.inside.marks.items in
    let ts = c.self.inside.tallies.items in
    let w = cancel-weights bs c.args.voter c.args.mark there c.requires.not_canceled in
    record {
      fits = rw w.0 c.self.invariant.fits;
      pending = omega (arith, w.1, c.open_part.ensures, c.self.invariant.pending);
      tallies = rw (c.take_vote.ensures.items, c.from.ensures) (cancel-tallies bs c.args.voter c.args.mark there c.requires.not_canceled ts c.self.invariant.tallies);
      room = omega (arith, w.2, c.self.invariant.room, length-without_vote c.args.mark.vote c.from.result ts, ap (λ (xs : List Tally). length xs) c.take_vote.ensures.items, c.take_vote.ensures.capacity);
    }
