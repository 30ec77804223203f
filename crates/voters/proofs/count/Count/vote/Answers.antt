use Rattle.std.proofs.Common.{◌≡◌, length, arith, ap, ◌∙◌, List, Some, slice_get, set}
use Rattle.std.proofs.lemmas.Option.{slice_get_within}
use Rattle.voters.specs.declared.mark.Mark.{Mark}
use Rattle.voters.specs.declared.tally.Tally.{Tally}
use Rattle.voters.proofs.LostLemmas.{tallies_fit}
use Rattle.voters.proofs.CountLemmas.{with_vote-tallies, length-with_vote, vote-raises, vote-weights}
use Rattle.voters.specs.Marks.{voting}
use Rattle.voters.proofs.count.Count.vote.Goals as goal

pub add_vote-requires-clause-fits : goal.add_vote-requires-clause-fits
add_vote-requires-clause-fits c =
    let there : slice_get c.self.inside.marks.items c.args.voter ≡ Some c.args.mark = ap (λ (bs : List Mark). slice_get bs c.args.voter) c.self.view_is ∙ c.requires.there in
    let w = vote-weights c.args.hash.now c.self.inside.marks.items c.args.voter c.args.mark there c.requires.is_open in
    tallies_fit c.from-weight.result c.self.inside.marks.items c.self.inside.tallies.items c.self.invariant.tallies (omega (arith, w.1, c.from-weight.ensures)) c.self.invariant.fits

pub add_vote-requires-clause-room : goal.add_vote-requires-clause-room
add_vote-requires-clause-room c =
    let there : slice_get c.self.inside.marks.items c.args.voter ≡ Some c.args.mark = ap (λ (bs : List Mark). slice_get bs c.args.voter) c.self.view_is ∙ c.requires.there in
    let w = vote-weights c.args.hash.now c.self.inside.marks.items c.args.voter c.args.mark there c.requires.is_open in
    omega (arith, w.2, c.self.invariant.room, c.self.inside.tallies.ok.0)

pub overflow_sub-self : goal.overflow_sub-self
overflow_sub-self c =
    let there : slice_get c.self.inside.marks.items c.args.voter ≡ Some c.args.mark = ap (λ (bs : List Mark). slice_get bs c.args.voter) c.self.view_is ∙ c.requires.there in
    let w = vote-weights c.args.hash.now c.self.inside.marks.items c.args.voter c.args.mark there c.requires.is_open in
    omega (arith, w.1, c.from-weight.ensures, c.self.invariant.pending)

pub index_mut-requires : goal.index_mut-requires
index_mut-requires c =
    let there : slice_get c.self.inside.marks.items c.args.voter ≡ Some c.args.mark = ap (λ (bs : List Mark). slice_get bs c.args.voter) c.self.view_is ∙ c.requires.there in
    omega (arith, slice_get_within c.self.inside.marks.items c.args.voter c.args.mark there, c.self.inside.marks.ok.0)

pub invariant_of-self : goal.invariant_of-self
invariant_of-self c =
    let there : slice_get c.self.inside.marks.items c.args.voter ≡ Some c.args.mark = ap (λ (bs : List Mark). slice_get bs c.args.voter) c.self.view_is ∙ c.requires.there in
    let bs = c.self.inside.marks.items in
    let ts = c.self.inside.tallies.items in
    let w = vote-weights c.args.hash.now bs c.args.voter c.args.mark there c.requires.is_open in
    record {
      fits = rw w.0 c.self.invariant.fits;
      pending = omega (arith, w.1, c.from-weight.ensures, c.self.invariant.pending);
      tallies = rw (c.add_vote.ensures.items, c.from-weight.ensures) (with_vote-tallies c.args.hash.now c.args.mark.weight bs (set bs c.args.voter (voting c.args.mark c.args.hash.now)) (vote-raises c.args.hash.now bs c.args.voter c.args.mark there c.requires.is_open) ts c.self.invariant.tallies);
      room = omega (arith, w.2, c.self.invariant.room, length-with_vote c.args.hash.now c.from-weight.result ts, ap (λ (xs : List Tally). length xs) c.add_vote.ensures.items, c.add_vote.ensures.capacity);
    }
