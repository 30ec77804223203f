use Rattle.std.proofs.Common.{ap, ◌∙◌, List}
use Rattle.voters.specs.Marks.{standing_weight}
use Rattle.voters.specs.Tallies.{tally_of}
use Rattle.voters.specs.declared.mark.Mark.{Mark}
use Rattle.voters.specs.declared.tally.Tally.{Tally}
use Rattle.voters.proofs.TallyLemmas.{tally_of-is}
use Rattle.voters.proofs.count.Count.standing.Goals as goal

pub returns : goal.returns
returns c =
    c.weight_for.ensures
    ∙ ap (λ (ts : List Tally). tally_of c.args.hash.now ts) c.deref.ensures.value
    ∙ tally_of-is c.self.inside.marks.items c.self.inside.tallies.items c.self.invariant.tallies c.args.hash.now
    ∙ ap (λ (bs : List Mark). standing_weight c.args.hash.now bs) c.self.view_is
