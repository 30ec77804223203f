use Rattle.std.proofs.Common.{inr, sym, ◌∙◌}
use Rattle.refstore.proofs.Creations.{refusal_of-conflict}
use Rattle.refstore.proofs.refs.add.Goals as goal

pub returns-in-Some-clause-refused : goal.returns-in-Some-clause-refused
returns-in-Some-clause-refused c =
    inr (refusal_of-conflict c.args.map.now c.args.name c.args.id c.requires.some c.requires.absent
    c.in-Some.with (sym c.in_ok-with.ensures ∙ c.in-Some.is))
