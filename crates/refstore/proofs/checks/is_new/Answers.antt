use Rattle.std.proofs.Common.{ap, ◌∙◌, not}
use Rattle.refstore.proofs.NamesMet.{Named-more}
use Rattle.refstore.proofs.checks.is_new.Goals as goal

pub returns : goal.returns
returns c = λ before named. (
  c.in_ok-insert.ensures.added ∙ ap not (named c.args.name),
  Named-more c.args.names.now c.insert.new.self c.args.name.now before c.in_ok-insert.ensures.updates.0 named,
)
