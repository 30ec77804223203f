use Rattle.std.proofs.Common.{◌∙◌}
use Rattle.genbook.proofs.Storages.{among_numbers}
use Rattle.genbook.proofs.replicas.is_one_of.Goals as goal

pub returns : goal.returns
returns c = c.has_number.ensures ∙ among_numbers c.args.storage.0 c.args.storages.now
