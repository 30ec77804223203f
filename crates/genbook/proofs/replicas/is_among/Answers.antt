use Rattle.std.proofs.Common.{◌∙◌}
use Rattle.genbook.proofs.Searching.{among_searched}
use Rattle.genbook.proofs.replicas.is_among.Goals as goal

pub returns : goal.returns
returns c =
    c.is_ok.ensures.value
    ∙ among_searched c.args.storages.now c.args.storage c.requires c.binary_search.result
    c.binary_search.ensures.bound c.binary_search.ensures.position
