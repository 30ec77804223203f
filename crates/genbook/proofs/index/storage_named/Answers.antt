use Rattle.std.proofs.Common.{◌∙◌, ap}
use Rattle.px_cluster.specs.Creating.{has_name}
use Rattle.genbook.specs.Places.{checked}
use Rattle.genbook.proofs.Found.{storage_checked}
use Rattle.genbook.proofs.index.storage_named.Goals as goal

pub returns : goal.returns
returns c =
    c.checked_name.ensures
    ∙ ap (checked (has_name c.args.name.now) c.args.storages.now) c.number_of.ensures
    ∙ storage_checked c.args.names.now.entries c.args.storages.now c.args.name.now c.requires
