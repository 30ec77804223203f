use Rattle.std.proofs.Common.{◌∙◌, ap}
use Rattle.px_cluster.specs.Creating.{is_at_path}
use Rattle.genbook.specs.Places.{checked}
use Rattle.genbook.proofs.Found.{repository_checked}
use Rattle.genbook.proofs.index.repository_at.Goals as goal

pub returns : goal.returns
returns c =
    c.checked_path.ensures
    ∙ ap (checked (is_at_path c.args.virt.now c.args.path.now) c.args.repositories.now) c.number_at.ensures
    ∙ repository_checked c.args.paths.now.entries c.args.repositories.now c.args.virt.now c.args.path.now c.requires
