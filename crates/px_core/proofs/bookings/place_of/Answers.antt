use Rattle.std.proofs.Common.{◌∙◌, rules, tests}
use Rattle.std.specs.Prelude.{◌==◌}
use Rattle.std.proofs.lemmas.Iterator.{YieldsList-from_slice}
use Rattle.std.proofs.lemmas.Iterator.Search.{position_from_yields_List}
use Rattle.px_base.specs.declared.ids.StorageId.{StorageId}
use Rattle.px_core.proofs.ByNumbers.{place_is}
use Rattle.px_core.proofs.bookings.place_of.Goals as goal

pub returns : goal.returns
returns c =
    position_from_yields_List (λ (member : StorageId). member.0 == c.args.storage.0) _ _
    c.position.result c.position.ensures.ran
    (YieldsList-from_slice c.args.members.now (cc)) (λ x b q k. search (rules, tests))
    ∙ place_is c.args.members.now c.args.storage.0
