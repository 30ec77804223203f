use Rattle.std.proofs.Common.{rules, tests, ◌∙◌, ap}
use Rattle.std.specs.Prelude.{◌==◌}
use Rattle.std.proofs.lemmas.Iterator.{YieldsList-from_slice}
use Rattle.std.proofs.lemmas.Iterator.Search.{any_from_yields_List}
use Rattle.px_base.specs.declared.ids.StorageId.{StorageId}
use Rattle.px_cluster.specs.Numbers.{is_one_of}
use Rattle.reconciler.proofs.StoragesOf.{among_numbers}
use Rattle.reconciler.proofs.known.is_member.Goals as goal

pub returns : goal.returns
returns c =
    let storage = c.args.storage.0 in
    any_from_yields_List (λ (member : StorageId). member.0 == storage) _ _ _ c.any.ensures.ran
    (YieldsList-from_slice c.members.result.now (cc)) (λ x b q k. search (rules, tests))
    ∙ among_numbers storage c.members.result.now
    ∙ ap (is_one_of storage) c.members.ensures
