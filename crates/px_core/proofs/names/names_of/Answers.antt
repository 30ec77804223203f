use Rattle.std.proofs.Common.{◌≤◌, ◌∙◌, List, ap, arith, length, map}
use Rattle.std.proofs.lemmas.List.{take_all}
use Rattle.px_base.specs.declared.ids.StorageId.{StorageId}
use Rattle.px_cluster.specs.Core.{name_of}
use Rattle.genbook.specs.Books.{core_of}
use Rattle.px_core.proofs.ByNumbers.{map_numbers}
use Rattle.px_core.proofs.names.names_of.Goals as goal

pub returns : goal.returns
returns c =
    let storages = c.args.storages.now in
    let name = name_of (core_of c.args.book.now) in
    let passed : length storages ≤ c.loop-storage.storage-index =
    omega (arith, c.loop-storage.auto.storage-index-end, c.loop-storage-test.false) in
    c.loop-storage.invariant
    ∙ ap (λ (each : List StorageId). map (λ (storage : StorageId). name storage.0) each)
    (take_all c.loop-storage.storage-index storages passed)
    ∙ map_numbers name storages
