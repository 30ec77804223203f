use Rattle.std.proofs.Common.{◌≡◌, map, take}
use Rattle.px_base.specs.declared.ids.StorageId.{StorageId}
use Rattle.px_cluster.specs.Core.{name_of}
use Rattle.genbook.specs.Books.{core_of}
use Rattle.px_core.proofs.names.names_of.Given as goal

-- the names of those so far
abbrev pub invariant-loop-storage : goal.invariant-loop-storage
invariant-loop-storage l = l.names
    ≡ map (λ (storage : StorageId). name_of (core_of l.book) storage.0)
    (take l.storage-index l.storages)
