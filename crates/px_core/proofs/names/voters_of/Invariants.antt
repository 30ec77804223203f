use Rattle.std.proofs.Common.{◌≡◌, ◌∷◌, length, map, max, take}
use Rattle.px_base.specs.declared.ids.StorageId.{StorageId}
use Rattle.px_cluster.specs.Members.{voter_with}
use Rattle.genbook.specs.Books.{core_of}
use Rattle.px_core.proofs.names.voters_of.Given as goal

-- the primary, and the secondaries so far
abbrev pub invariant-loop-storage : goal.invariant-loop-storage
invariant-loop-storage l = l.voters.items
    ≡ voter_with (core_of l.book) (max 1 (length l.secondaries)) l.fn.primary.0
    ∷ map (λ (storage : StorageId). voter_with (core_of l.book) 1 storage.0)
    (take l.storage-index l.secondaries)
