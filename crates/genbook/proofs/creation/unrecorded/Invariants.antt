use Rattle.std.proofs.Common.{◌≡◌, map, take}
use Rattle.px_cluster.specs.Creating.{unrecorded}
use Rattle.genbook.specs.Changes.{numbers_of}
use Rattle.genbook.proofs.creation.unrecorded.Given as goal

abbrev pub invariant-loop-storage : goal.invariant-loop-storage
invariant-loop-storage l = l.replicas.items ≡ map unrecorded (numbers_of (take l.storage-index l.storages))
