use Rattle.std.proofs.Common.{◌≡◌, ◌≤◌, ◌++◌, drop, length}
use Rattle.px_cluster.specs.Book.{is_of}
use Rattle.px_cluster.specs.Numbers.{places_from, places_of}
use Rattle.genbook.specs.Changes.{numbers_of}
use Rattle.genbook.proofs.creation.storages_of.Given as goal

abbrev pub invariant-loop-number : goal.invariant-loop-number
invariant-loop-number l = (numbers_of l.found ++ places_from l.number (is_of l.virt) (drop l.number l.storages) ≡ places_of (is_of l.virt) l.storages) × (length l.found ≤ l.number)
