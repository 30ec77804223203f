-- How many storages a virtual storage has.
use Rattle.std.specs.Prelude.{◌≤◌, ℕ, List, length}
use Rattle.px_cluster.specs.Book.{storages_of}
use Rattle.px_cluster.specs.Core.{Core}

-- at most 64, so that all of them can vote on one push
abbrev pub AreFew : Core → Type 0
AreFew core = (virt : List ℕ) → length (storages_of core.storages virt) ≤ 64
