-- What a replica may be brought up to date from.
use Rattle.std.specs.Prelude.{ℕ, ◌==◌, ◌&&◌, not, Bool}
use Rattle.px_cluster.specs.Book.{Replica, Repository}
use Rattle.px_cluster.specs.Core.{Core, is_current}

-- another current replica
abbrev pub is_source : Core → Repository → ℕ → Replica → Bool
is_source core repo target replica = is_current core repo replica && not (replica.storage == target)
