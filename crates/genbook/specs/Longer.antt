-- The replicas of repositories as a storage is admitted.
use Rattle.std.specs.Prelude.{ℕ, if◌then◌else◌, List, [], ◌∷◌, ◌++◌, Option, None, Some}
use Rattle.std.specs.Str.{bytes_eq}
use Rattle.px_cluster.specs.Book.{Replica, Repository}
use Rattle.px_cluster.specs.Creating.{unrecorded}

-- one more, where the repository is of the virtual storage
abbrev pub longer_for : List ℕ → ℕ → Repository → Option (List Replica)
longer_for virt storage repo =
    if bytes_eq repo.virt virt then Some (repo.replicas ++ unrecorded storage ∷ []) else None

-- the repository with these replicas, where there are others
abbrev pub with_longer : Option (List Replica) → Repository → Repository
with_longer None repo = repo
with_longer (Some replicas) repo = record repo { replicas = replicas }

-- with the first of these
abbrev pub with_next : List (Option (List Replica)) → Repository → Repository
with_next [] repo = repo
with_next (longer ∷ others) repo = with_longer longer repo
