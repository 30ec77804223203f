-- The form of the book: a repository has a replica for each storage of its virtual storage and for no
-- other, some storage is assigned, and a path is given once.
use Rattle.std.specs.Prelude.{◌≡◌, ℕ, true, map, List, Some}
use Rattle.std.specs.List.{AllByRecursion, list_any}
use Rattle.px_cluster.specs.Book.{Replica, Repository, Storage, storages_of}
use Rattle.px_cluster.specs.Core.{Core, repository}

-- the storages of the replicas, as they stand
abbrev pub storages_in : Repository → List ℕ
storages_in repo = map (λ (replica : Replica). replica.storage) repo.replicas

-- a replica for each storage of the virtual storage, in their order, and for no other one: so what is
-- assigned is of the virtual storage too
abbrev pub IsDense : List Storage → Repository → Type 0
IsDense storages repo = storages_in repo ≡ storages_of storages repo.virt

-- at least one storage is assigned
abbrev pub HasAssigned : Repository → Type 0
HasAssigned repo = list_any (λ (replica : Replica). replica.assigned) repo.replicas ≡ true

pub record AreBooks (core : Core) : Type 0 where
  pub dense : AllByRecursion (IsDense core.storages) core.repositories
  pub assigned : AllByRecursion HasAssigned core.repositories
  -- two repositories of one virtual storage have two paths
  pub apart : (one other : ℕ) (a b : Repository) → repository core one ≡ Some a
      → repository core other ≡ Some b → a.virt ≡ b.virt → a.path ≡ b.path → one ≡ other
