-- The ledger names only leases that were drawn, for storages of a repository on record; and the lease of
-- an open push is used at its members alone.
use Rattle.std.specs.Prelude.{◌≡◌, ◌≤◌, ℕ, Bool, true, false}
use Rattle.std.specs.List.{AllByRecursion}
use Rattle.px_cluster.specs.Cluster.{Cluster}
use Rattle.px_cluster.specs.Core.{Core, OpenPush}
use Rattle.px_cluster.specs.Ledger.{Creation, Deleting, Fencing, Ledger, Purpose, Pushing, Unused, Updating}
use Rattle.px_cluster.specs.Numbers.{is_one_of}
use Rattle.cluster_form.specs.Homes.{IsHome}

-- the lease was drawn for something
abbrev pub is_used : Purpose → Bool
is_used Unused = false
is_used (Creation made) = true
is_used (Pushing begun commit answered) = true
is_used (Updating job source generation kept answered) = true
is_used (Deleting job answered) = true
is_used (Fencing last) = true

-- the storage is of the repository's virtual storage, and the lease is at most the last of the
-- repository
pub record IsDrawn (core : Core) (repo storage lease : ℕ) : Type 0 where
  pub home : IsHome core repo storage
  pub drawn : lease ≤ home.book.last

abbrev pub AreUsesDrawn : Core → Ledger → Type 0
AreUsesDrawn core ledger = (repo storage lease : ℕ)
    → is_used (ledger repo storage lease) ≡ true → IsDrawn core repo storage lease

-- under the lease of a push nothing was issued but to its members
abbrev pub IsOfMembers : Ledger → OpenPush → Type 0
IsOfMembers ledger push = (storage : ℕ)
    → is_used (ledger push.repo storage push.lease) ≡ true
    → is_one_of storage push.members ≡ true

abbrev pub AreOfMembers : Core → Ledger → Type 0
AreOfMembers core ledger = AllByRecursion (IsOfMembers ledger) core.pushes

-- both of a cluster
pub record AreLeasesDrawn (cluster : Cluster) : Type 0 where
  pub uses : AreUsesDrawn cluster.core cluster.ledger
  pub members : AreOfMembers cluster.core cluster.ledger
