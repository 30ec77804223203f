-- Which effect a delivery brings to which replica, where it was issued.
use Rattle.std.specs.Prelude.{ℕ, is_some, Bool, if◌then◌else◌, List, Option, None, Some}
use Rattle.px_base.specs.declared.hash.Hash.{Hash}
use Rattle.node_calls.specs.ReplicaState.{ReplicaState}
use Rattle.node_calls.specs.declared.snapshot.Snapshot.{Snapshot}
use Rattle.px_cluster.specs.Book.{Repository, has_replica_on}
use Rattle.px_cluster.specs.Cluster.{Cluster, Destination}
use Rattle.px_cluster.specs.Core.{repository}
use Rattle.px_cluster.specs.Events.{Event, Asks, Settled, Make, Prepare, Commit, Abort, Refs, TakeSnapshot, Apply, Remove, Fence, Restart}
use Rattle.px_cluster.specs.Ledger.{Purpose, commit_in, is_creation, is_delete_of, is_fence, is_push, snapshot_in, source_in}

-- a replica at its node: the repository with its path there, and the storage
pub record Location : Type 0 where
  pub repo : ℕ
  pub path : List ℕ
  pub storage : ℕ

-- an effect for a replica, under a lease
pub record Effect : Type 0 where
  pub at : Location
  pub lease : ℕ

abbrev pub location_in : Option Repository → ℕ → ℕ → Option Location
location_in None repo storage = None
location_in (Some book) repo storage =
    if has_replica_on book storage
    then Some (record { repo = repo; path = book.path; storage = storage })
    else None

-- the replica of a repository on a storage, where the storage is of its virtual storage
abbrev pub location_of : Cluster → ℕ → ℕ → Option Location
location_of cluster repo storage = location_in (repository cluster.core repo) repo storage

-- what the node has of the replica
abbrev pub state_at : Cluster → Location → ReplicaState
state_at cluster location = cluster.node location.storage location.path

abbrev pub purpose_at : Cluster → Effect → Purpose
purpose_at cluster effect =
    cluster.ledger effect.at.repo effect.at.storage effect.lease

-- ---- an effect is out where one of its kind was issued for the replica under the lease

abbrev pub issued_at : Cluster → (Purpose → Bool) → ℕ → Option Location → Option Effect
issued_at cluster test lease None = None
issued_at cluster test lease (Some location) =
    if test (cluster.ledger location.repo location.storage lease)
    then Some (record { at = location; lease = lease })
    else None

-- of the push of a transaction, for a storage
abbrev pub issued_to : Cluster → (Purpose → Bool) → ℕ → Option Destination → Option Effect
issued_to cluster test storage None = None
issued_to cluster test storage (Some destination) =
    issued_at cluster test destination.number (location_of cluster destination.repo storage)

-- of a job, under a lease that was drawn for it
abbrev pub issued_for : Cluster → (Purpose → Bool) → ℕ → Option Destination → Option Effect
issued_for cluster test lease None = None
issued_for cluster test lease (Some destination) =
    issued_at cluster test lease (location_of cluster destination.repo destination.number)

-- the effect of each event, where it was issued
abbrev pub effect_of : Cluster → Event → Option Effect
effect_of c (Asks op) = None
effect_of c (Settled repo storage lease) = None
effect_of c (Make storage repo lease) =
    issued_at c is_creation lease (location_of c repo storage)
effect_of c (Prepare tx storage push) = issued_to c is_push storage (c.pushed tx.0)
effect_of c (Commit tx storage) =
    issued_to c (λ purpose. is_some (commit_in purpose)) storage (c.pushed tx.0)
effect_of c (Abort tx storage) = issued_to c is_push storage (c.pushed tx.0)
effect_of c (Refs storage repo) = None
effect_of c (TakeSnapshot job lease) =
    issued_for c (λ purpose. is_some (source_in job purpose)) lease (c.worked job)
effect_of c (Apply job lease) =
    issued_for c (λ purpose. is_some (snapshot_in job purpose)) lease (c.worked job)
effect_of c (Remove job lease) = issued_for c (is_delete_of job) lease (c.worked job)
effect_of c (Fence storage repo lease) =
    issued_at c is_fence lease (location_of c repo storage)
effect_of c Restart = None

-- ---- what goes with it

-- the hash of the commit
abbrev pub hash_of : Cluster → Option Effect → Option Hash
hash_of cluster None = None
hash_of cluster (Some effect) = commit_in (purpose_at cluster effect)

-- the snapshot that is kept for the job
abbrev pub snapshot_of : Cluster → ℕ → Option Effect → Option Snapshot
snapshot_of cluster job None = None
snapshot_of cluster job (Some effect) = snapshot_in job (purpose_at cluster effect)

-- the replica that the job, as it was taken under this lease, copies from
abbrev pub source_at : Cluster → ℕ → Option ℕ → Option Location
source_at cluster repo None = None
source_at cluster repo (Some storage) = location_of cluster repo storage

abbrev pub source_of : Cluster → ℕ → Option Effect → Option Location
source_of cluster job None = None
source_of cluster job (Some effect) =
    source_at cluster effect.at.repo (source_in job (purpose_at cluster effect))
