-- What a delivery is to each repository of the cluster: events of the one that it is for, whatever
-- is answered, and also where the answer is lost.
use Rattle.std.specs.Prelude.{ℕ}
use Rattle.px_base.specs.declared.ids.TxId.{TxId}
use Rattle.px_base.specs.declared.push.Push.{Push}
use Rattle.px_cluster.specs.Events as event
use Rattle.cluster_history.specs.Goes.{DeliveryGoesOn, UnansweredGoesOn}

-- ---- a replica is made

abbrev pub MakeGoesOn : Type 0
MakeGoesOn = (storage repo lease : ℕ) → DeliveryGoesOn (event.Make storage repo lease)

abbrev pub UnansweredMakeGoesOn : Type 0
UnansweredMakeGoesOn =
    (storage repo lease : ℕ) → UnansweredGoesOn (event.Make storage repo lease)

-- ---- a push is made ready, done, or dropped

abbrev pub PrepareGoesOn : Type 0
PrepareGoesOn =
    (tx : TxId) (storage : ℕ) (push : Push) → DeliveryGoesOn (event.Prepare tx storage push)

abbrev pub UnansweredPrepareGoesOn : Type 0
UnansweredPrepareGoesOn =
    (tx : TxId) (storage : ℕ) (push : Push) → UnansweredGoesOn (event.Prepare tx storage push)

abbrev pub AbortGoesOn : Type 0
AbortGoesOn = (tx : TxId) (storage : ℕ) → DeliveryGoesOn (event.Abort tx storage)

abbrev pub UnansweredAbortGoesOn : Type 0
UnansweredAbortGoesOn = (tx : TxId) (storage : ℕ) → UnansweredGoesOn (event.Abort tx storage)

abbrev pub CommitGoesOn : Type 0
CommitGoesOn = (tx : TxId) (storage : ℕ) → DeliveryGoesOn (event.Commit tx storage)

abbrev pub UnansweredCommitGoesOn : Type 0
UnansweredCommitGoesOn = (tx : TxId) (storage : ℕ) → UnansweredGoesOn (event.Commit tx storage)

-- ---- a fence is raised

abbrev pub FenceGoesOn : Type 0
FenceGoesOn = (storage repo lease : ℕ) → DeliveryGoesOn (event.Fence storage repo lease)

abbrev pub UnansweredFenceGoesOn : Type 0
UnansweredFenceGoesOn =
    (storage repo lease : ℕ) → UnansweredGoesOn (event.Fence storage repo lease)

-- ---- references are read

abbrev pub RefsGoOn : Type 0
RefsGoOn = (storage repo : ℕ) → DeliveryGoesOn (event.Refs storage repo)

-- ---- the work of a job

abbrev pub ApplyGoesOn : Type 0
ApplyGoesOn = (job lease : ℕ) → DeliveryGoesOn (event.Apply job lease)

abbrev pub UnansweredApplyGoesOn : Type 0
UnansweredApplyGoesOn = (job lease : ℕ) → UnansweredGoesOn (event.Apply job lease)

abbrev pub RemoveGoesOn : Type 0
RemoveGoesOn = (job lease : ℕ) → DeliveryGoesOn (event.Remove job lease)

abbrev pub UnansweredRemoveGoesOn : Type 0
UnansweredRemoveGoesOn = (job lease : ℕ) → UnansweredGoesOn (event.Remove job lease)

abbrev pub SnapshotGoesOn : Type 0
SnapshotGoesOn = (job lease : ℕ) → DeliveryGoesOn (event.TakeSnapshot job lease)
