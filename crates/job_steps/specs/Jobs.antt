-- What the operations of jobs are to each repository of the cluster.
use Rattle.std.specs.Prelude.{ℕ, Bool, Option}
use Rattle.px_base.specs.declared.ids.JobId.{JobId}
use Rattle.px_base.specs.declared.ids.RepoId.{RepoId}
use Rattle.px_base.specs.declared.ids.StorageId.{StorageId}
use Rattle.px_ops.specs.declared.op.Op.TheVariants as op
use Rattle.cluster_history.specs.Goes.{OpGoesOn}

-- a worker asks for the next job of its storage: there is none, or the first one that is not passed
-- over is dropped, or an update or a delete is taken
abbrev pub DequeueGoesOn : Type 0
DequeueGoesOn = (target : StorageId) (now : ℕ) → OpGoesOn (op.Dequeue target now)

-- a job ends, well or badly
abbrev pub AckGoesOn : Type 0
AckGoesOn = (job : JobId) (lease : ℕ) (good : Bool) → OpGoesOn (op.Ack job lease good)

-- a worker tells that it is at work
abbrev pub BeatGoesOn : Type 0
BeatGoesOn = (job : JobId) (lease now : ℕ) → OpGoesOn (op.Beat job lease now)

-- the jobs of workers that are not heard of end badly
abbrev pub StaleGoesOn : Type 0
StaleGoesOn = (now span : ℕ) → OpGoesOn (op.Stale now span)

-- jobs are planned, for one repository or for all
abbrev pub ReconcileGoesOn : Type 0
ReconcileGoesOn = (only : Option RepoId) → OpGoesOn (op.Reconcile only)
