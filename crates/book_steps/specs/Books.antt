-- What the operations of the book are to each repository of the cluster.
use Rattle.std.specs.Prelude.{ℕ, List, Option}
use Rattle.px_base.specs.declared.ids.RepoId.{RepoId}
use Rattle.px_base.specs.declared.ids.StorageId.{StorageId}
use Rattle.px_ops.specs.declared.op.Op.TheVariants as op
use Rattle.px_cluster.specs.Astray.{Happens}
use Rattle.px_cluster.specs.Cluster.{Cluster}
use Rattle.px_cluster.specs.Events.{Answer}
use Rattle.px_cluster.specs.Events as event
use Rattle.px_cluster.specs.Step.{Step}
use Rattle.cluster_history.specs.Goes.{GoesOn, IsSound, OpGoesOn}
use Rattle.cluster_history.specs.History.{Whole}
use Rattle.cluster_history.specs.Remembered.{after_move}

-- a storage is admitted
abbrev pub AdmitGoesOn : Type 0
AdmitGoesOn = (virt name : List ℕ) → OpGoesOn (op.Admit virt name)

-- a repository is created, for the first time or again
abbrev pub CreateGoesOn : Type 0
CreateGoesOn = (virt path : List ℕ) (factor : ℕ) → OpGoesOn (op.Create virt path factor)

-- a replica that was made is enrolled
abbrev pub EnrolGoesOn : Type 0
EnrolGoesOn = (repo : RepoId) (storage : StorageId) (lease : ℕ)
    → OpGoesOn (op.Enrol repo storage lease)

-- other storages are assigned
abbrev pub SetFactorGoesOn : Type 0
SetFactorGoesOn = (repo : RepoId) (factor : ℕ) → OpGoesOn (op.SetFactor repo factor)

-- a lease is drawn for a fence, so that what a replica holds is accepted after it
abbrev pub AcceptBeginGoesOn : Type 0
AcceptBeginGoesOn = (repo : RepoId) (storage : StorageId) → OpGoesOn (op.AcceptBegin repo storage)

-- .. or so that a doubt is settled
abbrev pub SettleBeginGoesOn : Type 0
SettleBeginGoesOn = (repo : RepoId) (storage : StorageId) → OpGoesOn (op.SettleBegin repo storage)

-- a doubt is settled by the last lease that the node answered to the fence
abbrev pub SettleGoesOn : Type 0
SettleGoesOn = (repo : RepoId) (storage : StorageId) (lease : ℕ) (last : Option ℕ)
    → OpGoesOn (op.Settle repo storage lease last)

-- .. or by the answer that is kept, where it is not refused; where it is, nothing happens
abbrev pub SettledGoesOn : Type 0
SettledGoesOn = (repo storage lease : ℕ) (whole : Whole) (answer : Answer) (new : Cluster)
    → IsSound whole → Step whole.cluster (event.Settled repo storage lease) answer new
    → GoesOn whole (after_move whole (Happens (event.Settled repo storage lease) answer) new)

-- what a replica holds is accepted as the newest generation
abbrev pub AcceptGoesOn : Type 0
AcceptGoesOn = (repo : RepoId) (storage : StorageId) (lease : ℕ)
    → OpGoesOn (op.Accept repo storage lease)
