-- What operations issue to nodes and tell of them, by what is read of the core.
use Rattle.std.specs.Prelude.{◌≡◌, ℕ, Bool, true, false, Option, None, Some}
use Rattle.px_base.specs.declared.hash.Hash.{Hash}
use Rattle.px_base.specs.declared.ids.RepoId.{RepoId}
use Rattle.px_base.specs.declared.ids.StorageId.{StorageId}
use Rattle.px_ops.specs.declared.op.Op.{Op}
use Rattle.px_ops.specs.declared.op.Op.TheVariants as op
use Rattle.px_ops.specs.declared.refusal.Refusal.{Refusal}
use Rattle.px_ops.specs.declared.refusal.Refusal.TheVariants.{NotAcked}
use Rattle.px_ops.specs.declared.reply.Reply.TheVariants.{Refused}
use Rattle.issued.specs.Entries.{Entries}
use Rattle.issued.specs.Issued.{HasPushRoom, HasWorkRoom, with_work}
use Rattle.px_cluster.specs.Cluster.{Cluster}
use Rattle.px_cluster.specs.Core.{OpenPush}
use Rattle.px_cluster.specs.Issues.{issues_commit_at, issues_push}
use Rattle.px_cluster.specs.Ledger.{Deleting, Ledger, Purpose, Updating, is_committed}
use Rattle.px_core.specs.declared.work.Work.{Work}
use Rattle.script_rules.specs.declared.answer.Answer.{Answer}
use Rattle.script_rules.specs.declared.answer.Answer.TheVariants.{Replied}

-- the operation takes a storage in
abbrev pub IsAdmission : Op → Type 0
IsAdmission (op.Admit virt name) = Unit {0}
IsAdmission other = ⊥

-- what is answered where a node did not give the answer that is told of it: the operation's own
-- refusals come first
abbrev pub not_acked : Option Refusal → Answer
not_acked None = Replied (Refused NotAcked)
not_acked (Some why) = Replied (Refused why)

-- whether a voter may vote on what is committed, by the open push and the member that it is
abbrev pub may_confirm : Ledger → Option OpenPush → Option ℕ → Bool
may_confirm ledger None member = true
may_confirm ledger (Some push) None = false
may_confirm ledger (Some push) (Some storage) =
    is_committed (ledger push.repo storage push.lease)

-- the commit that is issued to a member of an open push
abbrev pub issues_to : Cluster → Option OpenPush → Option ℕ → Hash → Cluster
issues_to cluster None member hash = cluster
issues_to cluster (Some push) member hash = issues_commit_at cluster push member (Some hash)

-- there is room for what an open push may tell its members
abbrev pub HasRoomFor : Entries → Option OpenPush → Type 0
HasRoomFor entries None = Unit {0}
HasRoomFor entries (Some push) =
    HasPushRoom entries push.tx.0 push.repo push.members push.lease

-- what a push that began may tell its members is issued
abbrev pub begins_in : Cluster → Option OpenPush → Cluster
begins_in cluster None = cluster
begins_in cluster (Some push) = issues_push cluster push

-- ---- jobs

-- what the lease of a job that is taken is drawn for: a removal, or an update from a source
abbrev pub purpose_from : Work → Option StorageId → Purpose
purpose_from work None = Deleting work.job.number.0 false
purpose_from work (Some source) =
    Updating work.job.number.0 source.0 work.generation.0 None false

-- there is room for the calls of a job that is taken
abbrev pub HasRoomForWork : Entries → Work → Type 0
HasRoomForWork entries work =
    HasWorkRoom entries work.job.number.0 work.job.repo.0 work.job.target.0 work.lease

-- its calls are issued to its target
abbrev pub issues_to_target : Cluster → Work → Cluster
issues_to_target cluster work = with_work cluster work.job.number.0 work.job.repo.0
    work.job.target.0 work.lease (purpose_from work work.source)

-- ---- fences

-- the operation draws a lease for a fence of the storage
abbrev pub DrawsFence : Op → RepoId → StorageId → Type 0
DrawsFence (op.AcceptBegin its_repo its_storage) repo storage =
    (its_repo ≡ repo) × (its_storage ≡ storage)
DrawsFence (op.SettleBegin its_repo its_storage) repo storage =
    (its_repo ≡ repo) × (its_storage ≡ storage)
DrawsFence other repo storage = ⊥
