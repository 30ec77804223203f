-- Which effects an operation issues: they are in the ledger from then on.
use Rattle.std.specs.Prelude.{ℕ, ◌+◌, ◌==◌, false, if◌then◌else◌, List, Option, None, Some, Result, Ok}
use Rattle.px_base.specs.declared.hash.Hash.{Hash}
use Rattle.px_ops.specs.declared.job.Job.{Job}
use Rattle.px_ops.specs.declared.op.Op.{Op}
use Rattle.px_ops.specs.declared.op.Op.TheVariants as op
use Rattle.txmanager.specs.Voting.{Voting, collect_answer}
use Rattle.txmanager.specs.declared.refusal.TxRefusal.{TxRefusal}
use Rattle.voters.specs.declared.voter_result.VoterResult.{VoterResult}
use Rattle.voters.specs.declared.voter_result.VoterResult.TheVariants as result
use Rattle.px_cluster.specs.Book.{Repository}
use Rattle.px_cluster.specs.Casts.{member_named}
use Rattle.px_cluster.specs.Cluster.{Cluster, with_ledger, with_value}
use Rattle.px_cluster.specs.Core.{OpenPush, push_of, repository, voting}
use Rattle.px_cluster.specs.Creating.{assigned_for, before_create, number_for}
use Rattle.px_cluster.specs.Ledger.{Creation, Deleting, Fencing, Purpose, Pushing, Updating, with_commit, with_purpose, with_purposes}
use Rattle.px_cluster.specs.Numbers.{is_one_of}
use Rattle.px_cluster.specs.Pushes.{beginning}
use Rattle.px_cluster.specs.Taking.{Drop, Next, PassOver, Take, Taking, next_job}

-- the lease was drawn for this purpose, at each storage of a list
abbrev pub with_drawn : Cluster → ℕ → List ℕ → ℕ → Purpose → Cluster
with_drawn cluster repo storages lease purpose = with_ledger cluster
    (with_purposes cluster.ledger repo (λ storage. is_one_of storage storages) lease
    (λ storage old. purpose))

-- ---- a create for each storage that is assigned

abbrev pub issues_creates : Cluster → (virt path : List ℕ) → (factor : ℕ) → Cluster
issues_creates cluster virt path factor = with_drawn cluster (number_for cluster.core virt path)
    (assigned_for cluster.core virt factor) ((before_create cluster.core virt path).last + 1)
    (Creation false)

-- ---- a prepare and an abort for each member of a push

abbrev pub issues_push : Cluster → OpenPush → Cluster
issues_push cluster push =
    record (with_drawn cluster push.repo push.members push.lease (Pushing push.begun None false)) {
      pushed = with_value cluster.pushed push.tx.0
          (Some (record { repo = push.repo; number = push.lease }));
    }

abbrev pub issues_begin : Cluster → ℕ → Option Repository → Cluster
issues_begin cluster repo None = cluster
issues_begin cluster repo (Some book) = issues_push cluster (beginning cluster.core repo book)

-- ---- a commit for a member that is told to commit, in the prepared phase

-- the hash of a voter that is told to commit
abbrev pub told_hash : Result VoterResult TxRefusal → Option Hash
told_hash (Ok (result.Committed verdict)) = Some verdict.hash
told_hash other = None

abbrev pub issues_commit_at : Cluster → OpenPush → Option ℕ → Option Hash → Cluster
issues_commit_at cluster push None hash = cluster
issues_commit_at cluster push (Some storage) None = cluster
issues_commit_at cluster push (Some storage) (Some hash) = with_ledger cluster
    (with_purposes cluster.ledger push.repo (λ other. other == storage) push.lease
    (λ other purpose. with_commit hash purpose))

abbrev pub issues_commit : Cluster → List ℕ → ℕ → Option OpenPush → Option Voting → Cluster
issues_commit cluster name sub None vote = cluster
issues_commit cluster name sub (Some push) None = cluster
issues_commit cluster name sub (Some push) (Some vote) =
    if sub == 1
    then issues_commit_at cluster push (member_named push vote name)
    (told_hash (collect_answer name sub vote))
    else cluster

-- ---- the calls of a job that is taken, for its target

abbrev pub purpose_of : Job → Repository → Option ℕ → Purpose
purpose_of job book None = Deleting job.number.0 false
purpose_of job book (Some source) = Updating job.number.0 source book.newest None false

abbrev pub issues_work_in : Cluster → Job → Option ℕ → Option Repository → Cluster
issues_work_in cluster job source None = cluster
issues_work_in cluster job source (Some book) =
    record (with_ledger cluster (with_purpose cluster.ledger job.repo.0 job.target.0 (book.last + 1)
    (purpose_of job book source))) {
      worked = with_value cluster.worked job.number.0
          (Some (record { repo = job.repo.0; number = job.target.0 }));
    }

abbrev pub issues_taking : Cluster → Job → Taking → Cluster
issues_taking cluster job PassOver = cluster
issues_taking cluster job Drop = cluster
issues_taking cluster job (Take source) =
    issues_work_in cluster job source (repository cluster.core job.repo.0)

abbrev pub issues_work : Cluster → Option Next → Cluster
issues_work cluster None = cluster
issues_work cluster (Some next) = issues_taking cluster next.job next.taking

-- ---- a fence

abbrev pub issues_fence : Cluster → ℕ → ℕ → Option Repository → Cluster
issues_fence cluster repo storage None = cluster
issues_fence cluster repo storage (Some book) = with_ledger cluster
    (with_purpose cluster.ledger repo storage (book.last + 1) (Fencing None))

-- ---- by the core before the operation

abbrev pub issues : Cluster → Op → Cluster
issues cluster (op.Create virt path factor) = issues_creates cluster virt path factor
issues cluster (op.Begin repo) = issues_begin cluster repo.0 (repository cluster.core repo.0)
issues cluster (op.Collect tx voter sub) =
    issues_commit cluster voter sub (push_of cluster.core tx) (voting cluster.core tx)
issues cluster (op.Dequeue target now) = issues_work cluster (next_job cluster.core target.0)
issues cluster (op.AcceptBegin repo storage) =
    issues_fence cluster repo.0 storage.0 (repository cluster.core repo.0)
issues cluster (op.SettleBegin repo storage) =
    issues_fence cluster repo.0 storage.0 (repository cluster.core repo.0)
issues cluster other = cluster
