-- Which answers of nodes an operation asks for, and the operation as an event of the cluster.
use Rattle.std.specs.Prelude.{ℕ, is_some, is_none, not, Bool, true, false, List, Option, None, Some}
use Rattle.std.specs.Option.{option_or}
use Rattle.px_base.specs.declared.phase.Phase.TheVariants.{Prepared, Committed}
use Rattle.px_ops.specs.declared.job.Job.{Job}
use Rattle.px_ops.specs.declared.op.Op.{Op}
use Rattle.px_ops.specs.declared.op.Op.TheVariants as op
use Rattle.px_ops.specs.declared.refusal.Refusal.{Refusal}
use Rattle.px_ops.specs.declared.refusal.Refusal.TheVariants as refusal
use Rattle.px_ops.specs.declared.reply.Reply.{Reply}
use Rattle.txmanager.specs.Voting.{Voting}
use Rattle.px_cluster.specs.Casts.{member_named}
use Rattle.px_cluster.specs.Cluster.{Cluster}
use Rattle.px_cluster.specs.Core.{OpenPush, job_at, push_of, voting}
use Rattle.px_cluster.specs.Issues.{issues}
use Rattle.px_cluster.specs.Ledger.{fence_answer, is_committed, is_made, is_worked}
use Rattle.px_cluster.specs.Ops.{answer_of, left_by, refusal_of, told, unless_refused}
use Rattle.px_cluster.specs.Refusals.{cause}
use Rattle.px_cluster.specs.Repairs.{is_lease}

-- the node of a member has answered the commit of the push with a vote
abbrev pub has_committed : Cluster → OpenPush → Option ℕ → Bool
has_committed cluster push None = false
has_committed cluster push (Some storage) =
    is_committed (cluster.ledger push.repo storage push.lease)

-- of a transaction that is no push nothing is asked
abbrev pub commit_answered : Cluster → List ℕ → Option OpenPush → Option Voting → Bool
commit_answered cluster name None vote = true
commit_answered cluster name (Some push) None = true
commit_answered cluster name (Some push) (Some vote) =
    has_committed cluster push (member_named push vote name)

-- the target has applied the snapshot or removed the replica, for this job under this lease
abbrev pub work_answered : Cluster → ℕ → Option Job → Bool
work_answered cluster lease None = true
work_answered cluster lease (Some job) =
    is_worked job.number.0 (cluster.ledger job.repo.0 job.target.0 lease)

-- the node has answered the fence with this last lease
abbrev pub is_answer : Option ℕ → Option (Option ℕ) → Bool
is_answer last None = false
is_answer None (Some answer) = is_none answer
is_answer (Some lease) (Some answer) = is_lease lease answer

-- the nodes gave the answer that the operation tells of
abbrev pub is_answered : Cluster → Op → Bool
is_answered cluster (op.Cast tx voter Prepared hash) = true
is_answered cluster (op.Cast tx voter Committed hash) =
    commit_answered cluster voter (push_of cluster.core tx) (voting cluster.core tx)
is_answered cluster (op.Enrol repo storage lease) =
    is_made (cluster.ledger repo.0 storage.0 lease)
is_answered cluster (op.Ack job lease true) =
    work_answered cluster lease (job_at cluster.core job.0)
is_answered cluster (op.Accept repo storage lease) =
    is_some (fence_answer (cluster.ledger repo.0 storage.0 lease))
is_answered cluster (op.Settle repo storage lease last) =
    is_answer last (fence_answer (cluster.ledger repo.0 storage.0 lease))
is_answered cluster other = true

-- ---- an operation as an event

-- the refusals of the operation come first
abbrev pub event_refusal : Cluster → Op → Option Refusal
event_refusal cluster asked = option_or (refusal_of cluster.core asked)
    (cause (not (is_answered cluster asked)) refusal.NotAcked)

abbrev pub op_reply : Cluster → Op → Reply
op_reply cluster asked =
    told (event_refusal cluster asked) (answer_of cluster.core asked)

-- the core takes the step, and what the operation issues is in the ledger
abbrev pub done_in : Cluster → Op → Cluster
done_in cluster asked = record (issues cluster asked) { core = left_by cluster.core asked }

abbrev pub op_next : Cluster → Op → Cluster
op_next cluster asked =
    unless_refused (event_refusal cluster asked) cluster (done_in cluster asked)
