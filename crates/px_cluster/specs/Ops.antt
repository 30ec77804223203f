-- The operations of the core: when each is refused, what it answers, and what it leaves.
use Rattle.std.specs.Prelude.{ℕ, ◌+◌, not, is_none, true, List, [], ◌∷◌, length, map, set, Option, None, Some, Result, Ok, Err}
use Rattle.std.specs.Option.{option_map, option_or}
use Rattle.px_base.specs.declared.ids.TxId.{TxId}
use Rattle.px_base.specs.declared.voter.Voter.{Voter}
use Rattle.px_ops.specs.declared.op.Op.{Op}
use Rattle.px_ops.specs.declared.op.Op.TheVariants as op
use Rattle.px_ops.specs.declared.refusal.Refusal.{Refusal}
use Rattle.px_ops.specs.declared.refusal.Refusal.TheVariants as refusal
use Rattle.px_ops.specs.declared.reply.Reply.{Reply}
use Rattle.px_ops.specs.declared.reply.Reply.TheVariants as reply
use Rattle.txmanager.specs.Registry.{answer_at, are_lawful_rounds, with_changed, with_registered}
use Rattle.txmanager.specs.VoterCalls as by
use Rattle.txmanager.specs.Voting as on
use Rattle.txmanager.specs.declared.refusal.TxRefusal.{TxRefusal}
use Rattle.voters.specs.Panel.{panel_refusal}
use Rattle.voters.specs.declared.outcome.Outcome.{Outcome}
use Rattle.voters.specs.declared.voter_result.VoterResult.{VoterResult}
use Rattle.px_cluster.specs.Book.{Repository, booking_on, with_replica_on}
use Rattle.px_cluster.specs.Casts.{with_cast}
use Rattle.px_cluster.specs.Core.{Core, OpenPush, job_at, known_name, names_of, push_of, repository, turn_of, voting, with_book_changed, with_push_changed}
use Rattle.px_cluster.specs.Creating.{admit_refusal, admitted, create_refusal, create_reply, created, enrol_refusal, enrolled, found}
use Rattle.px_cluster.specs.Factor.{assignment, factor_refusal, reassigned}
use Rattle.px_cluster.specs.Ids.{gen, repo_id, repo_number, storage_id}
use Rattle.px_cluster.specs.Jobs.{beaten, end_reply, ended_job, stale_numbers, with_job_changed, without_stale, worker_refusal}
use Rattle.px_cluster.specs.Plan.{plan, told_of, with_plan}
use Rattle.px_cluster.specs.Pushes.{begin_refusal, beginning, begun_at, begun_reply, ended, finish_refusal, finish_reply, next_tx}
use Rattle.px_cluster.specs.Reads.{booked_reply, read_refusal, read_reply, with_read}
use Rattle.px_cluster.specs.Refusals.{cause, first_cause, of_panel, refusal_in, transactions_spent}
use Rattle.px_cluster.specs.Repairs.{accept_begin_refusal, accept_refusal, settle_begin_refusal, settle_refusal, settled_as, with_accepted, with_fence_drawn, with_settled}
use Rattle.px_cluster.specs.Taking.{dequeue_reply, dequeued, next_job, spent_for}

-- ---- refusals

abbrev pub no_storage : Core → ℕ → Option Refusal
no_storage core storage = cause (is_none (known_name core storage)) (refusal.UnknownStorage None)

abbrev pub no_repository : Core → ℕ → Option Refusal
no_repository core repo = cause (is_none (repository core repo)) refusal.UnknownRepo

abbrev pub none_found : Option ℕ → Option Refusal
none_found repo = cause (is_none repo) refusal.UnknownRepo

-- what a transaction refuses, where there is one
abbrev pub refused_at : {A : Type 0} → Core → TxId → (on.Voting → Result A TxRefusal)
    → Option Refusal
refused_at core tx answer = refusal_in (answer_at (voting core tx) tx answer)

abbrev pub open_refusal : Core → ℕ → ℕ → List Voter → Option Refusal
open_refusal core threshold rounds voters = first_cause (
    of_panel (panel_refusal voters threshold)
    ∷ cause (not (are_lawful_rounds rounds)) (refusal.BadRounds rounds)
    ∷ transactions_spent core.last_tx ∷ [])

-- the transaction of a push is ended by Finish
abbrev pub is_push : Option OpenPush → Option Refusal
is_push None = None
is_push (Some push) = Some refusal.IsPush

abbrev pub refusal_of : Core → Op → Option Refusal
refusal_of core (op.Admit virt name) = admit_refusal core virt name
refusal_of core (op.Health storage up) = no_storage core storage.0
refusal_of core (op.Open threshold rounds voters) = open_refusal core threshold rounds voters
refusal_of core (op.Cast tx voter phase hash) =
    refused_at core tx (by.cast_answer voter phase hash)
refusal_of core (op.Withdraw tx voter) = refused_at core tx (by.cancel_voter_answer voter)
refusal_of core (op.Cancel tx) = refused_at core tx on.done
refusal_of core (op.Stop tx) = refused_at core tx on.stop_answer
refusal_of core (op.Collect tx voter sub) = refused_at core tx (on.collect_answer voter sub)
refusal_of core (op.Outcome tx sub) = refused_at core tx (on.outcome_answer sub)
refusal_of core (op.Close tx) = option_or (refused_at core tx on.done) (is_push (push_of core tx))
refusal_of core (op.Create virt path factor) = create_refusal core virt path factor
refusal_of core (op.Enrol repo storage lease) =
    enrol_refusal core (repository core repo.0) storage.0 lease
refusal_of core (op.Begin repo) = begin_refusal core repo.0 (repository core repo.0)
refusal_of core (op.Finish tx) = finish_refusal tx (voting core tx) (push_of core tx)
refusal_of core (op.Dequeue target now) =
    option_or (no_storage core target.0) (spent_for core (next_job core target.0))
refusal_of core (op.Beat job lease now) = worker_refusal job lease (job_at core job.0)
refusal_of core (op.Ack job lease good) = worker_refusal job lease (job_at core job.0)
refusal_of core (op.Stale now after) = None
refusal_of core (op.Reconcile only) = None
refusal_of core (op.RouteRead repo) = read_refusal core repo.0 (repository core repo.0)
refusal_of core (op.SetFactor repo factor) =
    factor_refusal core repo.0 (repository core repo.0) factor
refusal_of core (op.AcceptBegin repo storage) =
    accept_begin_refusal core repo.0 (repository core repo.0) storage.0
refusal_of core (op.Accept repo storage lease) =
    accept_refusal core repo.0 (repository core repo.0) storage.0 lease
refusal_of core (op.SettleBegin repo storage) =
    settle_begin_refusal core repo.0 (repository core repo.0) storage.0
refusal_of core (op.Settle repo storage lease last) =
    settle_refusal core (repository core repo.0) storage.0 lease
refusal_of core (op.Booked repo) = no_repository core repo.0
refusal_of core (op.Find virt path) = none_found (found core virt path)
refusal_of core (op.Holder repo) = no_repository core repo.0

-- ---- what is answered, where nothing refuses it

-- the number of the subtransaction, and the result there
abbrev pub counted : Result (ℕ × VoterResult) TxRefusal → Reply
counted (Ok answer) = reply.Counted answer.0 answer.1
counted (Err why) = reply.Done

abbrev pub collected : ℕ → Result VoterResult TxRefusal → Reply
collected sub (Ok result) = reply.Counted sub result
collected sub (Err why) = reply.Done

abbrev pub outcome_told : Result Outcome TxRefusal → Reply
outcome_told (Ok outcome) = reply.OutcomeIs outcome
outcome_told (Err why) = reply.Done

-- the answer about a repository, where there is one
abbrev pub about : {A : Type 0} → Option A → (A → Reply) → Reply
about None answer = reply.Done
about (Some book) answer = answer book

abbrev pub holder : Option OpenPush → Option TxId
holder push = option_map (λ (open_ : OpenPush). open_.tx) push

abbrev pub next_lease : Repository → Reply
next_lease book = reply.Leased (book.last + 1)

abbrev pub answer_of : Core → Op → Reply
answer_of core (op.Admit virt name) = reply.Storage (storage_id (length core.storages))
answer_of core (op.Health storage up) = reply.Done
answer_of core (op.Open threshold rounds voters) = reply.Opened (next_tx core)
answer_of core (op.Cast tx voter phase hash) =
    counted (answer_at (voting core tx) tx (by.cast_answer voter phase hash))
answer_of core (op.Withdraw tx voter) = reply.Done
answer_of core (op.Cancel tx) = reply.Done
answer_of core (op.Stop tx) = reply.Done
answer_of core (op.Collect tx voter sub) =
    collected sub (answer_at (voting core tx) tx (on.collect_answer voter sub))
answer_of core (op.Outcome tx sub) =
    outcome_told (answer_at (voting core tx) tx (on.outcome_answer sub))
answer_of core (op.Close tx) = reply.Done
answer_of core (op.Create virt path factor) = create_reply core virt path factor
answer_of core (op.Enrol repo storage lease) = reply.Done
answer_of core (op.Begin repo) = about (repository core repo.0)
    (λ book. begun_reply core (beginning core repo.0 book) book)
answer_of core (op.Finish tx) = finish_reply (voting core tx) (push_of core tx)
answer_of core (op.Dequeue target now) = dequeue_reply core (next_job core target.0) now
answer_of core (op.Beat job lease now) = reply.Done
answer_of core (op.Ack job lease good) = end_reply good (job_at core job.0)
answer_of core (op.Stale now after) = reply.StaleIs (stale_numbers now after core)
answer_of core (op.Reconcile only) =
    reply.JobsAre (map (told_of core) (plan core (repo_number only)))
answer_of core (op.RouteRead repo) = about (repository core repo.0) (read_reply core repo.0)
answer_of core (op.SetFactor repo factor) = about (repository core repo.0)
    (λ book. reply.Assigned (names_of core (assignment core book factor)))
answer_of core (op.AcceptBegin repo storage) = about (repository core repo.0) next_lease
answer_of core (op.Accept repo storage lease) =
    about (repository core repo.0) (λ book. reply.Accepted (gen (book.newest + 1)))
answer_of core (op.SettleBegin repo storage) = about (repository core repo.0) next_lease
answer_of core (op.Settle repo storage lease last) = about (repository core repo.0)
    (λ book. reply.BookedIs (settled_as last (booking_on book storage.0)))
answer_of core (op.Booked repo) = about (repository core repo.0) (booked_reply core)
answer_of core (op.Find virt path) =
    about (found core virt path) (λ repo. reply.Repo (repo_id repo))
answer_of core (op.Holder repo) = reply.HolderIs (holder (turn_of core repo.0))

-- ---- what is left, where nothing refuses it

abbrev pub with_voting : TxId → (on.Voting → on.Voting) → Core → Core
with_voting tx change core =
    record core { transactions = with_changed core.transactions tx change }

abbrev pub with_opened : ℕ → ℕ → List Voter → Core → Core
with_opened threshold rounds voters core = record core {
  last_tx = core.last_tx + 1;
  transactions = with_registered core.transactions (next_tx core)
      (on.voting_on (record { voters = voters; threshold = threshold }) rounds);
}

abbrev pub left_by : Core → Op → Core
left_by core (op.Admit virt name) = admitted virt name core
left_by core (op.Health storage up) = record core { health = set core.health storage.0 up }
left_by core (op.Open threshold rounds voters) = with_opened threshold rounds voters core
left_by core (op.Cast tx voter phase hash) = with_cast tx voter phase hash core
left_by core (op.Withdraw tx voter) = with_voting tx (by.after_cancel_voter voter) core
left_by core (op.Cancel tx) = with_push_changed tx (λ push. record push { canceled = true })
    (with_voting tx on.after_cancel core)
left_by core (op.Stop tx) = with_push_changed tx (λ push. record push { stopped = true })
    (with_voting tx on.after_stop core)
left_by core (op.Collect tx voter sub) = core
left_by core (op.Outcome tx sub) = core
left_by core (op.Close tx) = ended tx core
left_by core (op.Create virt path factor) = created virt path factor core
left_by core (op.Enrol repo storage lease) =
    with_book_changed repo.0 (with_replica_on storage.0 enrolled) core
left_by core (op.Begin repo) = begun_at repo.0 (repository core repo.0) core
left_by core (op.Finish tx) = ended tx core
left_by core (op.Dequeue target now) = dequeued (next_job core target.0) now core
left_by core (op.Beat job lease now) = with_job_changed job (beaten now) core
left_by core (op.Ack job lease good) = ended_job good (job_at core job.0) core
left_by core (op.Stale now after) = without_stale now after core
left_by core (op.Reconcile only) = with_plan (plan core (repo_number only)) core
left_by core (op.RouteRead repo) = with_read repo.0 core
left_by core (op.SetFactor repo factor) =
    with_book_changed repo.0 (reassigned core factor) core
left_by core (op.AcceptBegin repo storage) = with_fence_drawn repo.0 storage.0 core
left_by core (op.Accept repo storage lease) = with_accepted repo.0 storage.0 core
left_by core (op.SettleBegin repo storage) = with_fence_drawn repo.0 storage.0 core
left_by core (op.Settle repo storage lease last) = with_settled repo.0 storage.0 last core
left_by core (op.Booked repo) = core
left_by core (op.Find virt path) = core
left_by core (op.Holder repo) = core

-- ---- an operation

abbrev pub unless_refused : {A : Type 0} → Option Refusal → A → A → A
unless_refused None refused done = done
unless_refused (Some why) refused done = refused

-- a refusal, or else the answer
abbrev pub told : Option Refusal → Reply → Reply
told None answer = answer
told (Some why) answer = reply.Refused why

abbrev pub reply_of : Core → Op → Reply
reply_of core asked = told (refusal_of core asked) (answer_of core asked)

abbrev pub next_core : Core → Op → Core
next_core core asked = unless_refused (refusal_of core asked) core (left_by core asked)
