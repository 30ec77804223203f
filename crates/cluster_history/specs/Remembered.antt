-- What becomes of the history at each event: an operation is remembered by what it does, and a delivery
-- by its effect, whether that is answered or not.
use Rattle.std.specs.Prelude.{ℕ, ◌+◌, ◌==◌, Bool, true, false, if◌then◌else◌, List, length, Option, None, Some}
use Rattle.node_calls.specs.ReplicaState.{ReadyPush, ReplicaState}
use Rattle.px_base.specs.Hash.{same_hash}
use Rattle.px_base.specs.declared.hash.Hash.{Hash}
use Rattle.px_base.specs.declared.phase.Phase.{Phase}
use Rattle.px_base.specs.declared.phase.Phase.TheVariants.{Prepared, Committed}
use Rattle.px_ops.specs.declared.booking.Booking.{Booking}
use Rattle.px_ops.specs.declared.booking.Booking.TheVariants.{Absent, At, Doubt}
use Rattle.px_ops.specs.declared.job.Job.{Job}
use Rattle.px_ops.specs.declared.job.JobKind.{JobKind}
use Rattle.px_ops.specs.declared.job.JobKind.TheVariants.{Update, Delete}
use Rattle.px_ops.specs.declared.op.Op.{Op}
use Rattle.px_ops.specs.declared.op.Op.TheVariants as op
use Rattle.px_ops.specs.declared.reply.Reply.TheVariants as reply
use Rattle.px_cluster.specs.Acknowledged.{done_in, event_refusal}
use Rattle.px_cluster.specs.Astray.{GoesAstray, Happens, IsLost, Move}
use Rattle.px_cluster.specs.Book.{Repository, booking_on, is_absent}
use Rattle.px_cluster.specs.Casts.{member_named}
use Rattle.px_cluster.specs.Cluster.{Cluster, with_value}
use Rattle.px_cluster.specs.Core.{OpenPush, job_at, push_of, repository, voting}
use Rattle.px_cluster.specs.Creating.{found}
use Rattle.px_cluster.specs.Effects.{Effect, Location, effect_of, purpose_at, source_of, state_at}
use Rattle.px_cluster.specs.Events.{Answer, Event, Replied}
use Rattle.px_cluster.specs.Events as event
use Rattle.px_cluster.specs.Ledger.{Purpose, Pushing}
use Rattle.px_cluster.specs.Ops.{unless_refused}
use Rattle.px_cluster.specs.Pushes.{prepared_outcome}
use Rattle.px_cluster.specs.Repairs.{settled_as}
use Rattle.px_cluster.specs.Step.{settling}
use Rattle.refstore.specs.Updates.{after}
use Rattle.replica_invariant.specs.Contents.{Content, undecided}
use Rattle.replica_invariant.specs.Pushes.{filled}
use Rattle.replica_invariant.specs.State.{Entry}
use Rattle.txmanager.specs.VoterCalls.{after_cast}
use Rattle.txmanager.specs.Voting.{Voting}
use Rattle.voters.specs.declared.outcome.Outcome.{Outcome}
use Rattle.voters.specs.declared.outcome.Outcome.TheVariants as outcome
use Rattle.cluster_history.specs.History.{History, Whole, with_entry, with_floor, with_level, with_new, with_value_at, without_level}

-- ---- bookings

-- a replica that is booked at a generation has it as its floor from then on
abbrev pub with_floor_of : History → ℕ → ℕ → Booking → History
with_floor_of history repo storage Absent = history
with_floor_of history repo storage (At held) = with_floor history repo storage held.0
with_floor_of history repo storage (Doubt lease was due) = history

abbrev pub if_known : {A : Type 0} → History → Option A → (A → History) → History
if_known history None then_ = history
if_known history (Some known) then_ = then_ known

-- ---- a vote on a push

-- the entry of a push that is decided has no content yet
abbrev pub decided_entry : OpenPush → Hash → Entry
decided_entry push hash = record { lease = Some push.lease; hash = hash; content = None }

-- the vote that decides adds an entry
abbrev pub by_outcomes : History → OpenPush → ℕ → Outcome → Outcome → History
by_outcomes history push newest outcome.Open (outcome.Commit hash) =
    with_entry history push.repo (newest + 1) (decided_entry push hash)
by_outcomes history push newest (outcome.Commit before) now = history
by_outcomes history push newest before now = history

-- who confirms is booked, where it is in doubt under the push
abbrev pub by_doubt : History → OpenPush → ℕ → Booking → History
by_doubt history push storage Absent = history
by_doubt history push storage (At held) = history
by_doubt history push storage (Doubt lease was due) =
    if lease == push.lease then with_floor history push.repo storage due.0 else history

abbrev pub by_confirmation : History → OpenPush → Repository → Option ℕ → History
by_confirmation history push book None = history
by_confirmation history push book (Some storage) =
    by_doubt history push storage (booking_on book storage)

abbrev pub by_commit_vote : History → OpenPush → Repository → Option ℕ → Hash → Outcome → History
by_commit_vote history push book storage hash (outcome.Commit decided) =
    if same_hash decided hash then by_confirmation history push book storage else history
by_commit_vote history push book storage hash other = history

abbrev pub by_vote : History → OpenPush → Repository → List ℕ → Phase → Hash → Voting → History
by_vote history push book name Prepared hash old = by_outcomes history push book.newest
    (prepared_outcome old) (prepared_outcome (after_cast name Prepared hash old))
by_vote history push book name Committed hash old =
    by_commit_vote history push book (member_named push old name) hash (prepared_outcome old)

-- ---- operations

-- a good end of an update books its target
abbrev pub by_end : History → Job → JobKind → History
by_end history job Update = with_floor history job.repo.0 job.target.0 job.generation.0
by_end history job Delete = history

abbrev pub by_enrolment : History → ℕ → ℕ → Repository → History
by_enrolment history repo storage book =
    if is_absent (booking_on book storage) then with_floor history repo storage 0 else history

-- what is accepted is given: it is what the node holds
abbrev pub accepted_entry : Cluster → ℕ → Repository → Entry
accepted_entry cluster storage book = record {
  lease = None;
  hash = undecided;
  content = Some (cluster.node storage book.path).refs;
}

abbrev pub by_acceptance : History → Cluster → ℕ → ℕ → Repository → History
by_acceptance history cluster repo storage book = with_level (with_floor
    (with_entry history repo (book.newest + 1) (accepted_entry cluster storage book)) repo storage
    (book.newest + 1)) repo storage (book.newest + 1)

-- a repository that is created for the first time has the next number
abbrev pub by_creation : History → ℕ → Option ℕ → History
by_creation history next None = with_new history next
by_creation history next (Some repo) = history

abbrev pub by_op : History → Cluster → Op → History
by_op history cluster (op.Create virt path factor) = by_creation history
    (length cluster.core.repositories) (found cluster.core virt path)
by_op history cluster (op.Enrol repo storage lease) =
    if_known history (repository cluster.core repo.0) (by_enrolment history repo.0 storage.0)
by_op history cluster (op.Cast tx name phase hash) = if_known history (push_of cluster.core tx)
    (λ push. if_known history (voting cluster.core tx)
    (λ old. if_known history (repository cluster.core push.repo)
    (λ book. by_vote history push book name phase hash old)))
by_op history cluster (op.Ack job lease true) =
    if_known history (job_at cluster.core job.0) (λ queued. by_end history queued queued.kind)
by_op history cluster (op.Accept repo storage lease) =
    if_known history (repository cluster.core repo.0) (by_acceptance history cluster repo.0 storage.0)
by_op history cluster (op.Settle repo storage lease last) =
    if_known history (repository cluster.core repo.0)
    (λ book. with_floor_of history repo.0 storage.0 (settled_as last (booking_on book storage.0)))
by_op history cluster other = history

-- the operation was done
abbrev pub after_op : Whole → Op → Whole
after_op whole asked = record {
  cluster = done_in whole.cluster asked;
  history = by_op whole.history whole.cluster asked;
}

-- .. where nothing refused it
abbrev pub after_asking : Whole → Op → History
after_asking whole asked = unless_refused (event_refusal whole.cluster asked) whole.history
    (by_op whole.history whole.cluster asked)

-- ---- deliveries

abbrev pub begun_in : Purpose → ℕ
begun_in (Pushing begun commit answered) = begun
begun_in other = 0

abbrev pub content_after : ReplicaState → Option ReadyPush → Content
content_after state None = state.refs
content_after state (Some push) = after state.refs push.updates

-- the first commit of a push fills its entry
abbrev pub filled_with : Content → Entry → Entry
filled_with content entry = record {
  lease = entry.lease;
  hash = entry.hash;
  content = filled entry.content content;
}

abbrev pub by_commit : History → Cluster → Effect → History
by_commit history cluster effect =
    let due = begun_in (purpose_at cluster effect) + 1 in
    let state = state_at cluster effect.at in
    with_entry (with_level history effect.at.repo effect.at.storage due) effect.at.repo due
    (filled_with (content_after state state.ready) (history.entry effect.at.repo due))

abbrev pub level_or_0 : Option ℕ → ℕ
level_or_0 None = 0
level_or_0 (Some level) = level

-- the level of the source is kept with the snapshot
abbrev pub by_reading : History → Effect → Option Location → History
by_reading history effect None = history
by_reading history effect (Some source) = record history {
  read_at = with_value history.read_at effect.at.repo (with_value_at
      (history.read_at effect.at.repo) effect.at.storage effect.lease
      (level_or_0 (history.level source.repo source.storage)));
}

abbrev pub by_delivery : History → Cluster → Event → Effect → History
by_delivery history cluster (event.Make storage repo lease) effect =
    with_level history effect.at.repo effect.at.storage 0
by_delivery history cluster (event.Commit tx storage) effect = by_commit history cluster effect
by_delivery history cluster (event.TakeSnapshot job lease) effect =
    by_reading history effect (source_of cluster job (Some effect))
by_delivery history cluster (event.Apply job lease) effect =
    with_level history effect.at.repo effect.at.storage
    (history.read_at effect.at.repo effect.at.storage effect.lease)
by_delivery history cluster (event.Remove job lease) effect =
    without_level history effect.at.repo effect.at.storage
by_delivery history cluster other effect = history

-- the effect was done
abbrev pub after_effect : Whole → Event → Option Effect → History
after_effect whole happened None = whole.history
after_effect whole happened (Some effect) =
    by_delivery whole.history whole.cluster happened effect

abbrev pub is_refused : Answer → Bool
is_refused (Replied (reply.Refused why)) = true
is_refused other = false

-- a delivery was answered so, and led there
abbrev pub after_delivery : Whole → Event → Answer → Cluster → Whole
after_delivery whole happened answer new = record {
  cluster = new;
  history = if is_refused answer then whole.history
      else after_effect whole happened (effect_of whole.cluster happened);
}

-- ---- whatever happens

abbrev pub history_after : Whole → Event → Answer → History
history_after whole (event.Asks asked) answer = after_asking whole asked
history_after whole (event.Settled repo storage lease) answer =
    after_asking whole (settling whole.cluster repo storage lease)
history_after whole happened answer = if is_refused answer then whole.history
    else after_effect whole happened (effect_of whole.cluster happened)

-- an effect whose answer is lost was done, and with pushes that are lost nothing is
abbrev pub history_of_move : Whole → Move → History
history_of_move whole (Happens happened answer) = history_after whole happened answer
history_of_move whole (GoesAstray happened) =
    after_effect whole happened (effect_of whole.cluster happened)
history_of_move whole (IsLost storage test) = whole.history

-- the move led to this cluster
abbrev pub after_move : Whole → Move → Cluster → Whole
after_move whole move new = record { cluster = new; history = history_of_move whole move }
