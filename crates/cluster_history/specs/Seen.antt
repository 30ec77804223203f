-- A repository of the cluster, as the argument over one repository sees it.
use Rattle.std.specs.Prelude.{ℕ, Bool, true, false, [], find, length, slice_get, Option, None, Some}
use Rattle.std.specs.Option.{option_map}
use Rattle.node_calls.specs.ReplicaState.{ReadyPush as ReadyAtNode, ReplicaState}
use Rattle.node_calls.specs.declared.snapshot.Snapshot.{Snapshot}
use Rattle.px_ops.specs.declared.booking.Booking.{Booking as BookedSo}
use Rattle.px_ops.specs.declared.booking.Booking.TheVariants as booking
use Rattle.px_ops.specs.declared.job.Job.{Job as QueuedJob}
use Rattle.px_ops.specs.declared.job.JobKind.{JobKind}
use Rattle.px_ops.specs.declared.job.JobKind.TheVariants.{Update, Delete}
use Rattle.px_ops.specs.declared.job.JobState.{JobState as QueuedState}
use Rattle.px_ops.specs.declared.job.JobState.TheVariants as queued
use Rattle.px_cluster.specs.Book.{Repository, booking_on, has_replica_on, is_assigned, kept_on}
use Rattle.px_cluster.specs.Casts.{is_told}
use Rattle.px_cluster.specs.Core.{Core, OpenPush as CorePush, turn_of, voting}
use Rattle.px_cluster.specs.Jobs.{is_for}
use Rattle.px_cluster.specs.Ledger as ledger
use Rattle.px_cluster.specs.Numbers.{is_one_of, place_in}
use Rattle.px_cluster.specs.Pushes.{prepared_outcome}
use Rattle.refstore.specs.Updates.{after}
use Rattle.replica_invariant.specs.Booking.{Booking, Absent, At, Doubt}
use Rattle.replica_invariant.specs.Contents.{Content, Vote}
use Rattle.replica_invariant.specs.Purposes.{Purpose, Unused, Creation, Pushing, Updating, Deleting, Fencing}
use Rattle.replica_invariant.specs.State.{AtNode, Job, JobState, Waiting, Running, Dead, OpenPush, ReadyPush, Replica, Shared, State}
use Rattle.txmanager.specs.Voting.{Voting}
use Rattle.voters.specs.Results.{voted_in}
use Rattle.voters.specs.Votes.{Votes}
use Rattle.voters.specs.declared.outcome.Outcome.{Outcome}
use Rattle.voters.specs.declared.outcome.Outcome.TheVariants as outcome
use Rattle.cluster_history.specs.History.{History, Whole}

-- ---- a replica

abbrev pub seen_booking : BookedSo → Booking
seen_booking booking.Absent = Absent
seen_booking (booking.At held) = At held.0
seen_booking (booking.Doubt lease was due) = Doubt lease was.0 due.0

-- a push that is ready, with the references that it leads to
abbrev pub seen_ready : Content → Option ReadyAtNode → Option ReadyPush
seen_ready refs None = None
seen_ready refs (Some push) = Some (record {
  lease = push.lease;
  updates = push.updates;
  content = after refs push.updates;
})

abbrev pub seen_node : ReplicaState → AtNode
seen_node state = record {
  held = state.held;
  refs = state.refs;
  fence = state.fence;
  committed = state.last;
  ready = seen_ready state.refs state.ready;
}

abbrev pub no_node : AtNode
no_node = record { held = false; refs = []; fence = 0; committed = None; ready = None }

-- a storage of another virtual storage has no replica
abbrev pub node_if : Bool → ReplicaState → AtNode
node_if false state = no_node
node_if true state = seen_node state

abbrev pub seen_snapshot : ℕ → Option Snapshot → Option (Content × ℕ)
seen_snapshot level None = None
seen_snapshot level (Some snapshot) = Some (snapshot.refs, level)

-- what a lease was drawn for, with the level at which a snapshot was read
abbrev pub seen_purpose : ℕ → ledger.Purpose → Purpose
seen_purpose level ledger.Unused = Unused
seen_purpose level (ledger.Creation made) = Creation made
seen_purpose level (ledger.Pushing begun commit answered) = Pushing begun commit answered
seen_purpose level (ledger.Updating job source generation kept answered) =
    Updating source generation (seen_snapshot level kept) answered
seen_purpose level (ledger.Deleting job answered) = Deleting answered
seen_purpose level (ledger.Fencing last) = Fencing last

abbrev pub seen_state : QueuedState → ℕ → JobState
seen_state queued.Ready lease = Waiting
seen_state queued.InProgress lease = Running lease
seen_state queued.Completed lease = Dead
seen_state queued.Cancelled lease = Dead
seen_state queued.Failed lease = Waiting
seen_state queued.Dead lease = Dead

abbrev pub is_update : JobKind → Bool
is_update Update = true
is_update Delete = false

abbrev pub seen_job : QueuedJob → Job
seen_job job = record {
  update = is_update job.kind;
  generation = job.generation.0;
  state = seen_state job.state job.lease;
}

-- the job of a repository and target
abbrev pub job_for : Core → ℕ → ℕ → Option Job
job_for core repo target = option_map seen_job (find (is_for repo target) core.jobs)

abbrev pub replica_of : Whole → ℕ → Repository → ℕ → Replica
replica_of whole repo book storage = record {
  kept = kept_on book storage;
  booking = seen_booking (booking_on book storage);
  floor = whole.history.floor repo storage;
  node = node_if (has_replica_on book storage) (whole.cluster.node storage book.path);
  level = whole.history.level repo storage;
  had = whole.history.had repo storage;
  purpose = λ lease. seen_purpose (whole.history.read_at repo storage lease)
      (whole.cluster.ledger repo storage lease);
  job = job_for whole.cluster.core repo storage;
}

-- ---- the push that has the turn

abbrev pub decided_hash : Outcome → Option Vote
decided_hash outcome.Open = None
decided_hash (outcome.Commit hash) = Some hash
decided_hash outcome.Fail = None
decided_hash outcome.Stop = None

abbrev pub has_voted_in : Option ℕ → Option Votes → Bool
has_voted_in None votes = false
has_voted_in (Some voter) None = false
has_voted_in (Some voter) (Some votes) = voted_in voter votes

-- the storage voted in the committed phase
abbrev pub has_cast : CorePush → Voting → ℕ → Bool
has_cast push vote storage = has_voted_in (place_in push.members storage) (slice_get vote.subs 1)

abbrev pub seen_push : CorePush → Voting → OpenPush
seen_push push vote = record {
  lease = push.lease;
  begun = push.begun;
  members = λ storage. is_one_of storage push.members;
  decided = decided_hash (prepared_outcome vote);
  told = is_told push vote;
  cast = has_cast push vote;
}

abbrev pub no_vote : Voting
no_vote = record { voters = []; subs = [] }

abbrev pub vote_or_none : Option Voting → Voting
vote_or_none None = no_vote
vote_or_none (Some vote) = vote

abbrev pub seen_turn : Core → Option CorePush → Option OpenPush
seen_turn core None = None
seen_turn core (Some push) = Some (seen_push push (vote_or_none (voting core push.tx)))

-- ---- a repository

abbrev pub shared_of : History → ℕ → Repository → Shared
shared_of history repo book = record {
  newest = book.newest;
  last = book.last;
  creation = book.creation;
  entry = history.entry repo;
  text = history.text repo;
}

abbrev pub state_of : Whole → ℕ → Repository → State
state_of whole repo book = record {
  shared = shared_of whole.history repo book;
  admitted = length whole.cluster.core.storages;
  assigned = is_assigned book;
  replica = replica_of whole repo book;
  turn = seen_turn whole.cluster.core (turn_of whole.cluster.core repo);
}
