-- What was issued, as the cluster has it.
use Rattle.std.specs.Prelude.{◌≡◌, ℕ, List, IsSome, Option, None, Some}
use Rattle.std.specs.BTreeMap.{is_at}
use Rattle.std.specs.Map.{lookup}
use Rattle.std.specs.Option.{option_flatten, option_map}
use Rattle.std.specs.Ordering.{nat_cmp}
use Rattle.px_base.specs.declared.hash.Hash.{Hash}
use Rattle.node_calls.specs.declared.snapshot.Snapshot.{Snapshot}
use Rattle.px_base.specs.declared.ids.RepoId.{RepoId}
use Rattle.px_base.specs.declared.ids.StorageId.{StorageId}
use Rattle.px_base.specs.declared.ids.TxId.{TxId}
use Rattle.px_cluster.specs.Cluster.{Cluster, Destination, empty, with_ledger, with_value}
use Rattle.px_cluster.specs.Core.{OpenPush}
use Rattle.px_cluster.specs.Deliveries.{with_answer}
use Rattle.px_cluster.specs.Effects.{Effect}
use Rattle.px_cluster.specs.Issues.{issues_commit_at, issues_push}
use Rattle.px_cluster.specs.Ledger.{Fencing, Purpose, answered, with_last, with_purpose, with_snapshot}
use Rattle.issued.specs.Draws.{HasRoom, KeepsRoom as KeepsDraws, draw_of, ledger_of, room_at}
use Rattle.issued.specs.Entries.{Entries, Pushes, Works}

-- where the effects of a push go
abbrev pub destination_of : RepoId × ℕ → Destination
destination_of push = record { repo = push.0.0; number = push.1 }

abbrev pub push_room_at : Pushes → ℕ → Option (Option (RepoId × ℕ))
push_room_at pushes tx = lookup (is_at (nat_cmp tx)) pushes

-- by transactions
abbrev pub pushed_of : Pushes → ℕ → Option Destination
pushed_of pushes tx = option_map destination_of (option_flatten (push_room_at pushes tx))

-- where the effects of a job go
abbrev pub target_of : RepoId × StorageId → Destination
target_of work = record { repo = work.0.0; number = work.1.0 }

abbrev pub work_room_at : Works → ℕ → Option (Option (RepoId × StorageId))
work_room_at works job = lookup (is_at (nat_cmp job)) works

-- by jobs
abbrev pub worked_of : Works → ℕ → Option Destination
worked_of works job = option_map target_of (option_flatten (work_room_at works job))

-- a cluster in which this was issued, and nothing else is known
abbrev pub cluster_of : Entries → Cluster
cluster_of entries = record empty {
  ledger = ledger_of entries.draws;
  pushed = pushed_of entries.pushes;
  worked = worked_of entries.works;
}

-- there is room for a push, with its lease at each of these storages
pub record HasPushRoom (entries : Entries) (tx repo : ℕ) (members : List ℕ) (lease : ℕ)
    : Type 0 where
  pub draws : HasRoom entries.draws repo members lease
  pub push : IsSome (push_room_at entries.pushes tx)

-- there is room for a job that is taken, with its lease at its target
pub record HasWorkRoom (entries : Entries) (job repo target lease : ℕ) : Type 0 where
  pub draw : IsSome (room_at entries.draws (draw_of repo target lease))
  pub work : IsSome (work_room_at entries.works job)

-- no room for a push is lost
abbrev pub KeepsPushes : Pushes → Pushes → Type 0
KeepsPushes old new =
    (tx : ℕ) → IsSome (push_room_at old tx) → IsSome (push_room_at new tx)

-- .. for a job
abbrev pub KeepsWorks : Works → Works → Type 0
KeepsWorks old new =
    (job : ℕ) → IsSome (work_room_at old job) → IsSome (work_room_at new job)

-- no room is lost
pub record KeepsRoom (old new : Entries) : Type 0 where
  pub draws : KeepsDraws old.draws new.draws
  pub pushes : KeepsPushes old.pushes new.pushes
  pub works : KeepsWorks old.works new.works

-- ---- what is issued

-- a prepare and an abort for each member of a push that begins at a generation
abbrev pub IssuesPush : TxId → ℕ → List ℕ → ℕ → ℕ → Entries → Entries → Type 0
IssuesPush tx repo members lease begun old new = (push : OpenPush) → push.tx ≡ tx
    → push.repo ≡ repo → push.members ≡ members → push.lease ≡ lease → push.begun ≡ begun
    → cluster_of new ≡ issues_push (cluster_of old) push

-- a commit for a storage, of any push of the repository under the lease
abbrev pub IssuesCommit : (repo storage lease : ℕ) → Hash → Entries → Entries → Type 0
IssuesCommit repo storage lease hash old new = (push : OpenPush) → push.repo ≡ repo
    → push.lease ≡ lease
    → cluster_of new ≡ issues_commit_at (cluster_of old) push (Some storage) (Some hash)

-- the calls of a job that is taken, for its target
abbrev pub with_work : Cluster → (job repo target lease : ℕ) → Purpose → Cluster
with_work cluster job repo target lease purpose =
    record (with_ledger cluster (with_purpose cluster.ledger repo target lease purpose)) {
      worked = with_value cluster.worked job (Some (record { repo = repo; number = target }));
    }

-- a fence of a replica, which its node has not answered yet
abbrev pub with_fence : Cluster → (repo storage lease : ℕ) → Cluster
with_fence cluster repo storage lease = with_ledger cluster
    (with_purpose cluster.ledger repo storage lease (Fencing None))

-- ---- what is kept

-- the answer of the node of a storage to the effect under the lease, whatever the path of the
-- repository there
abbrev pub KeepsAnswer : (repo storage lease : ℕ) → Entries → Entries → Type 0
KeepsAnswer repo storage lease old new = (effect : Effect) → effect.at.repo ≡ repo
    → effect.at.storage ≡ storage → effect.lease ≡ lease
    → cluster_of new ≡ with_answer (cluster_of old) effect answered

-- a snapshot for the effect, in the place of an older one
abbrev pub KeepsSnapshot : (repo storage lease : ℕ) → Snapshot → Entries → Entries → Type 0
KeepsSnapshot repo storage lease snapshot old new = (effect : Effect) → effect.at.repo ≡ repo
    → effect.at.storage ≡ storage → effect.lease ≡ lease
    → cluster_of new ≡ with_answer (cluster_of old) effect (with_snapshot snapshot)

-- the last committed lease that the node answers to a fence, where the effect is one
abbrev pub KeepsFenceAnswer : (repo storage lease : ℕ) → Option ℕ → Entries → Entries → Type 0
KeepsFenceAnswer repo storage lease last old new = (effect : Effect) → effect.at.repo ≡ repo
    → effect.at.storage ≡ storage → effect.lease ≡ lease
    → cluster_of new ≡ with_answer (cluster_of old) effect (with_last last)
