-- The core: the book, the jobs, the transactions and turns, and what is known of storages for now.
use Rattle.std.specs.Prelude.{ℕ, ◌==◌, ◌&&◌, Bool, false, if◌then◌else◌, List, [], find, map, set, slice_get, unwrap_or, Option, None, Some}
use Rattle.std.specs.Option.{option_map}
use Rattle.px_base.specs.declared.ids.TxId.{TxId}
use Rattle.px_ops.specs.declared.job.Job.{Job}
use Rattle.txmanager.specs.Registry.{Registry, transaction_at}
use Rattle.txmanager.specs.Voting.{Voting}
use Rattle.px_cluster.specs.Book.{Replica, Repository, Storage, is_newest}
use Rattle.px_cluster.specs.Numbers.{is_one_of}

-- a push that has the turn of its repository: its transaction, the lease that was drawn for it, the
-- newest generation when it began, its members in the order of the panel, and whether its
-- transaction was canceled and stopped
pub record OpenPush : Type 0 where
  pub tx : TxId
  pub repo : ℕ
  pub lease : ℕ
  pub begun : ℕ
  pub members : List ℕ
  pub canceled : Bool
  pub stopped : Bool

-- Storages and repositories have dense numbers from 0, and stand in their order. So do of each
-- storage whether it is up, and of each repository how many reads were routed. Jobs, transactions and
-- open pushes stand in the order of theirs. `factors` has the default factors of virtual storages.
pub record Core : Type 0 where
  pub storages : List Storage
  pub repositories : List Repository
  pub jobs : List Job
  pub last_job : ℕ
  pub last_tx : ℕ
  pub transactions : Registry
  pub pushes : List OpenPush
  pub health : List Bool
  pub reads : List ℕ
  pub factors : List (List ℕ × ℕ)

-- without storages
abbrev pub empty : Core
empty = record {
  storages = [];
  repositories = [];
  jobs = [];
  last_job = 0;
  last_tx = 0;
  transactions = [];
  pushes = [];
  health = [];
  reads = [];
  factors = [];
}

-- A restart drops transactions, turns, counts of reads, default factors and health: all storages are
-- down until they are raised again. All else is kept.
abbrev pub restarted : Core → Core
restarted core = record core {
  transactions = [];
  pushes = [];
  health = map (λ (up : Bool). false) core.health;
  reads = map (λ (count : ℕ). 0) core.reads;
  factors = [];
}

-- ---- what is read

abbrev pub repository : Core → ℕ → Option Repository
repository core repo = slice_get core.repositories repo

-- the name of a storage, where there is one of that number
abbrev pub known_name : Core → ℕ → Option (List ℕ)
known_name core storage =
    option_map (λ (known : Storage). known.name) (slice_get core.storages storage)

abbrev pub name_of : Core → ℕ → List ℕ
name_of core storage = unwrap_or (known_name core storage) []

abbrev pub names_of : Core → List ℕ → List (List ℕ)
names_of core storages = map (name_of core) storages

abbrev pub is_up : Core → ℕ → Bool
is_up core storage = unwrap_or (slice_get core.health storage) false

abbrev pub job_at : Core → ℕ → Option Job
job_at core number = find (λ (job : Job). job.number.0 == number) core.jobs

abbrev pub voting : Core → TxId → Option Voting
voting core tx = transaction_at core.transactions tx

-- the push that has the turn of a repository
abbrev pub turn_of : Core → ℕ → Option OpenPush
turn_of core repo = find (λ (push : OpenPush). push.repo == repo) core.pushes

-- the push of a transaction
abbrev pub push_of : Core → TxId → Option OpenPush
push_of core tx = find (λ (push : OpenPush). push.tx.0 == tx.0) core.pushes

abbrev pub is_member_of : Option OpenPush → ℕ → Bool
is_member_of None storage = false
is_member_of (Some push) storage = is_one_of storage push.members

-- the storage is a member of the open push of a repository
abbrev pub is_in_push : Core → ℕ → ℕ → Bool
is_in_push core repo storage = is_member_of (turn_of core repo) storage

-- current: healthy, and at the newest generation
abbrev pub is_current : Core → Repository → Replica → Bool
is_current core repo replica = is_up core replica.storage && is_newest repo replica

-- ---- what changes

abbrev pub with_repository : ℕ → Repository → Core → Core
with_repository repo book core = record core { repositories = set core.repositories repo book }

-- the repository changed, where there is one
abbrev pub with_repository_by : Option Repository → ℕ → (Repository → Repository) → Core → Core
with_repository_by None repo change core = core
with_repository_by (Some book) repo change core = with_repository repo (change book) core

abbrev pub with_book_changed : ℕ → (Repository → Repository) → Core → Core
with_book_changed repo change core = with_repository_by (repository core repo) repo change core

-- the push of a transaction changed
abbrev pub with_push_changed : TxId → (OpenPush → OpenPush) → Core → Core
with_push_changed tx change core = record core {
  pushes = map (λ (push : OpenPush). if push.tx.0 == tx.0 then change push else push) core.pushes;
}
