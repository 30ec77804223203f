-- What becomes of replicas, as the book is told it.
use Rattle.std.specs.Prelude.{ℕ, ◌<◌, Bool, if◌then◌else◌, List, [], ◌∷◌, map, None}
use Rattle.std.specs.List.{AllByRecursion}
use Rattle.px_base.specs.declared.ids.StorageId.{StorageId}
use Rattle.px_cluster.specs.Book.{Replica, Repository, booked, drawn_for, in_doubt, is_on, with_replicas}
use Rattle.px_cluster.specs.Casts.{confirmed}
use Rattle.px_cluster.specs.Creating.{enrolled}
use Rattle.px_cluster.specs.Numbers.{is_one_of}
use Rattle.px_cluster.specs.Repairs.{settled}
use Rattle.genbook.specs.declared.change.Change.{Change}
use Rattle.genbook.specs.declared.change.Change.TheVariants.{Draw, Tell, Confirm, Enrol, Book, Settle}

-- the rule that a change follows
abbrev pub changed_by : Change → Replica → Replica
changed_by (Draw lease) = drawn_for lease
changed_by (Tell lease due) = in_doubt lease due.0
changed_by (Confirm lease) = confirmed lease
changed_by Enrol = enrolled
changed_by (Book booking) = booked booking
changed_by (Settle last) = settled last

-- the replica on one storage changed
abbrev pub changed_on : ℕ → Change → Replica → Replica
changed_on storage change replica =
    if is_on storage replica then changed_by change replica else replica

-- the numbers of these storages
abbrev pub numbers_of : List StorageId → List ℕ
numbers_of storages = map (λ (storage : StorageId). storage.0) storages

-- the replicas on these storages changed
abbrev pub changed_on_each : List StorageId → Change → Replica → Replica
changed_on_each storages change replica =
    if is_one_of replica.storage (numbers_of storages) then changed_by change replica else replica

-- the replica is assigned, or is not
abbrev pub with_assigned : Bool → Replica → Replica
with_assigned assigned replica = record replica { assigned = assigned }

-- the replica is assigned exactly where its storage is one of these
abbrev pub assigned_among : List ℕ → Replica → Replica
assigned_among storages replica = with_assigned (is_one_of replica.storage storages) replica

-- exactly these storages are assigned
abbrev pub assigned_to : List ℕ → Repository → Repository
assigned_to storages repo = with_replicas (assigned_among storages) repo

-- each number is below those after it
abbrev pub AreAscending : List ℕ → Type 0
AreAscending [] = Unit {0}
AreAscending (number ∷ numbers) =
    AllByRecursion (λ later. number < later) numbers × AreAscending numbers

-- a repository before its first creation, with these replicas
abbrev pub unmade_with : List ℕ → List ℕ → List Replica → Repository
unmade_with virt path replicas = record {
  virt = virt;
  path = path;
  newest = 0;
  last = 0;
  creation = 0;
  primary = None;
  replicas = replicas;
}
