-- The book: the storages, and of each repository its generations, its leases and its replicas.
use Rattle.std.specs.Prelude.{ℕ, ◌+◌, ◌==◌, Bool, true, false, if◌then◌else◌, List, filter, find, is_some, map, Option, None, Some}
use Rattle.std.specs.Str.{bytes_eq}
use Rattle.px_ops.specs.declared.booking.Booking.{Booking}
use Rattle.px_ops.specs.declared.booking.Booking.TheVariants.{Absent, At, Doubt}
use Rattle.px_cluster.specs.Ids.{gen}
use Rattle.px_cluster.specs.Numbers.{places_of}

-- a storage: the virtual storage that it belongs to, and its name
pub record Storage : Type 0 where
  pub virt : List ℕ
  pub name : List ℕ

-- what the book has of the replica of a repository on one storage: whether the storage is assigned,
-- the last lease that was drawn for it, and its booking
pub record Replica : Type 0 where
  pub storage : ℕ
  pub assigned : Bool
  pub kept : ℕ
  pub booking : Booking

-- what the book has of a repository: its virtual storage and path, the newest generation, the last
-- lease that was drawn, the lease that it was created under, the primary of its last push, and a
-- replica for each storage of the virtual storage, in the order of their numbers
pub record Repository : Type 0 where
  pub virt : List ℕ
  pub path : List ℕ
  pub newest : ℕ
  pub last : ℕ
  pub creation : ℕ
  pub primary : Option ℕ
  pub replicas : List Replica

-- ---- bookings

-- the generation that the replica holds at least; 0 where nothing is known of it
abbrev pub generation : Booking → ℕ
generation Absent = 0
generation (At g) = g.0
generation (Doubt lease was due) = was.0

abbrev pub is_absent : Booking → Bool
is_absent Absent = true
is_absent (At g) = false
is_absent (Doubt lease was due) = false

abbrev pub is_in_doubt : Booking → Bool
is_in_doubt Absent = false
is_in_doubt (At g) = false
is_in_doubt (Doubt lease was due) = true

abbrev pub is_at : ℕ → Booking → Bool
is_at number Absent = false
is_at number (At g) = g.0 == number
is_at number (Doubt lease was due) = false

-- the replica was told to commit under this lease, and it is not known whether it did
abbrev pub is_in_doubt_under : ℕ → Booking → Bool
is_in_doubt_under lease Absent = false
is_in_doubt_under lease (At g) = false
is_in_doubt_under lease (Doubt under was due) = under == lease

-- ---- storages

abbrev pub is_of : List ℕ → Storage → Bool
is_of virt storage = bytes_eq storage.virt virt

-- the storages of a virtual storage, by number
abbrev pub storages_of : List Storage → List ℕ → List ℕ
storages_of storages virt = places_of (is_of virt) storages

-- ---- replicas

abbrev pub is_on : ℕ → Replica → Bool
is_on storage replica = replica.storage == storage

-- the replica on a storage; there is one exactly where the storage is of the virtual storage
abbrev pub replica_on : Repository → ℕ → Option Replica
replica_on repo storage = find (is_on storage) repo.replicas

abbrev pub has_replica_on : Repository → ℕ → Bool
has_replica_on repo storage = is_some (replica_on repo storage)

-- what is read of the replica on a storage, where it is one of the virtual storage
abbrev pub booking_in : Option Replica → Booking
booking_in None = Absent
booking_in (Some replica) = replica.booking

abbrev pub kept_in : Option Replica → ℕ
kept_in None = 0
kept_in (Some replica) = replica.kept

abbrev pub is_assigned_in : Option Replica → Bool
is_assigned_in None = false
is_assigned_in (Some replica) = replica.assigned

abbrev pub booking_on : Repository → ℕ → Booking
booking_on repo storage = booking_in (replica_on repo storage)

abbrev pub kept_on : Repository → ℕ → ℕ
kept_on repo storage = kept_in (replica_on repo storage)

abbrev pub is_assigned : Repository → ℕ → Bool
is_assigned repo storage = is_assigned_in (replica_on repo storage)

-- the replica is booked at the newest generation
abbrev pub is_newest : Repository → Replica → Bool
is_newest repo replica = is_at repo.newest replica.booking

-- the same of the replica on a storage
abbrev pub is_newest_on : Repository → ℕ → Bool
is_newest_on repo storage = is_at repo.newest (booking_on repo storage)

-- the storages of the replicas that pass a test, by number
abbrev pub storages_where : (Replica → Bool) → Repository → List ℕ
storages_where test repo = map (λ (replica : Replica). replica.storage) (filter test repo.replicas)

-- ---- what changes

-- each replica changed
abbrev pub with_replicas : (Replica → Replica) → Repository → Repository
with_replicas change repo = record repo { replicas = map change repo.replicas }

-- the replica on one storage changed
abbrev pub with_replica_on : ℕ → (Replica → Replica) → Repository → Repository
with_replica_on storage change repo =
    with_replicas (λ replica. if is_on storage replica then change replica else replica) repo

-- the replica is booked so
abbrev pub booked : Booking → Replica → Replica
booked booking replica = record replica { booking = booking }

-- the replica is told to commit a generation under a lease
abbrev pub in_doubt : ℕ → ℕ → Replica → Replica
in_doubt lease due replica = booked (Doubt lease (gen (generation replica.booking)) (gen due)) replica

-- the lease was drawn for the replica
abbrev pub drawn_for : ℕ → Replica → Replica
drawn_for lease replica = record replica { kept = lease }

-- the next lease is drawn for the replica on one storage
abbrev pub with_lease_for : ℕ → Repository → Repository
with_lease_for storage repo =
    with_replica_on storage (drawn_for (repo.last + 1)) (record repo { last = repo.last + 1 })
