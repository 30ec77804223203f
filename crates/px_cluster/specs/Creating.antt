-- How storages and repositories come onto the book.
use Rattle.std.specs.Prelude.{ℕ, ◌+◌, ◌-◌, ◌^◌, ◌==◌, ◌&&◌, not, nat_lt, Bool, false, if◌then◌else◌, List, [], ◌∷◌, ◌++◌, length, map, take, unwrap_or, Option, None, Some}
use Rattle.std.specs.List.{list_all}
use Rattle.std.specs.Option.{option_map}
use Rattle.std.specs.Str.{bytes_eq}
use Rattle.px_ops.specs.declared.booking.Booking.TheVariants.{Absent, At}
use Rattle.px_ops.specs.declared.refusal.Refusal.{Refusal}
use Rattle.px_ops.specs.declared.refusal.Refusal.TheVariants as refusal
use Rattle.px_ops.specs.declared.reply.Reply.{Reply}
use Rattle.px_ops.specs.declared.reply.Reply.TheVariants as reply
use Rattle.px_cluster.specs.Book.{Replica, Repository, Storage, booked, has_replica_on, is_absent, kept_on, storages_of}
use Rattle.px_cluster.specs.Core.{Core, known_name, names_of, repository, with_repository}
use Rattle.px_cluster.specs.Ids.{gen, repo_id, storage_id}
use Rattle.px_cluster.specs.Numbers.{first_of, is_one_of, places_of}
use Rattle.px_cluster.specs.Refusals.{cause, first_cause, leases_spent}

-- ---- Admit

-- nothing is recorded of the replica on a new storage
abbrev pub unrecorded : ℕ → Replica
unrecorded storage = record {
  storage = storage;
  assigned = false;
  kept = 0;
  booking = Absent;
}

abbrev pub has_name : List ℕ → Storage → Bool
has_name name storage = bytes_eq storage.name name

abbrev pub admit_refusal : Core → List ℕ → List ℕ → Option Refusal
admit_refusal core virt name = first_cause (
    option_map (λ storage. refusal.StorageExists (storage_id storage))
    (first_of (places_of (has_name name) core.storages))
    ∷ cause (not (nat_lt (length (storages_of core.storages virt)) 64
    && nat_lt (length core.storages) (2 ^ 32 - 1))) refusal.TooManyStorages ∷ [])

-- the repository has a replica more, where it is of that virtual storage
abbrev pub with_storage : List ℕ → ℕ → Repository → Repository
with_storage virt storage repo =
    if bytes_eq repo.virt virt
    then record repo { replicas = repo.replicas ++ unrecorded storage ∷ [] }
    else repo

-- a new storage is down, unassigned and Absent everywhere
abbrev pub admitted : List ℕ → List ℕ → Core → Core
admitted virt name core = record core {
  storages = core.storages ++ record { virt = virt; name = name } ∷ [];
  repositories = map (with_storage virt (length core.storages)) core.repositories;
  health = core.health ++ false ∷ [];
}

-- ---- Create

-- the default factor of a virtual storage; 0 where none was set
abbrev pub default_in : List (List ℕ × ℕ) → List ℕ → ℕ
default_in [] virt = 0
default_in (entry ∷ entries) virt =
    if bytes_eq entry.0 virt then entry.1 else default_in entries virt

-- 0 stands for the default factor
abbrev pub factor_for : Core → List ℕ → ℕ → ℕ
factor_for core virt factor = if factor == 0 then default_in core.factors virt else factor

-- the first storages by number; a default of 0 stands for all
abbrev pub assigned_for : Core → List ℕ → ℕ → List ℕ
assigned_for core virt factor =
    if factor_for core virt factor == 0 then storages_of core.storages virt
    else take (factor_for core virt factor) (storages_of core.storages virt)

abbrev pub is_at_path : List ℕ → List ℕ → Repository → Bool
is_at_path virt path repo = bytes_eq repo.virt virt && bytes_eq repo.path path

-- the number of the repository of a virtual storage and path, if there is one
abbrev pub found : Core → List ℕ → List ℕ → Option ℕ
found core virt path = first_of (places_of (is_at_path virt path) core.repositories)

-- no replica of it is on record: its creation may be made again
abbrev pub is_blank : Repository → Bool
is_blank repo = list_all (λ (replica : Replica). is_absent replica.booking) repo.replicas

abbrev pub is_recorded : Option Repository → Bool
is_recorded None = false
is_recorded (Some repo) = not (is_blank repo)

abbrev pub exists_as : Core → Option ℕ → Option Refusal
exists_as core None = None
exists_as core (Some repo) =
    cause (is_recorded (repository core repo)) (refusal.Exists (repo_id repo))

-- a repository before its first creation
abbrev pub unmade : Core → List ℕ → List ℕ → Repository
unmade core virt path = record {
  virt = virt;
  path = path;
  newest = 0;
  last = 0;
  creation = 0;
  primary = None;
  replicas = map unrecorded (storages_of core.storages virt);
}

-- a new repository has the next number, and one that is made again keeps its own
abbrev pub number_for : Core → List ℕ → List ℕ → ℕ
number_for core virt path = unwrap_or (found core virt path) (length core.repositories)

abbrev pub before_create : Core → List ℕ → List ℕ → Repository
before_create core virt path =
    unwrap_or (repository core (number_for core virt path)) (unmade core virt path)

abbrev pub create_refusal : Core → List ℕ → List ℕ → ℕ → Option Refusal
create_refusal core virt path factor =
    let storages = length (storages_of core.storages virt) in
    first_cause (
    cause (storages == 0) (refusal.UnknownVirtual virt)
    ∷ exists_as core (found core virt path)
    ∷ cause (nat_lt storages (factor_for core virt factor)) (refusal.BadFactor storages)
    ∷ cause (not (nat_lt (number_for core virt path) 100000)) refusal.TooManyRepositories
    ∷ leases_spent (before_create core virt path).last ∷ [])

-- these storages are assigned, and keep the lease; no other one is assigned
abbrev pub assigned_under : List ℕ → ℕ → Replica → Replica
assigned_under storages lease replica = record replica {
  assigned = is_one_of replica.storage storages;
  kept = if is_one_of replica.storage storages then lease else replica.kept;
}

-- one lease is drawn for all storages that are assigned, and kept as the creation lease
abbrev pub created_on : List ℕ → Repository → Repository
created_on storages repo = record repo {
  last = repo.last + 1;
  creation = repo.last + 1;
  replicas = map (assigned_under storages (repo.last + 1)) repo.replicas;
}

abbrev pub with_created : Option ℕ → Repository → Core → Core
with_created None repo core = record core {
  repositories = core.repositories ++ repo ∷ [];
  reads = core.reads ++ 0 ∷ [];
}
with_created (Some number) repo core = with_repository number repo core

abbrev pub created : List ℕ → List ℕ → ℕ → Core → Core
created virt path factor core = with_created (found core virt path)
    (created_on (assigned_for core virt factor) (before_create core virt path)) core

abbrev pub create_reply : Core → List ℕ → List ℕ → ℕ → Reply
create_reply core virt path factor = reply.Created (repo_id (number_for core virt path))
    ((before_create core virt path).last + 1) (names_of core (assigned_for core virt factor))

-- ---- Enrol

-- the storage is not of the repository's virtual storage, or there is no such storage
abbrev pub unknown_storage : Core → Repository → ℕ → Option Refusal
unknown_storage core repo storage =
    cause (not (has_replica_on repo storage)) (refusal.UnknownStorage (known_name core storage))

abbrev pub lease_lost : ℕ → ℕ → Option Refusal
lease_lost kept given = cause (not (kept == given)) (refusal.LeaseLost kept given)

abbrev pub enrol_refusal : Core → Option Repository → ℕ → ℕ → Option Refusal
enrol_refusal core None storage lease = Some refusal.UnknownRepo
enrol_refusal core (Some repo) storage lease = first_cause (
    unknown_storage core repo storage
    ∷ lease_lost (kept_on repo storage) lease
    ∷ cause (not (repo.creation == lease)) refusal.NotMaking ∷ [])

-- it holds generation 0 now, where nothing was known of it
abbrev pub enrolled : Replica → Replica
enrolled replica = if is_absent replica.booking then booked (At (gen 0)) replica else replica
