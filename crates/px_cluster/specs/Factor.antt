-- How many storages have a replica of a repository, and which are added or left when that changes.
use Rattle.std.specs.Prelude.{ℕ, ◌-◌, ◌==◌, ◌&&◌, ◌||◌, not, nat_lt, Bool, false, if◌then◌else◌, List, [], ◌∷◌, ◌++◌, length, reverse, take, Option, None, Some}
use Rattle.std.specs.Option.{option_or}
use Rattle.px_ops.specs.declared.refusal.Refusal.{Refusal}
use Rattle.px_ops.specs.declared.refusal.Refusal.TheVariants as refusal
use Rattle.px_cluster.specs.Book.{Replica, Repository, is_absent, storages_where, with_replicas}
use Rattle.px_cluster.specs.Core.{Core, turn_of}
use Rattle.px_cluster.specs.Members.{primary_of}
use Rattle.px_cluster.specs.Numbers.{first_of, is_one_of}
use Rattle.px_cluster.specs.Pushes.{turn_taken}
use Rattle.px_cluster.specs.Refusals.{cause, first_cause}

abbrev pub factor_refusal : Core → ℕ → Option Repository → ℕ → Option Refusal
factor_refusal core repo None factor = Some refusal.UnknownRepo
factor_refusal core repo (Some book) factor = first_cause (
    turn_taken (turn_of core repo)
    ∷ cause ((factor == 0) || nat_lt (length book.replicas) factor)
    (refusal.BadFactor (length book.replicas)) ∷ [])

abbrev pub assigned_now : Repository → List ℕ
assigned_now repo = storages_where (λ (replica : Replica). replica.assigned) repo

abbrev pub unassigned_where : (Replica → Bool) → Repository → List ℕ
unassigned_where test repo =
    storages_where (λ (replica : Replica). not replica.assigned && test replica) repo

-- to be added: first those that have a replica, then the others, each by number
abbrev pub could_be_added : Repository → List ℕ
could_be_added repo = unassigned_where (λ (replica : Replica). not (is_absent replica.booking)) repo
    ++ unassigned_where (λ (replica : Replica). is_absent replica.booking) repo

-- the primary is spared, or, where there is none, the assigned storage of the least number
abbrev pub spared : Core → Repository → Option ℕ
spared core repo = option_or (primary_of core repo) (first_of (assigned_now repo))

abbrev pub is_spared : Option ℕ → ℕ → Bool
is_spared None storage = false
is_spared (Some other) storage = storage == other

-- to be left: the greatest numbers first
abbrev pub could_be_left : Core → Repository → List ℕ
could_be_left core repo = reverse (storages_where
    (λ (replica : Replica). replica.assigned && not (is_spared (spared core repo) replica.storage))
    repo)

abbrev pub is_left : Core → Repository → ℕ → ℕ → Bool
is_left core repo factor storage = is_one_of storage
    (take (length (assigned_now repo) - factor) (could_be_left core repo))

abbrev pub is_added : Repository → ℕ → ℕ → Bool
is_added repo factor storage =
    is_one_of storage (take (factor - length (assigned_now repo)) (could_be_added repo))

-- whether the storage is assigned from now on
abbrev pub is_chosen : Core → Repository → ℕ → Replica → Bool
is_chosen core repo factor replica =
    if replica.assigned then not (is_left core repo factor replica.storage)
    else is_added repo factor replica.storage

abbrev pub assignment : Core → Repository → ℕ → List ℕ
assignment core repo factor = storages_where (is_chosen core repo factor) repo

abbrev pub reassigned : Core → ℕ → Repository → Repository
reassigned core factor repo = with_replicas
    (λ (replica : Replica). record replica { assigned = is_chosen core repo factor replica }) repo
