-- Which storages are assigned under a factor, by what is tested of each replica.
use Rattle.std.specs.Prelude.{ℕ, ◌≡◌, ◌==◌, ◌-◌, ◌&&◌, ◌||◌, not, nat_lt, Bool, true, if◌then◌else◌, length, map, slice_get, Option, None, Some}
use Rattle.px_ops.specs.declared.refusal.Refusal.{Refusal}
use Rattle.px_ops.specs.declared.refusal.Refusal.TheVariants as refusal
use Rattle.px_cluster.specs.Book.{Replica, Repository, is_absent, storages_where}
use Rattle.px_cluster.specs.Core.{Core}
use Rattle.px_cluster.specs.Factor.{assigned_now, is_spared, spared}
use Rattle.px_cluster.specs.Ids.{storage_number}
use Rattle.px_cluster.specs.Refusals.{cause}
use Rattle.genbook.specs.Changes.{AreAscending}
use Rattle.router.specs.declared.factor.Bounds.{Bounds}

-- the factor is 0, or there are fewer replicas
abbrev pub bad_factor : Repository → ℕ → Option Refusal
bad_factor repo factor = cause ((factor == 0) || nat_lt (length repo.replicas) factor)
    (refusal.BadFactor (length repo.replicas))

-- the storage is below this one, where there is one
abbrev pub is_below : ℕ → Option ℕ → Bool
is_below storage None = true
is_below storage (Some bound) = nat_lt storage bound

-- the storage is assigned, and is not the one that is spared
abbrev pub may_leave : Option ℕ → Replica → Bool
may_leave spared replica = replica.assigned && not (is_spared spared replica.storage)

-- there is a replica, on a storage that is not assigned
abbrev pub is_there : Replica → Bool
is_there replica = not replica.assigned && not (is_absent replica.booking)

-- there is none yet, on a storage that is not assigned
abbrev pub is_away : Replica → Bool
is_away replica = not replica.assigned && is_absent replica.booking

-- how many storages are to be left, and to be added
abbrev pub fewer : Repository → ℕ → ℕ
fewer repo factor = length (assigned_now repo) - factor

abbrev pub more : Repository → ℕ → ℕ
more repo factor = factor - length (assigned_now repo)

-- the storage of a place among those whose replicas pass a test, by number
abbrev pub nth_where : (Replica → Bool) → Repository → ℕ → Option ℕ
nth_where test repo place = slice_get (storages_where test repo) place

-- the first that is left; the first that is not added, of those that have a replica, and of the others
abbrev pub first_left : Core → Repository → ℕ → Option ℕ
first_left core repo factor = nth_where (may_leave (spared core repo)) repo
    (length (storages_where (may_leave (spared core repo)) repo) - fewer repo factor)

abbrev pub end_of_there : Repository → ℕ → Option ℕ
end_of_there repo factor = nth_where is_there repo (more repo factor)

abbrev pub end_of_away : Repository → ℕ → Option ℕ
end_of_away repo factor = nth_where is_away repo
    (more repo factor - length (storages_where is_there repo))

-- the replicas stand by the numbers of their storages
abbrev pub AreByNumber : Repository → Type 0
AreByNumber repo = AreAscending (map (λ (replica : Replica). replica.storage) repo.replicas)

-- these bounds are those of the factor
pub record AreBounds (core : Core) (repo : Repository) (factor : ℕ) (bounds : Bounds) : Type 0 where
  pub spared : storage_number bounds.spared ≡ spared core repo
  pub left : storage_number bounds.left ≡ first_left core repo factor
  pub there : storage_number bounds.there ≡ end_of_there repo factor
  pub away : storage_number bounds.away ≡ end_of_away repo factor

-- the storage is assigned by these bounds
abbrev pub is_within : Bounds → Replica → Bool
is_within bounds replica =
    if replica.assigned
    then is_spared (storage_number bounds.spared) replica.storage
    || is_below replica.storage (storage_number bounds.left)
    else if is_absent replica.booking
    then is_below replica.storage (storage_number bounds.away)
    else is_below replica.storage (storage_number bounds.there)
