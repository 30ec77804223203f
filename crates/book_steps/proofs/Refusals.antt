-- What holds where an operation is not refused.
use Rattle.std.proofs.Common.{◌≡◌, ℕ, ◌==◌, not, Bool, true, false, Option, None, Some, refl, is_some}
use Rattle.std.specs.Option.{option_or}
use Rattle.px_ops.specs.declared.refusal.Refusal.{Refusal}
use Rattle.px_cluster.specs.Book.{Replica, Repository, has_replica_on, replica_on}
use Rattle.px_cluster.specs.Core.{Core}
use Rattle.px_cluster.specs.Creating.{lease_lost, unknown_storage}
use Rattle.px_cluster.specs.Refusals.{cause}
use Rattle.px_ops.specs.declared.refusal.Refusal.TheVariants as refusal
use Rattle.cluster_form.proofs.Lists.{same_number}

-- the second of two that did not come
pub second_none : {A : Type 0} (first later : Option A) → option_or first later ≡ None
    → later ≡ None
second_none None later is = is
second_none (Some x) later is = absurd (cc)

-- a cause that is the want of a fact
pub holds : (b : Bool) (why : Refusal) → cause (not b) why ≡ None → b ≡ true
holds true why is = refl
holds false why is = absurd (let z : Some why ≡ None = is in cc)

-- the lease that is given is the one that is kept
pub lease_is : (kept given : ℕ) → lease_lost kept given ≡ None → kept ≡ given
lease_is kept given is =
    same_number kept given (holds (kept == given) (refusal.LeaseLost kept given) is)

-- what is there
pub is_there : {A : Type 0} (there : Option A) → is_some there ≡ true → (x : A) × (there ≡ Some x)
is_there None is = absurd (let z : false ≡ true = is in cc)
is_there (Some x) is = (x, refl)

-- the replica on a storage that is known
pub replica_known : (core : Core) (book : Repository) (storage : ℕ)
    → unknown_storage core book storage ≡ None
    → (replica : Replica) × (replica_on book storage ≡ Some replica)
replica_known core book storage is =
    is_there (replica_on book storage) (holds (has_replica_on book storage) _ is)
