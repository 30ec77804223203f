-- What a lease was drawn for, where an effect of a job was issued under it.
use Rattle.std.proofs.Common.{◌≡◌, ◌==◌, ℕ, Bool, true, false, Option, None, Some, is_some, refl, inl, inr}
use Rattle.node_calls.specs.declared.snapshot.Snapshot.{Snapshot}
use Rattle.px_cluster.specs.Ledger.{Creation, Deleting, Fencing, Purpose, Pushing, Unused, Updating, is_delete_of, snapshot_in, source_in}
use Rattle.cluster_form.proofs.Lists.{bool}

-- an update, with a snapshot
pub record IsApply (number : ℕ) (purpose : Purpose) : Type 0 where
  pub job : ℕ
  pub source : ℕ
  pub generation : ℕ
  pub snapshot : Snapshot
  pub answered : Bool
  pub is : purpose ≡ Updating job source generation (Some snapshot) answered
  pub kept : snapshot_in number purpose ≡ Some snapshot

pub apply_is : (number : ℕ) (purpose : Purpose) → is_some (snapshot_in number purpose) ≡ true
    → IsApply number purpose
apply_is number (Updating job source generation None answered) is =
    elim (bool (job == number)) [
      | inl holds ↦ absurd (let z : false ≡ true = rw holds at is in cc)
      | inr fails ↦ absurd (let z : false ≡ true = rw fails at is in cc)
    ]
apply_is number (Updating job source generation (Some snapshot) answered) is =
    elim (bool (job == number)) [
      | inl holds ↦ record {
        job = job;
        source = source;
        generation = generation;
        snapshot = snapshot;
        answered = answered;
        is = refl;
        kept = rw holds refl;
      }
      | inr fails ↦ absurd (let z : false ≡ true = rw fails at is in cc)
    ]
apply_is number Unused is = absurd (let z : false ≡ true = is in cc)
apply_is number (Creation made) is = absurd (let z : false ≡ true = is in cc)
apply_is number (Pushing begun commit answered) is = absurd (let z : false ≡ true = is in cc)
apply_is number (Deleting job answered) is = absurd (let z : false ≡ true = is in cc)
apply_is number (Fencing last) is = absurd (let z : false ≡ true = is in cc)

-- a delete
pub delete_is : (number : ℕ) (purpose : Purpose) → is_delete_of number purpose ≡ true
    → (job : ℕ) × (answered : Bool) × (purpose ≡ Deleting job answered)
delete_is number (Deleting job answered) is = (job, answered, refl)
delete_is number Unused is = absurd (let z : false ≡ true = is in cc)
delete_is number (Creation made) is = absurd (let z : false ≡ true = is in cc)
delete_is number (Pushing begun commit answered) is = absurd (let z : false ≡ true = is in cc)
delete_is number (Updating job source generation kept answered) is =
    absurd (let z : false ≡ true = is in cc)
delete_is number (Fencing last) is = absurd (let z : false ≡ true = is in cc)

-- an update, with its source
pub record IsUpdate (number : ℕ) (purpose : Purpose) : Type 0 where
  pub job : ℕ
  pub source : ℕ
  pub generation : ℕ
  pub kept : Option Snapshot
  pub answered : Bool
  pub is : purpose ≡ Updating job source generation kept answered
  pub from : source_in number purpose ≡ Some source

pub update_is : (number : ℕ) (purpose : Purpose) → is_some (source_in number purpose) ≡ true
    → IsUpdate number purpose
update_is number (Updating job source generation kept answered) is =
    elim (bool (job == number)) [
      | inl holds ↦ record {
        job = job;
        source = source;
        generation = generation;
        kept = kept;
        answered = answered;
        is = refl;
        from = rw holds refl;
      }
      | inr fails ↦ absurd (let z : false ≡ true = rw fails at is in cc)
    ]
update_is number Unused is = absurd (let z : false ≡ true = is in cc)
update_is number (Creation made) is = absurd (let z : false ≡ true = is in cc)
update_is number (Pushing begun commit answered) is = absurd (let z : false ≡ true = is in cc)
update_is number (Deleting job answered) is = absurd (let z : false ≡ true = is in cc)
update_is number (Fencing last) is = absurd (let z : false ≡ true = is in cc)
