-- What leases were drawn for, as it is seen after one lease has another purpose at the storages
-- that pass a test.
use Rattle.std.proofs.Common.{◌≡◌, ◌==◌, ◌&&◌, ℕ, Bool, true, false, if◌then◌else◌, refl, ◌∙◌, ap, inl, inr}
use Rattle.px_cluster.specs.Ledger.{Ledger, Purpose, with_purposes}
use Rattle.cluster_form.proofs.Lists.{bool, same_number, same_self}
use Rattle.replica_invariant.specs.Purposes as seen
use Rattle.replica_invariant.specs.State.{with_value}
use Rattle.cluster_history.specs.Seen.{seen_purpose}

module _ (ledger : Ledger) (repo : ℕ) (test : ℕ → Bool) (lease : ℕ)
    (change : ℕ → Purpose → Purpose) where
  abbrev new : Ledger
  new = with_purposes ledger repo test lease change

  -- in another repository all is as it was
  pub purposes_elsewhere : (other : ℕ) → (other ≡ repo → ⊥) → new other ≡ ledger other
  purposes_elsewhere other differs = elim (bool (other == repo)) [
    | inl holds ↦ absurd (differs (same_number other repo holds))
    | inr fails ↦ (λ i s l. ap (λ (b : Bool). if b && test s && (l == lease)
        then change s (ledger other s l) else ledger other s l) fails i)
  ]

  -- by whether the storage passes
  by_test : (s l : ℕ) (passes : Bool) → test s ≡ passes → new repo s l
      ≡ (if passes && (l == lease) then change s (ledger repo s l) else ledger repo s l)
  by_test s l passes is = ap (λ (b : Bool). if b && test s && (l == lease)
      then change s (ledger repo s l) else ledger repo s l) (same_self repo)
      ∙ ap (λ (b : Bool). if b && (l == lease)
      then change s (ledger repo s l) else ledger repo s l) is

  -- as it is at a storage that fails the test
  pub purpose_stays : (levels : ℕ → ℕ) (s l : ℕ) → test s ≡ false
      → seen_purpose (levels l) (new repo s l) ≡ seen_purpose (levels l) (ledger repo s l)
  purpose_stays levels s l fails = ap (seen_purpose (levels l)) (by_test s l false fails)

  -- at one that passes it, the lease has the other purpose
  pub purpose_changes : (levels : ℕ → ℕ) (s : ℕ) (purpose : seen.Purpose) → test s ≡ true
      → ((level : ℕ) → seen_purpose level (change s (ledger repo s lease)) ≡ purpose) → (l : ℕ)
      → seen_purpose (levels l) (new repo s l)
      ≡ with_value (λ x. seen_purpose (levels x) (ledger repo s x)) lease purpose l
  purpose_changes levels s purpose passes is l =
      ap (seen_purpose (levels l)) (by_test s l true passes) ∙ elim (bool (l == lease)) [
        | inl holds ↦ (rw holds (ap (λ n. seen_purpose (levels l) (change s (ledger repo s n)))
            (same_number l lease holds) ∙ is (levels l)))
        | inr fails ↦ (rw fails refl)
      ]
