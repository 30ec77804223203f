-- An answer that is kept, or an effect that is issued, under a lease that was drawn: what stays.
use Rattle.std.proofs.Common.{Bool, false, Option, subst, sym, true, ℕ, ◌<◌, ◌∙◌, ◌≡◌, ◌≤◌}
use Rattle.replica_invariant.specs.Contents.{Vote}
use Rattle.replica_invariant.specs.Purposes.{is_creation, Purpose, Pushing, Unused}
use Rattle.replica_invariant.specs.ReplicaClauses.{ReplicaClauses}
use Rattle.replica_invariant.specs.State.{Replica, Shared, with_value}
use Rattle.push_events.proofs.Dead.{used_named}
use Rattle.push_events.proofs.Purposes.{IsPush}
use Rattle.push_events.proofs.Values.{value_case, value_elsewhere}

module _ (sh : Shared) (r : Replica) (l : ℕ) (c : Purpose) (h : ReplicaClauses sh r)
    (used : r.purpose l ≡ Unused → ⊥)
    (push : (w : ℕ) → IsPush (r.purpose l) w → IsPush c w)
    (back : (w : ℕ) → IsPush c w → IsPush (r.purpose l) w)
    (creation : is_creation c ≡ is_creation (r.purpose l)) where
  pub renamed_kept : l ≤ r.kept
  renamed_kept = used_named sh r h.lease l used

  pub re_push : (k w : ℕ) → IsPush (r.purpose k) w → IsPush (with_value r.purpose l c k) w
  re_push k w =
      value_case (λ y d. IsPush (r.purpose y) w → IsPush d w) r.purpose l c k (push w) (λ z q. q)

  pub re_zero : with_value r.purpose l c 0 ≡ Unused
  re_zero =
      value_elsewhere r.purpose l c 0 (λ z. used (subst (λ y. r.purpose y ≡ Unused) z h.lease.zero))
      ∙ h.lease.zero

  pub re_drawn : (k : ℕ) → r.kept < k → with_value r.purpose l c k ≡ Unused
  re_drawn k b =
      value_elsewhere r.purpose l c k
      (λ z. used (subst (λ y. r.purpose y ≡ Unused) z (h.lease.drawn k b))) ∙ h.lease.drawn k b

  pub re_begun : (k w : ℕ) (o : Option Vote) (a : Bool) → with_value r.purpose l c k ≡ Pushing w o a
      → w ≤ sh.newest
  re_begun k w o a = value_case (λ y d. d ≡ Pushing w o a → w ≤ sh.newest) r.purpose l c k
      (λ q. let v = back w (o, a, q) in h.commit.begun l w (v.0) (v.1) (v.2))
      (λ z q. h.commit.begun k w o a q)

  pub re_creating : (k : ℕ) → is_creation (with_value r.purpose l c k) ≡ true → k ≤ sh.creation
  re_creating k =
      value_case (λ y d. is_creation d ≡ true → y ≤ sh.creation) r.purpose l c k
      (λ q. h.create.creating l (sym creation ∙ q)) (λ z q. h.create.creating k q)

  pub re_early : (k : ℕ) → k ≤ sh.creation → is_creation (with_value r.purpose l c k) ≡ false
      → with_value r.purpose l c k ≡ Unused
  re_early k =
      value_case (λ y d. y ≤ sh.creation → is_creation d ≡ false → d ≡ Unused) r.purpose l c k
      (λ b q. absurd (used (h.create.early l b (sym creation ∙ q)))) (λ z b q. h.create.early k b q)
