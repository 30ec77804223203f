-- The tables of transactions and pushes.
use Rattle.std.proofs.Common.{◌≡◌, ◌<◌, ◌≤◌, ◌==◌, ℕ, not, List, [], ◌∷◌, None, Some, refl, ap, inl, inr, filter, find, arith}
use Rattle.px_base.specs.declared.ids.TxId.{TxId}
use Rattle.std.specs.List.{AllByRecursion}
use Rattle.txmanager.specs.Registry.{Registry, transaction_at}
use Rattle.txmanager.proofs.RegistryLemmas.{apart}
use Rattle.px_cluster.specs.Core.{OpenPush}
use Rattle.cluster_form.proofs.Lists.{bool}

-- where no push is of the transaction, none ends with it
pub none_ends : (tx : TxId) (pushes : List OpenPush)
    → find (λ (push : OpenPush). push.tx.0 == tx.0) pushes ≡ None
    → filter (λ (push : OpenPush). not (push.tx.0 == tx.0)) pushes ≡ pushes
none_ends tx [] none = refl
none_ends tx (push ∷ pushes) none = elim (bool (push.tx.0 == tx.0)) [
  | inl holds ↦ absurd (let z : Some push ≡ None = rw holds at none in cc)
  | inr fails ↦ (rw fails (ap (λ ps. push ∷ ps) (none_ends tx pushes (rw fails at none))))
]

-- no transaction has the next number
pub next_is_free : (last : ℕ) (registry : Registry) (tx : TxId)
    → AllByRecursion (λ entry. entry.0 ≤ last) registry → last < tx.0
    → transaction_at registry tx ≡ None
next_is_free last [] tx given above = refl
next_is_free last (e ∷ es) tx given above =
    rw (apart tx.0 e.0 (λ same. absurd (omega (arith, same, given.0, above))))
    (next_is_free last es tx given.1 above)
