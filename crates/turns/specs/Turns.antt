-- The open pushes, and which of them has the turn of which repository.
use Rattle.std.specs.Prelude.{◌≡◌, ◌==◌, ℕ, true, if◌then◌else◌, cond, List, Option, None, Some}
use Rattle.std.specs.BTreeMap.{is_at}
use Rattle.std.specs.List.{AllByRecursion}
use Rattle.std.specs.List.Sorted.{IsStrictlySortedBy}
use Rattle.std.specs.Map.{keys_of, lookup}
use Rattle.std.specs.Ordering.{nat_cmp}
use Rattle.px_base.specs.declared.ids.TxId.{TxId}
use Rattle.px_cluster.specs.Core.{Core, OpenPush, empty, with_push_changed}
use Rattle.px_cluster.specs.Pushes.{ended}

-- a core in which these pushes are open, and nothing else is known
abbrev pub core_with_pushes : List OpenPush → Core
core_with_pushes pushes = record empty { pushes = pushes }

-- the push of a transaction changed, and no other
abbrev pub changed : TxId → (OpenPush → OpenPush) → List OpenPush → List OpenPush
changed tx change pushes = (with_push_changed tx change (core_with_pushes pushes)).pushes

-- without the push of a transaction
abbrev pub without : TxId → List OpenPush → List OpenPush
without tx pushes = (ended tx (core_with_pushes pushes)).pushes

-- the transaction of the push was canceled
abbrev pub canceled : OpenPush → OpenPush
canceled push = record push { canceled = true }

-- the transaction of the push was stopped
abbrev pub stopped : OpenPush → OpenPush
stopped push = record push { stopped = true }

-- the push, where it is one of the repository
abbrev pub of_repository : ℕ → Option OpenPush → Option OpenPush
of_repository repo None = None
of_repository repo (Some push) = if push.repo == repo then Some push else None

-- ---- how they are kept

-- each push stands under the number of its transaction
abbrev pub AreNumbered : List (ℕ × OpenPush) → Type 0
AreNumbered numbered = AllByRecursion (λ (entry : ℕ × OpenPush). entry.0 ≡ entry.1.tx.0) numbered

-- under the repository of each push stands its transaction
abbrev pub HaveTurns : List (ℕ × TxId) → List (ℕ × OpenPush) → Type 0
HaveTurns holders numbered = AllByRecursion
    (λ (entry : ℕ × OpenPush). lookup (is_at (nat_cmp entry.1.repo)) holders ≡ Some entry.1.tx) numbered

-- the pushes by ascending numbers, and the holders of turns
pub record AreKept (numbered : List (ℕ × OpenPush)) (holders : List (ℕ × TxId)) : Type 0 where
  pub numbers : AreNumbered numbered
  pub ascend : IsStrictlySortedBy nat_cmp (keys_of numbered)
  pub turns : HaveTurns holders numbered

-- under the repository stands the transaction, or nothing, and all else is as before
abbrev pub Holds : ℕ → Option TxId → List (ℕ × TxId) → List (ℕ × TxId) → Type 0
Holds repo tx old new = (other : ℕ) → lookup (is_at (nat_cmp other)) new
    ≡ cond (is_at (nat_cmp repo) other) tx (lookup (is_at (nat_cmp other)) old)
