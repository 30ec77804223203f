-- An act on a transaction that nothing refuses: the transaction is there, and what the act leaves.
use Rattle.std.proofs.Common.{◌≡◌, List, [], ◌∷◌, Option, None, Some, Result, Ok, Err, refl, length, arith}
use Rattle.px_base.specs.declared.ids.TxId.{TxId}
use Rattle.txmanager.specs.Registry.{answer_at}
use Rattle.txmanager.specs.Voting.{Voting, unless_err}
use Rattle.txmanager.specs.declared.refusal.TxRefusal.{TxRefusal}
use Rattle.txmanager.specs.declared.refusal.TxRefusal.TheVariants.{UnknownTx}
use Rattle.px_cluster.specs.Core.{Core, voting}
use Rattle.px_cluster.specs.Ops.{refused_at}
use Rattle.px_cluster.specs.Refusals.{of_transaction, refusal_in}

-- what is refused has a cause
pub never_refused : {P : Type 0} (why : TxRefusal) → Some (of_transaction why) ≡ None → P
never_refused why is = absurd (cc)

-- an answer without a refusal leaves the new state
pub led_on : {A S : Type 0} (answer : Result A TxRefusal) (old new : S) → refusal_in answer ≡ None
    → unless_err answer old new ≡ new
led_on (Ok value) old new none = refl
led_on (Err why) old new none = never_refused why none

-- the transaction is there, and its own answer is no refusal
pub record IsAsked {A : Type 0} (core : Core) (tx : TxId) (answer : Voting → Result A TxRefusal)
    : Type 0 where
  pub vote : Voting
  pub there : voting core tx ≡ Some vote
  pub accepted : refusal_in (answer vote) ≡ None

-- an operation on a transaction that is not refused
pub asked_at : {A : Type 0} (core : Core) (tx : TxId) (answer : Voting → Result A TxRefusal)
    → refused_at core tx answer ≡ None → IsAsked core tx answer
asked_at core tx answer none = by (voting core tx) refl none
  where
    by : (vote : Option Voting) → voting core tx ≡ vote
        → refusal_in (answer_at vote tx answer) ≡ None → IsAsked core tx answer
    by None there accepted = never_refused (UnknownTx tx) accepted
    by (Some vote) there accepted = record { vote = vote; there = there; accepted = accepted }

-- ---- two subtransactions

-- a list of two elements
pub two_of : {A : Type 0} (xs : List A) → length xs ≡ 2 → (a : A) × (b : A) × (xs ≡ a ∷ b ∷ [])
two_of [] two = absurd (omega (arith, two))
two_of (a ∷ []) two = absurd (omega (arith, two))
two_of (a ∷ b ∷ []) two = (a, b, refl)
two_of (a ∷ b ∷ c ∷ xs) two = absurd (omega (arith, two))
