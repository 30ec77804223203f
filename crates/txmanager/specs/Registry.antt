-- The transactions that are registered, in the order of their numbers.
use Rattle.std.specs.Prelude.{ℕ, nat_le, ◌&&◌, Bool, if◌then◌else◌, List, Option, None, Some, Result, Err}
use Rattle.std.specs.BTreeMap.{insert_entry, is_at}
use Rattle.std.specs.Map.{lookup, remove_entry, set_value}
use Rattle.std.specs.Option.{option_map}
use Rattle.std.specs.Ordering.{nat_cmp}
use Rattle.px_base.specs.declared.ids.TxId.{TxId}
use Rattle.txmanager.specs.Voting.{Voting}
use Rattle.txmanager.specs.declared.refusal.RegisterRefusal.{RegisterRefusal}
use Rattle.txmanager.specs.declared.refusal.RegisterRefusal.TheVariants.{BadRounds}
use Rattle.txmanager.specs.declared.refusal.TxRefusal.{TxRefusal}
use Rattle.txmanager.specs.declared.refusal.TxRefusal.TheVariants.{UnknownTx}

-- each transaction beside its number
abbrev pub Registry : Type 0
Registry = List (ℕ × Voting)

-- the transaction of a number, where there is one
abbrev pub transaction_at : Registry → TxId → Option Voting
transaction_at registry tx = lookup (is_at (nat_cmp tx.0)) registry

-- with one transaction more
abbrev pub with_registered : Registry → TxId → Voting → Registry
with_registered registry tx voting = insert_entry nat_cmp registry tx.0 voting

-- with another transaction in the place of that of a number, where there is one
abbrev pub with_transaction : Registry → TxId → Option Voting → Registry
with_transaction registry tx None = registry
with_transaction registry tx (Some voting) = set_value (is_at (nat_cmp tx.0)) registry voting

-- with what becomes of the transaction of a number, where there is one
abbrev pub with_changed : Registry → TxId → (Voting → Voting) → Registry
with_changed registry tx becomes =
    with_transaction registry tx (option_map becomes (transaction_at registry tx))

-- without the transaction of a number
abbrev pub without_transaction : Registry → TxId → Registry
without_transaction registry tx = remove_entry (is_at (nat_cmp tx.0)) registry

-- a transaction has 1 to 8 rounds
abbrev pub are_lawful_rounds : ℕ → Bool
are_lawful_rounds rounds = nat_le 1 rounds && nat_le rounds 8

-- any other number of rounds is refused
abbrev pub rounds_refusal : ℕ → Option RegisterRefusal
rounds_refusal rounds = if are_lawful_rounds rounds then None else Some (BadRounds rounds)

-- what the transaction of a number answers, where there is one
abbrev pub answer_at : {A : Type 0} → Option Voting → TxId → (Voting → Result A TxRefusal)
    → Result A TxRefusal
answer_at None tx answer = Err (UnknownTx tx)
answer_at (Some voting) tx answer = answer voting
