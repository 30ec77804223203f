-- How causes of refusal stand together, and those that come from votes.
use Rattle.std.specs.Prelude.{ℕ, ◌-◌, ◌^◌, not, nat_lt, Bool, if◌then◌else◌, List, [], ◌∷◌, Option, None, Some, Result, Ok, Err}
use Rattle.px_ops.specs.declared.refusal.Refusal.{Refusal}
use Rattle.px_ops.specs.declared.refusal.Refusal.TheVariants as refusal
use Rattle.txmanager.specs.declared.refusal.TxRefusal.{TxRefusal}
use Rattle.txmanager.specs.declared.refusal.TxRefusal.TheVariants as tx
use Rattle.voters.specs.declared.panel.PanelRefusal.{PanelRefusal}
use Rattle.voters.specs.declared.panel.PanelRefusal.TheVariants as panel

-- a cause, where it holds
abbrev pub cause : Bool → Refusal → Option Refusal
cause holds refusal = if holds then Some refusal else None

-- the first cause that holds, in the order in which they are tested
abbrev pub first_cause : List (Option Refusal) → Option Refusal
first_cause [] = None
first_cause (None ∷ causes) = first_cause causes
first_cause (Some refusal ∷ causes) = Some refusal

-- ---- numbers that end

-- leases end at 2^64 - 2, and generations and transactions at 2^64 - 1
abbrev pub leases_spent : ℕ → Option Refusal
leases_spent last = cause (not (nat_lt last (2 ^ 64 - 2))) refusal.LeasesSpent

abbrev pub generations_spent : ℕ → Option Refusal
generations_spent newest = cause (not (nat_lt newest (2 ^ 64 - 1))) refusal.GenerationsSpent

abbrev pub transactions_spent : ℕ → Option Refusal
transactions_spent last = cause (not (nat_lt last (2 ^ 64 - 1))) refusal.TransactionsSpent

-- ---- votes

abbrev pub of_transaction : TxRefusal → Refusal
of_transaction (tx.UnknownTx number) = refusal.UnknownTx number
of_transaction (tx.NotAVoter name) = refusal.NotAVoter name
of_transaction tx.Finished = refusal.Finished
of_transaction (tx.WrongPhase due) = refusal.WrongPhase due
of_transaction tx.Canceled = refusal.Canceled
of_transaction tx.Stopped = refusal.Stopped
of_transaction (tx.AlreadyVoted hash) = refusal.AlreadyVoted hash
of_transaction tx.Decided = refusal.Decided
of_transaction (tx.NoSub sub) = refusal.NoSub sub

-- the refusal of what a transaction is asked
abbrev pub refusal_in : {A : Type 0} → Result A TxRefusal → Option Refusal
refusal_in (Ok answer) = None
refusal_in (Err why) = Some (of_transaction why)

-- why there is no such panel; want of memory is no refusal
abbrev pub of_panel : Option PanelRefusal → Option Refusal
of_panel None = None
of_panel (Some panel.NoVoters) = Some refusal.NoVoters
of_panel (Some (panel.TooManyVoters voters)) = Some (refusal.TooManyVoters voters)
of_panel (Some (panel.DuplicateVoter name)) = Some (refusal.DuplicateVoter name)
of_panel (Some (panel.BadThreshold total threshold)) = Some (refusal.BadThreshold total threshold)
of_panel (Some panel.Memory) = None
