-- What is shown of votes, and of what ends them: the list of its own events that each is to each
-- repository.
use Rattle.std.specs.Prelude.{ℕ, List}
use Rattle.px_base.specs.declared.hash.Hash.{Hash}
use Rattle.px_base.specs.declared.ids.TxId.{TxId}
use Rattle.px_base.specs.declared.phase.Phase.{Phase}
use Rattle.px_ops.specs.declared.op.Op.TheVariants as op
use Rattle.cluster_history.specs.Goes.{OpGoesOn}

-- a vote, in either phase, of a push or of another transaction
abbrev pub CastGoesOn : Type 0
CastGoesOn = (tx : TxId) (voter : List ℕ) (phase : Phase) (hash : Hash)
    → OpGoesOn (op.Cast tx voter phase hash)

abbrev pub WithdrawalGoesOn : Type 0
WithdrawalGoesOn = (tx : TxId) (voter : List ℕ) → OpGoesOn (op.Withdraw tx voter)

abbrev pub CancelGoesOn : Type 0
CancelGoesOn = (tx : TxId) → OpGoesOn (op.Cancel tx)

abbrev pub StopGoesOn : Type 0
StopGoesOn = (tx : TxId) → OpGoesOn (op.Stop tx)
