-- What stays of a transaction: once fixed, an outcome stays.
use Rattle.std.specs.Prelude.{◌≡◌, ◌≢◌, ℕ, List, Some}
use Rattle.node_calls.specs.ReplicaState.{NodeState}
use Rattle.px_base.specs.declared.ids.TxId.{TxId}
use Rattle.txmanager.specs.Readings.{outcome_in}
use Rattle.txmanager.specs.Voting.{Voting}
use Rattle.voters.specs.declared.outcome.Outcome.{Outcome}
use Rattle.px_cluster.specs.Astray.{Move, MovesOn}
use Rattle.px_cluster.specs.Cluster.{Cluster, starting_with}
use Rattle.px_cluster.specs.Core.{voting}

-- Of two states of one run, the one before the other, in both of which a transaction is on record: each
-- subtransaction whose outcome is not open in the first has the same outcome in the second.
abbrev pub OutcomesStay : Type 0
OutcomesStay = (node : ℕ → NodeState) (moves more : List Move) (old new : Cluster) (tx : TxId)
    (before now : Voting) (sub : ℕ) (outcome : Outcome) → MovesOn (starting_with node) moves old
    → MovesOn old more new → voting old.core tx ≡ Some before → voting new.core tx ≡ Some now
    → outcome ≢ Outcome.Open → outcome_in sub before.subs ≡ Some outcome
    → outcome_in sub now.subs ≡ Some outcome
