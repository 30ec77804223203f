-- What each operation on pushes and transactions, and a restart, is to each repository: events of
-- it, or nothing.
use Rattle.std.specs.Prelude.{ℕ, Bool, List}
use Rattle.px_base.specs.declared.ids.RepoId.{RepoId}
use Rattle.px_base.specs.declared.ids.StorageId.{StorageId}
use Rattle.px_base.specs.declared.ids.TxId.{TxId}
use Rattle.px_base.specs.declared.voter.Voter.{Voter}
use Rattle.px_ops.specs.declared.op.Op.TheVariants as op
use Rattle.px_cluster.specs.Events as event
use Rattle.cluster_history.specs.Goes.{DeliveryGoesOn, OpGoesOn}

-- ---- pushes and transactions

abbrev pub BeginGoesOn : Type 0
BeginGoesOn = (repo : RepoId) → OpGoesOn (op.Begin repo)

abbrev pub CollectGoesOn : Type 0
CollectGoesOn = (tx : TxId) (voter : List ℕ) (sub : ℕ) → OpGoesOn (op.Collect tx voter sub)

abbrev pub FinishGoesOn : Type 0
FinishGoesOn = (tx : TxId) → OpGoesOn (op.Finish tx)

abbrev pub CloseGoesOn : Type 0
CloseGoesOn = (tx : TxId) → OpGoesOn (op.Close tx)

abbrev pub OpenGoesOn : Type 0
OpenGoesOn = (threshold rounds : ℕ) (voters : List Voter)
    → OpGoesOn (op.Open threshold rounds voters)

abbrev pub RestartGoesOn : Type 0
RestartGoesOn = DeliveryGoesOn event.Restart

-- ---- what nothing is seen of

abbrev pub HealthGoesOn : Type 0
HealthGoesOn = (storage : StorageId) (up : Bool) → OpGoesOn (op.Health storage up)

abbrev pub OutcomeGoesOn : Type 0
OutcomeGoesOn = (tx : TxId) (sub : ℕ) → OpGoesOn (op.Outcome tx sub)

abbrev pub RouteReadGoesOn : Type 0
RouteReadGoesOn = (repo : RepoId) → OpGoesOn (op.RouteRead repo)

abbrev pub BookedGoesOn : Type 0
BookedGoesOn = (repo : RepoId) → OpGoesOn (op.Booked repo)

abbrev pub FindGoesOn : Type 0
FindGoesOn = (virt path : List ℕ) → OpGoesOn (op.Find virt path)

abbrev pub HolderGoesOn : Type 0
HolderGoesOn = (repo : RepoId) → OpGoesOn (op.Holder repo)
