-- The pushes that a script hands to nodes, and what is asked of them.
use Rattle.std.specs.Prelude.{◌≡◌, ◌⊎◌, List, [], ◌∷◌, Option, None, Some}
use Rattle.px_base.specs.Update.{AreUpdates}
use Rattle.px_base.specs.declared.ids.TxId.{TxId}
use Rattle.px_base.specs.declared.push.Push.{Push}
use Rattle.px_script.specs.declared.event.Event.{Event}
use Rattle.px_script.specs.declared.event.Event.TheVariants as script
use Rattle.refstore.specs.Hook.{vote_on}
use Rattle.cluster_runs.specs.Lists.{Prepared}

-- the push that an event hands to a member of a transaction
abbrev pub prepared_by : Event → Option Prepared
prepared_by (script.Prepare tx name push) = Some (record { tx = tx; push = push })
prepared_by other = None

-- one of the events hands this push to a member of the transaction
abbrev pub IsPreparedIn : List Event → TxId → Push → Type 0
IsPreparedIn [] tx push = ⊥
IsPreparedIn (event ∷ events) tx push =
    (prepared_by event ≡ Some (record { tx = tx; push = push })) ⊎ IsPreparedIn events tx push

-- The premise on hashes: no two different lists of updates that are prepared under one transaction
-- share a vote, which is the SHA-1 of what Git's reference-transaction hook is given of them.
abbrev pub HaveOneList : List Event → Type 0
HaveOneList events = (tx : TxId) (one other : Push) → IsPreparedIn events tx one
    → IsPreparedIn events tx other → vote_on one.updates ≡ vote_on other.updates
    → one.updates ≡ other.updates

-- the updates of each push are such as the type of pushes keeps them, which is so of all that lines
-- ask for
abbrev pub AreLawful : List Event → Type 0
AreLawful events = (tx : TxId) (push : Push) → IsPreparedIn events tx push → AreUpdates push.updates
