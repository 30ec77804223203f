-- How the events on reads and on repairs are spelled.
use Rattle.std.specs.Prelude.{◌<◌, ◌-◌, ◌^◌, ◌≡◌, ℕ, List, [], ◌∷◌, codes, decimal}
use Rattle.px_base.specs.StorageName.{IsStorageName}
use Rattle.px_base.specs.declared.ids.RepoId.{RepoId}
use Rattle.px_ops.specs.declared.op.Op.TheVariants.{RouteRead}
use Rattle.px_script.specs.declared.event.Event.{Event}
use Rattle.px_script.specs.declared.event.Event.TheVariants.{Accept, AcceptBegin, Fence, Operation, Settle, SettleBegin}

-- the words of an event; numbers are decimal, with no sign and no leading zero; another event than
-- these has none
abbrev pub repair_words : Event → List (List ℕ)
repair_words (Operation (RouteRead repo)) = codes "read" ∷ decimal repo.0 ∷ []
repair_words (AcceptBegin repo name) = codes "accept" ∷ decimal repo.0 ∷ name ∷ []
repair_words (SettleBegin repo name) = codes "settle" ∷ decimal repo.0 ∷ name ∷ []
repair_words (Fence name repo lease) =
    codes "fence" ∷ name ∷ decimal repo.0 ∷ decimal lease ∷ []
repair_words (Accept repo name lease) =
    codes "accepted" ∷ decimal repo.0 ∷ name ∷ decimal lease ∷ []
repair_words (Settle repo name lease) =
    codes "settled" ∷ decimal repo.0 ∷ name ∷ decimal lease ∷ []
repair_words other = []

-- a repository whose number is in its range, and a name that is one of a storage
abbrev pub IsLawfulReplica : RepoId → List ℕ → Type 0
IsLawfulReplica repo name = (repo.0 < 2 ^ 32) × IsStorageName name

-- the same, and a lease that is in its range
abbrev pub IsLawfulFenced : RepoId → List ℕ → ℕ → Type 0
IsLawfulFenced repo name lease = IsLawfulReplica repo name × (lease < 2 ^ 64 - 1)

-- one of these events, whose name is that of a storage, and whose numbers are in their ranges
abbrev pub IsLawfulRepair : Event → Type 0
IsLawfulRepair (Operation (RouteRead repo)) = repo.0 < 2 ^ 32
IsLawfulRepair (AcceptBegin repo name) = IsLawfulReplica repo name
IsLawfulRepair (SettleBegin repo name) = IsLawfulReplica repo name
IsLawfulRepair (Fence name repo lease) = IsLawfulFenced repo name lease
IsLawfulRepair (Accept repo name lease) = IsLawfulFenced repo name lease
IsLawfulRepair (Settle repo name lease) = IsLawfulFenced repo name lease
IsLawfulRepair other = ⊥

-- the words are a line on reads and repairs that asks for the event
abbrev pub IsRepairLine : Event → List (List ℕ) → Type 0
IsRepairLine event words = IsLawfulRepair event × (words ≡ repair_words event)
