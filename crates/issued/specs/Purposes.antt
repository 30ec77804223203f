-- What is kept of a lease, as the rules have it.
use Rattle.std.specs.Prelude.{ℕ, false, Option, None, Some}
use Rattle.std.specs.Option.{option_map}
use Rattle.px_base.specs.declared.hash.Hash.{Hash}
use Rattle.px_base.specs.declared.ids.StorageId.{StorageId}
use Rattle.voters.specs.Verdict.{Standing}
use Rattle.px_cluster.specs.Ledger as ledger
use Rattle.issued.specs.declared.purpose.Drawn.{Drawn}
use Rattle.issued.specs.declared.purpose.Drawn.TheVariants as draws
use Rattle.issued.specs.declared.purpose.Purpose.{Purpose}
use Rattle.issued.specs.declared.purpose.Purpose.TheVariants.{Creation, Push, Update, Delete, Fence}

-- the hash of the commit that was issued, where it was
abbrev pub hash_in : Option Standing → Option Hash
hash_in verdict = option_map (λ (standing : Standing). standing.hash) verdict

-- where nothing is kept, no effect was issued
abbrev pub purpose_of : Option Purpose → ledger.Purpose
purpose_of None = ledger.Unused
purpose_of (Some (Creation made)) = ledger.Creation made
purpose_of (Some (Push begun commit answered)) =
    ledger.Pushing begun.0 (hash_in commit) answered
purpose_of (Some (Update job source generation kept answered)) =
    ledger.Updating job.0 source.0 generation.0 kept answered
purpose_of (Some (Delete job answered)) = ledger.Deleting job.0 answered
purpose_of (Some (Fence answer)) = ledger.Fencing answer

-- .. of a lease that is just drawn
abbrev pub purpose_drawn : Drawn → ledger.Purpose
purpose_drawn draws.Creation = ledger.Creation false
purpose_drawn (draws.Push begun) = ledger.Pushing begun.0 None false
purpose_drawn (draws.Update job source generation) =
    ledger.Updating job.0 source.0 generation.0 None false
purpose_drawn (draws.Delete job) = ledger.Deleting job.0 false
purpose_drawn draws.Fence = ledger.Fencing None

abbrev pub number_of : StorageId → ℕ
number_of storage = storage.0
