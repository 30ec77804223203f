-- How the events on replication jobs are spelled.
use Rattle.std.specs.Prelude.{◌<◌, ◌-◌, ◌^◌, ◌≡◌, ℕ, List, [], ◌∷◌, true, false, None, codes, decimal, ⊤}
use Rattle.px_base.specs.StorageName.{IsStorageName}
use Rattle.px_base.specs.declared.ids.JobId.{JobId}
use Rattle.px_ops.specs.declared.op.Op.TheVariants.{Ack, Beat, Reconcile, SetFactor, Stale}
use Rattle.px_script.specs.declared.event.Event.{Event}
use Rattle.px_script.specs.declared.event.Event.TheVariants.{Apply, Operation, Remove, Snapshot, Take}

-- the words of an event; numbers are decimal, with no sign and no leading zero; another event than
-- these has none
abbrev pub job_words : Event → List (List ℕ)
job_words (Operation (Reconcile None)) = codes "reconcile" ∷ []
job_words (Take name now) = codes "take" ∷ name ∷ decimal now ∷ []
job_words (Snapshot job lease) = codes "snapshot" ∷ decimal job.0 ∷ decimal lease ∷ []
job_words (Apply job lease) = codes "apply" ∷ decimal job.0 ∷ decimal lease ∷ []
job_words (Remove job lease) = codes "remove" ∷ decimal job.0 ∷ decimal lease ∷ []
job_words (Operation (Ack job lease true)) =
    codes "done" ∷ decimal job.0 ∷ decimal lease ∷ []
job_words (Operation (Ack job lease false)) =
    codes "fail" ∷ decimal job.0 ∷ decimal lease ∷ []
job_words (Operation (Beat job lease now)) =
    codes "beat" ∷ decimal job.0 ∷ decimal lease ∷ decimal now ∷ []
job_words (Operation (Stale now after)) = codes "stale" ∷ decimal now ∷ decimal after ∷ []
job_words (Operation (SetFactor repo factor)) =
    codes "factor" ∷ decimal repo.0 ∷ decimal factor ∷ []
job_words other = []

-- a job and a lease whose numbers are in their ranges
abbrev pub IsLawfulWork : JobId → ℕ → Type 0
IsLawfulWork job lease = (job.0 < 2 ^ 64) × (lease < 2 ^ 64 - 1)

-- one of these events, whose name is that of a storage, and whose numbers are in their ranges; a
-- plan is asked for of all repositories
abbrev pub IsLawfulJob : Event → Type 0
IsLawfulJob (Operation (Reconcile None)) = ⊤
IsLawfulJob (Take name now) = IsStorageName name × (now < 2 ^ 64)
IsLawfulJob (Snapshot job lease) = IsLawfulWork job lease
IsLawfulJob (Apply job lease) = IsLawfulWork job lease
IsLawfulJob (Remove job lease) = IsLawfulWork job lease
IsLawfulJob (Operation (Ack job lease good)) = IsLawfulWork job lease
IsLawfulJob (Operation (Beat job lease now)) =
    (job.0 < 2 ^ 64) × (lease < 2 ^ 64 - 1) × (now < 2 ^ 64)
IsLawfulJob (Operation (Stale now after)) = (now < 2 ^ 64) × (after < 2 ^ 64)
IsLawfulJob (Operation (SetFactor repo factor)) = (repo.0 < 2 ^ 32) × (factor < 2 ^ 32)
IsLawfulJob other = ⊥

-- the words are a line on replication jobs that asks for the event
abbrev pub IsJobLine : Event → List (List ℕ) → Type 0
IsJobLine event words = IsLawfulJob event × (words ≡ job_words event)
