-- What an event of a script is to the cluster, where a storage's name becomes its number.
use Rattle.std.specs.Prelude.{ℕ, List, Option, None, Some, Result, Ok, Err}
use Rattle.px_ops.specs.declared.op.Op.TheVariants as op
use Rattle.px_ops.specs.declared.refusal.Refusal.{Refusal}
use Rattle.px_ops.specs.declared.refusal.Refusal.TheVariants.{UnknownStorage}
use Rattle.px_cluster.specs.Core.{Core}
use Rattle.px_cluster.specs.Creating.{has_name}
use Rattle.px_cluster.specs.Events.{Event as Happening}
use Rattle.px_cluster.specs.Events as cluster
use Rattle.px_cluster.specs.Ids.{storage_id}
use Rattle.px_cluster.specs.Numbers.{first_of, places_of}
use Rattle.px_script.specs.declared.event.Event.{Event}
use Rattle.px_script.specs.declared.event.Event.TheVariants as script

-- the number of the storage with a name, where there is one
abbrev pub storage_named : Core → List ℕ → Option ℕ
storage_named core name = first_of (places_of (has_name name) core.storages)

-- what happens at a storage; where there is none, it is refused, whatever else the line says
abbrev pub at_found : List ℕ → (ℕ → Happening) → Option ℕ → Result Happening Refusal
at_found name happening None = Err (UnknownStorage (Some name))
at_found name happening (Some storage) = Ok (happening storage)

-- .. at the storage with a name
abbrev pub at_named : Core → List ℕ → (ℕ → Happening) → Result Happening Refusal
at_named core name happening = at_found name happening (storage_named core name)

-- the event of the cluster that a line asks for; or why there is none
abbrev pub resolved : Core → Event → Result Happening Refusal
resolved core (script.Operation asked) = Ok (cluster.Asks asked)
resolved core (script.Health name up) =
    at_named core name (λ storage. cluster.Asks (op.Health (storage_id storage) up))
resolved core (script.Make name repo lease) =
    at_named core name (λ storage. cluster.Make storage repo.0 lease)
resolved core (script.Enrol repo name lease) =
    at_named core name (λ storage. cluster.Asks (op.Enrol repo (storage_id storage) lease))
resolved core (script.Prepare tx name push) =
    at_named core name (λ storage. cluster.Prepare tx storage push)
resolved core (script.Commit tx name) = at_named core name (λ storage. cluster.Commit tx storage)
resolved core (script.Abort tx name) = at_named core name (λ storage. cluster.Abort tx storage)
resolved core (script.Refs name repo) = at_named core name (λ storage. cluster.Refs storage repo.0)
resolved core (script.Take name now) =
    at_named core name (λ storage. cluster.Asks (op.Dequeue (storage_id storage) now))
resolved core (script.Snapshot job lease) = Ok (cluster.TakeSnapshot job.0 lease)
resolved core (script.Apply job lease) = Ok (cluster.Apply job.0 lease)
resolved core (script.Remove job lease) = Ok (cluster.Remove job.0 lease)
resolved core (script.AcceptBegin repo name) =
    at_named core name (λ storage. cluster.Asks (op.AcceptBegin repo (storage_id storage)))
resolved core (script.SettleBegin repo name) =
    at_named core name (λ storage. cluster.Asks (op.SettleBegin repo (storage_id storage)))
resolved core (script.Fence name repo lease) =
    at_named core name (λ storage. cluster.Fence storage repo.0 lease)
resolved core (script.Accept repo name lease) =
    at_named core name (λ storage. cluster.Asks (op.Accept repo (storage_id storage) lease))
resolved core (script.Settle repo name lease) =
    at_named core name (λ storage. cluster.Settled repo.0 storage lease)
