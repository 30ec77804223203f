-- The jobs of all replicas, changed at once: as a plan does, or the giving up of workers that are not
-- heard of.
use Rattle.std.specs.Prelude.{◌≡◌, ℕ, ◌<◌, Option, Some}
use Rattle.replica_invariant.specs.Booking.{Absent}
use Rattle.replica_invariant.specs.Invariant.{Invariant}
use Rattle.replica_invariant.specs.Jobs.{CanPlan, with_job}
use Rattle.replica_invariant.specs.ReplicaClauses.{JobClause}
use Rattle.replica_invariant.specs.State.{Job, JobState, Running, State}

-- A job that the replica on a storage may have: it is as jobs are, the storage is admitted, and some
-- replica is not absent.
pub record MayHave (state : State) (storage : ℕ) (job : Job) : Type 0 where
  pub clause : JobClause state.shared.newest (state.replica storage).kept
      (state.replica storage).purpose (state.replica storage).booking
      (state.replica storage).floor job
  pub known : storage < state.admitted
  pub some : ((other : ℕ) → (state.replica other).booking ≡ Absent) → ⊥

abbrev pub with_jobs : State → (ℕ → Option Job) → State
with_jobs state jobs = record state {
  replica = λ storage. with_job (state.replica storage) (jobs storage);
}

-- where each replica may have the job that it gets, the invariant stays
abbrev pub JobsKeep : Type 0
JobsKeep = (state : State) (jobs : ℕ → Option Job) → Invariant state
    → ((storage : ℕ) (job : Job) → jobs storage ≡ Some job → MayHave state storage job)
    → Invariant (with_jobs state jobs)

-- a replica may have the job that it has
abbrev pub OldJobsFit : Type 0
OldJobsFit = (state : State) (storage : ℕ) (job : Job) → Invariant state
    → (state.replica storage).job ≡ Some job → MayHave state storage job

-- and a job that it may have in any state in which that does not run
abbrev pub IdleJobsFit : Type 0
IdleJobsFit = (state : State) (storage : ℕ) (job : Job) (then_ : JobState)
    → ((lease : ℕ) → then_ ≡ Running lease → ⊥) → MayHave state storage job
    → MayHave state storage (record job { state = then_ })

-- and one that may be planned for it
abbrev pub PlannedJobsFit : Type 0
PlannedJobsFit = (state : State) (storage : ℕ) (job : Job) → Invariant state
    → CanPlan state storage job → MayHave state storage job
