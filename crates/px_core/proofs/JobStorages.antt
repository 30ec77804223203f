-- The storages that jobs name are known; and a plan is such as the queue takes it.
use Rattle.std.proofs.Common.{◌≡◌, ◌<◌, ◌+◌, ◌-◌, ◌^◌, ◌==◌, ◌&&◌, ◌||◌, ℕ, zero, suc, not, List, [], ◌∷◌, true, false, is_none, if◌then◌else◌, Option, None, Some, IfSome, refl, ap, subst, inl, inr, length, map, flat_map, slice_get, take, arith}
use Rattle.std.specs.List.{AllByRecursion}
use Rattle.std.specs.Option.{option_map}
use Rattle.px_ops.specs.declared.job.Job.{Job}
use Rattle.px_ops.specs.declared.job.JobKind.{JobKind}
use Rattle.px_ops.specs.declared.job.JobKind.TheVariants.{Update, Delete}
use Rattle.px_ops.specs.declared.refusal.Refusal.TheVariants as refusal
use Rattle.px_cluster.specs.Book.{Replica, Repository, Storage, is_absent, is_assigned, is_newest, is_newest_on}
use Rattle.px_cluster.specs.Core.{Core, is_current, is_in_push, is_up, known_name, repository}
use Rattle.px_cluster.specs.Ids.{job_id, storage_number}
use Rattle.px_cluster.specs.Jobs.{are_assigned_newest, is_locked, is_ready, sources_for}
use Rattle.px_cluster.specs.Members.{kept_or_first}
use Rattle.px_cluster.specs.Numbers.{first_of}
use Rattle.px_cluster.specs.Ops.{no_storage}
use Rattle.px_cluster.specs.Plan.{all_planned, new_job, numbered, plan, planned_at, update_from, wanted_at}
use Rattle.px_cluster.specs.Taking.{Drop, PassOver, Take, take_from, taking_by}
use Rattle.cluster_form.proofs.JobLists.{all_numbered}
use Rattle.cluster_form.proofs.Lists.{all_both, all_such, bool, choose}
use Rattle.cluster_form.proofs.OneOf.{all_taken, first_one, kept_one, one_has}
use Rattle.cluster_form.proofs.PlannedJobs.{all_of_books}
use Rattle.cluster_form.proofs.TurnsKept.{not_caused}
use Rattle.px_core.specs.Known.{AreJobsKnown, IsJobKnown, IsKnown, IsSourceKnown}
use Rattle.px_core.specs.Sound.{IsSound}
use Rattle.px_core.proofs.Planning.{of_where, replicas_known}

-- a job that is ready, and names known storages
record IsMade (storages : List Storage) (job : Job) : Type 0 where
  pub target : IsKnown storages job.target
  pub source : IsSourceKnown storages job.source
  pub ready : is_ready job.state ≡ true

abbrev AreMade : List Storage → List Job → Type 0
AreMade storages jobs = AllByRecursion (IsMade storages) jobs

-- ---- a storage that has a name

named_within : (storages : List Storage) (n : ℕ)
    → is_none (option_map (λ (known : Storage). known.name) (slice_get storages n)) ≡ false
    → n < length storages
named_within [] n some = absurd (let z : true ≡ false = some in cc)
named_within (storage ∷ storages) zero some = omega arith
named_within (storage ∷ storages) (suc n) some =
    let rest = named_within storages n some in omega (arith, rest)

pub storage_known : (core : Core) (storage : ℕ) → no_storage core storage ≡ None
    → storage < length core.storages
storage_known core storage none = named_within core.storages storage
    (not_caused (is_none (known_name core storage)) (refusal.UnknownStorage None) none)

-- ---- the storages that a job of a repository may be copied from

module _ (core : Core) (sound : IsSound core) (repo : ℕ) (book : Repository)
    (there : repository core repo ≡ Some book) where
  sources_known : (target : ℕ)
      → AllByRecursion (λ n. n < length core.storages) (sources_for core book target)
  sources_known target = of_where (λ n. n < length core.storages)
      (λ (replica : Replica). is_current core book replica && not (replica.storage == target))
      book.replicas (replicas_known core sound repo book there)

  -- ---- of a job that is taken

  pub source_is_known : (job : Job) (kind : JobKind) (source : Option ℕ)
      → taking_by core book job kind ≡ Take source
      → IfSome source (λ n. n < length core.storages)
  source_is_known job Update source is =
      elim (bool (not (is_assigned book job.target.0) || is_newest_on book job.target.0)) [
        | inl holds ↦ absurd (let z : Drop ≡ Take source = rw holds at is in cc)
        | inr fails ↦ by (kept_or_first (sources_for core book job.target.0)
            (storage_number job.source)) (λ n found. one_has (λ n. n < length core.storages)
            (sources_for core book job.target.0) n (sources_known job.target.0)
            (kept_one (sources_for core book job.target.0) (storage_number job.source) n found))
            (rw fails at is)
      ]
    where
      by : (from : Option ℕ) → ((n : ℕ) → from ≡ Some n → n < length core.storages)
          → take_from from ≡ Take source → IfSome source (λ n. n < length core.storages)
      by None known none = absurd (let z : PassOver ≡ Take source = none in cc)
      by (Some n) known some =
          let z : Take (Some n) ≡ Take source = some in
          let same : Some n ≡ source = cc in
          subst (λ (s : Option ℕ). IfSome s (λ n. n < length core.storages)) same (known n refl)
  source_is_known job Delete source is =
      elim (bool (is_assigned book job.target.0 || not (are_assigned_newest book))) [
        | inl holds ↦ absurd (let z : Drop ≡ Take source = rw holds at is in cc)
        | inr fails ↦ (let z : Take None ≡ Take source = rw fails at is in
            let same : None ≡ source = cc in
            subst (λ (s : Option ℕ). IfSome s (λ n. n < length core.storages)) same tt)
      ]

  -- ---- of a job that is planned

  update_made : (target : ℕ) → target < length core.storages → (from : Option ℕ)
      → first_of (sources_for core book target) ≡ from
      → AreMade core.storages (update_from from repo book target)
  update_made target known None is = tt
  update_made target known (Some source) is = (
    record {
      target = known;
      source = one_has (λ n. n < length core.storages) (sources_for core book target) source
          (sources_known target) (first_one (sources_for core book target) source is);
      ready = refl;
    },
    tt,
  )

  wanted_made : (replica : Replica) → replica.storage < length core.storages
      → AreMade core.storages (wanted_at core repo book replica)
  wanted_made replica known =
      let update = update_from (first_of (sources_for core book replica.storage)) repo book
      replica.storage in
      let delete = new_job Delete repo book replica.storage None ∷ [] in
      choose (AreMade core.storages) replica.assigned
      (if is_newest book replica then [] else update)
      (if is_absent replica.booking || not (are_assigned_newest book) then [] else delete)
      (λ assigned. choose (AreMade core.storages) (is_newest book replica) [] update
      (λ newest. tt) (λ behind. update_made replica.storage known _ refl))
      (λ unassigned. choose (AreMade core.storages)
      (is_absent replica.booking || not (are_assigned_newest book)) [] delete
      (λ kept. tt) (λ gone. (record { target = known; source = tt; ready = refl }, tt)))

  planned_made : (replicas : List Replica) → AllByRecursion (λ n. n < length core.storages)
      (map (λ (replica : Replica). replica.storage) replicas)
      → AreMade core.storages (flat_map (planned_at core repo book) replicas)
  planned_made [] all = tt
  planned_made (replica ∷ replicas) all = all_both (IsMade core.storages)
      (planned_at core repo book replica) (flat_map (planned_at core repo book) replicas)
      (choose (AreMade core.storages)
      (is_up core replica.storage && not (is_locked core repo replica.storage)
      && not (is_in_push core repo replica.storage)) (wanted_at core repo book replica) []
      (λ holds. wanted_made replica all.0) (λ fails. tt)) (planned_made replicas all.1)

-- all that is planned
plan_made : (core : Core) → IsSound core → (only : Option ℕ)
    → AreMade core.storages (plan core only)
plan_made core sound only = all_numbered (IsMade core.storages)
    (λ job n is. record { target = is.target; source = is.source; ready = is.ready })
    core.last_job (take (2 ^ 64 - 1 - core.last_job) (all_planned core only))
    (all_taken (IsMade core.storages) _ (all_planned core only)
    (all_of_books core (IsMade core.storages) (λ repo book there.
    planned_made core sound repo book there book.replicas
    (replicas_known core sound repo book there)) only))

pub plan_known : (core : Core) → IsSound core → (only : Option ℕ)
    → AreJobsKnown core.storages (plan core only)
plan_known core sound only = all_such (IsMade core.storages) (IsJobKnown core.storages)
    (plan core only) (λ job is. record { target = is.target; source = is.source })
    (plan_made core sound only)

pub plan_ready : (core : Core) → IsSound core → (only : Option ℕ)
    → AllByRecursion (λ (job : Job). is_ready job.state ≡ true) (plan core only)
plan_ready core sound only = all_such (IsMade core.storages)
    (λ (job : Job). is_ready job.state ≡ true) (plan core only) (λ job is. is.ready)
    (plan_made core sound only)

-- its numbers are those that are given next
again : (last : ℕ) (jobs : List Job) → numbered last (numbered last jobs) ≡ numbered last jobs
again last [] = refl
again last (job ∷ jobs) = ap (λ (rest : List Job). record job { number = job_id (last + 1) } ∷ rest)
    (again (last + 1) jobs)

pub plan_numbered : (core : Core) (only : Option ℕ)
    → numbered core.last_job (plan core only) ≡ plan core only
plan_numbered core only =
    again core.last_job (take (2 ^ 64 - 1 - core.last_job) (all_planned core only))
