-- The queue, where a job that runs for one replica goes.
use Rattle.std.proofs.Common.{◌≡◌, ℕ, ◌&&◌, not, List, [], ◌∷◌, Bool, true, false, Option, None, Some, ◌⊎◌, refl, sym, ◌∙◌, ap, subst, inl, inr, filter, find}
use Rattle.std.specs.List.{AllByRecursion}
use Rattle.std.specs.Option.{option_map}
use Rattle.px_ops.specs.declared.job.Job.{Job}
use Rattle.px_ops.specs.declared.job.JobState.{JobState}
use Rattle.px_ops.specs.declared.job.JobState.TheVariants as queued
use Rattle.px_cluster.specs.Jobs.{is_for, is_in_progress}
use Rattle.replica_invariant.specs.Jobs.{DoesNotRun}
use Rattle.replica_invariant.specs.State.{Dead, Job as SeenJob, Replica, Running, Waiting}
use Rattle.cluster_form.specs.Jobs.{AreInOrder, IsBehind}
use Rattle.cluster_form.proofs.JobLists.{pair_is}
use Rattle.cluster_form.proofs.Lists.{bool, some_is}
use Rattle.cluster_history.specs.Seen.{seen_job, seen_state}

-- ---- what is found among some elements of a list

-- where none passes, none is found
find_none : {A : Type 0} (test : A → Bool) (xs : List A)
    → AllByRecursion (λ x. test x ≡ false) xs → find test xs ≡ None
find_none test [] none = refl
find_none test (x ∷ xs) none = rw none.0 (find_none test xs none.1)

-- .. nor among some of the elements
find_gone : {A : Type 0} (test keeps : A → Bool) (xs : List A) → find test xs ≡ None
    → find test (filter keeps xs) ≡ None
find_gone test keeps [] none = refl
find_gone test keeps (x ∷ xs) none = elim (bool (test x)) [
  | inl holds ↦ absurd (let z : Some x ≡ None = rw holds at none in cc)
  | inr fails ↦ elim (bool (keeps x)) [
    | inl stays ↦ (rw stays (rw fails (find_gone test keeps xs (rw fails at none))))
    | inr goes ↦ (rw goes (find_gone test keeps xs (rw fails at none)))
  ]
]

-- where each element that passes stays, the first one is found as before
find_kept : {A : Type 0} (test keeps : A → Bool) (xs : List A)
    → ((x : A) → test x ≡ true → keeps x ≡ true) → find test (filter keeps xs) ≡ find test xs
find_kept test keeps [] on = refl
find_kept test keeps (x ∷ xs) on = elim (bool (test x)) [
  | inl holds ↦ (let stays : keeps x ≡ true = on x holds in rw stays (rw holds refl))
  | inr fails ↦ elim (bool (keeps x)) [
    | inl stays ↦ (rw stays (rw fails (find_kept test keeps xs on)))
    | inr goes ↦ (rw goes (rw fails (find_kept test keeps xs on)))
  ]
]

-- ---- a job that runs goes

module _ (repo storage : ℕ) where
  abbrev stays : Job → Bool
  stays job = not (is_for repo storage job && is_in_progress job.state)

  abbrev pub without : List Job → List Job
  without jobs = filter stays jobs

  stays_by : (a b : Bool) → a ≡ false → not (a && b) ≡ true
  stays_by true b is = absurd (let z : true ≡ false = is in cc)
  stays_by false b is = refl

  -- the job of another replica is the one that it was
  pub others_stay : (other target : ℕ) → (other ≡ repo → target ≡ storage → ⊥) → (jobs : List Job)
      → find (is_for other target) (without jobs) ≡ find (is_for other target) jobs
  others_stay other target differs jobs = find_kept (is_for other target) stays jobs
      (λ job is. stays_by (is_for repo storage job) (is_in_progress job.state)
      (elim (bool (is_for repo storage job)) [
        | inl also ↦ absurd (let one = pair_is other target job is in
            let two = pair_is repo storage job also in
            differs (sym one.0 ∙ two.0) (sym one.1 ∙ two.1))
        | inr fails ↦ fails
      ]))

  -- so is that of this one, where it does not run
  pub idle_stays : (jobs : List Job) → ((job : Job) → find (is_for repo storage) jobs ≡ Some job
      → is_in_progress job.state ≡ false)
      → find (is_for repo storage) (without jobs) ≡ find (is_for repo storage) jobs
  idle_stays [] idle = refl
  idle_stays (job ∷ jobs) idle = elim (bool (is_for repo storage job)) [
    | inl holds ↦ (let rests = idle job (rw holds refl) in rw (holds, rests) (rw holds refl))
    | inr fails ↦ (rw fails (rw fails (idle_stays jobs
        (λ other is. idle other (rw fails is)))))
  ]

  -- .. and where it runs there is none any more
  pub running_goes : (jobs : List Job) → AreInOrder jobs → (job : Job)
      → find (is_for repo storage) jobs ≡ Some job → is_in_progress job.state ≡ true
      → find (is_for repo storage) (without jobs) ≡ None
  running_goes [] order job is runs = refl
  running_goes (first ∷ jobs) order job is runs = elim (bool (is_for repo storage first)) [
    | inl holds ↦ (
        let same : Some first ≡ Some job = rw holds at is in
        let running : is_in_progress first.state ≡ true =
        ap (λ (x : Job). is_in_progress x.state) (some_is first job same) ∙ runs in
        let pair = pair_is repo storage first holds in
        let none : find (is_for repo storage) jobs ≡ None =
        subst (λ r. find (is_for r storage) jobs ≡ None) pair.0
        (subst (λ t. find (is_for first.repo.0 t) jobs ≡ None) pair.1 (find_none _ jobs
        (behind jobs order.0))) in
        rw (holds, running) (find_gone (is_for repo storage) stays jobs none))
    | inr fails ↦ (rw fails (rw fails (running_goes jobs order.1 job (rw fails at is) runs)))
  ]
    where
      behind : (rest : List Job) → AllByRecursion (IsBehind first) rest
          → AllByRecursion (λ x. is_for first.repo.0 first.target.0 x ≡ false) rest
      behind [] all = tt
      behind (x ∷ xs) all = (all.0.another, behind xs all.1)

-- ---- a job that is seen to run

-- in progress is running
runs_by : (state : JobState) (lease : ℕ) → is_in_progress state ≡ true
    → seen_state state lease ≡ Running lease
runs_by queued.Ready lease is = absurd (let z : false ≡ true = is in cc)
runs_by queued.InProgress lease is = refl
runs_by queued.Completed lease is = absurd (let z : false ≡ true = is in cc)
runs_by queued.Cancelled lease is = absurd (let z : false ≡ true = is in cc)
runs_by queued.Failed lease is = absurd (let z : false ≡ true = is in cc)
runs_by queued.Dead lease is = absurd (let z : false ≡ true = is in cc)

-- .. and nothing else is
runs_only : (state : JobState) (lease under : ℕ) → seen_state state lease ≡ Running under
    → is_in_progress state ≡ true
runs_only queued.Ready lease under is = absurd (let z : Waiting ≡ Running under = is in cc)
runs_only queued.InProgress lease under is = refl
runs_only queued.Completed lease under is = absurd (let z : Dead ≡ Running under = is in cc)
runs_only queued.Cancelled lease under is = absurd (let z : Dead ≡ Running under = is in cc)
runs_only queued.Failed lease under is = absurd (let z : Waiting ≡ Running under = is in cc)
runs_only queued.Dead lease under is = absurd (let z : Dead ≡ Running under = is in cc)

-- a job that is in progress is seen to run, and no other one is
module _ (replica : Replica) (there : Option Job)
    (seen : replica.job ≡ option_map seen_job there) where
  pub idle_found : DoesNotRun replica → (job : Job) → there ≡ Some job
      → is_in_progress job.state ≡ false
  idle_found idle job is = elim (bool (is_in_progress job.state)) [
    | inl runs ↦ absurd (idle (seen_job job) job.lease (seen ∙ ap (option_map seen_job) is)
        (runs_by job.state job.lease runs))
    | inr rests ↦ rests
  ]

  pub found_idle : ((job : Job) → there ≡ Some job → is_in_progress job.state ≡ false)
      → DoesNotRun replica
  found_idle idle job lease is runs = by there refl (sym seen ∙ is)
    where
      by : (found : Option Job) → there ≡ found → option_map seen_job found ≡ Some job → ⊥
      by None at same = absurd (let z : None ≡ Some job = same in cc)
      by (Some queued_) at same =
          let state = ap (λ (x : SeenJob). x.state) (some_is (seen_job queued_) job same) ∙ runs in
          let z : false ≡ true = sym (idle queued_ at)
          ∙ runs_only queued_.state queued_.lease lease state in cc

-- ---- what is left of the job of the replica

-- none, or the one that was, and does not run
pub is_left : (repo storage : ℕ) (jobs : List Job) → AreInOrder jobs → (replica : Replica)
    → replica.job ≡ option_map seen_job (find (is_for repo storage) jobs)
    → (option_map seen_job (find (is_for repo storage) (without repo storage jobs)) ≡ None)
    ⊎ ((option_map seen_job (find (is_for repo storage) (without repo storage jobs)) ≡ replica.job)
    × DoesNotRun replica)
is_left repo storage jobs order replica seen = by (find (is_for repo storage) jobs) refl
  where
    stays_idle : ((job : Job) → find (is_for repo storage) jobs ≡ Some job
        → is_in_progress job.state ≡ false)
        → (option_map seen_job (find (is_for repo storage) (without repo storage jobs))
        ≡ replica.job) × DoesNotRun replica
    stays_idle idle = (
      ap (option_map seen_job) (idle_stays repo storage jobs idle) ∙ sym seen,
      found_idle replica (find (is_for repo storage) jobs) seen idle,
    )

    by : (there : Option Job) → find (is_for repo storage) jobs ≡ there
        → (option_map seen_job (find (is_for repo storage) (without repo storage jobs)) ≡ None)
        ⊎ ((option_map seen_job (find (is_for repo storage) (without repo storage jobs))
        ≡ replica.job) × DoesNotRun replica)
    by None at = inr (stays_idle (λ job is. absurd (let z : None ≡ Some job = sym at ∙ is in cc)))
    by (Some job) at = elim (bool (is_in_progress job.state)) [
      | inl runs ↦ inl (ap (option_map seen_job) (running_goes repo storage jobs order job at runs))
      | inr rests ↦ inr (stays_idle (λ other is.
          subst (λ (x : Job). is_in_progress x.state ≡ false) (some_is job other (sym at ∙ is))
          rests))
    ]
