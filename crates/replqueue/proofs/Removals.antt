-- Jobs that go: those of a repository and target, and those that a plan replaces.
use Rattle.std.proofs.Common.{◌≡◌, ◌+◌, ◌<◌, ◌++◌, ◌&&◌, ◌||◌, ℕ, List, [], ◌∷◌, Bool, true, false, None, refl, ap, sym, ◌∙◌, get_or, length, take}
use Rattle.std.specs.Prelude.{filter, find, not}
use Rattle.std.specs.List.{AllByRecursion}
use Rattle.std.proofs.lemmas.List.Elements.{filter-append}
use Rattle.std.proofs.lemmas.List.Folds.{list_any_more}
use Rattle.px_ops.specs.declared.job.Job.{Job}
use Rattle.px_ops.specs.declared.job.JobState.{JobState}
use Rattle.px_ops.specs.declared.job.JobState.TheVariants.{Cancelled, Completed, Dead, Failed, InProgress, Ready}
use Rattle.px_cluster.specs.Jobs.{is_dead, is_for, is_in_progress, is_ready}
use Rattle.px_cluster.specs.Plan.{is_replaced_by}
use Rattle.cluster_form.proofs.Lists.{all_such}
use Rattle.replqueue.proofs.Orders.{all_pass, filter_both, none_found}

-- ---- where none is left

pub none_taken : (test : Job → Bool) (jobs : List Job) → find test jobs ≡ None
    → filter (λ (job : Job). not (test job)) jobs ≡ jobs
none_taken test jobs none =
    all_pass (λ (job : Job). not (test job)) jobs (all_such _ _ jobs (λ job other. ap not other)
    (none_found test jobs none))

-- ---- jobs in progress

swapped : (a b : Bool) → (a && b) ≡ (b && a)
swapped true true = refl
swapped true false = refl
swapped false true = refl
swapped false false = refl

-- either test of a job in progress may come first
pub lifted : (repo target : ℕ) (jobs : List Job)
    → filter (λ (job : Job). not (is_in_progress job.state && is_for repo target job)) jobs
    ≡ filter (λ (job : Job). not (is_for repo target job && is_in_progress job.state)) jobs
lifted repo target [] = refl
lifted repo target (job ∷ jobs) =
    rw (swapped (is_in_progress job.state) (is_for repo target job), lifted repo target jobs) refl

-- ---- jobs that are replaced

abbrev pub unburied : List Job → List Job → List Job
unburied more jobs = filter (λ (job : Job). not (is_dead job.state && is_replaced_by more job)) jobs

no_more : (b : Bool) → not (b && false) ≡ true
no_more true = refl
no_more false = refl

-- none replaces none
pub none_buried : (jobs : List Job) → jobs ≡ unburied [] jobs
none_buried [] = refl
none_buried (job ∷ jobs) =
    rw (no_more (is_dead job.state)) (ap (λ (rest : List Job). job ∷ rest) (none_buried jobs))

spread : (d a b : Bool) → (d && (a || b)) ≡ ((d && a) || (d && b))
spread true a b = refl
spread false a b = refl

-- one more of the plan
pub buried_further : (i : ℕ) (more jobs : List Job) (next : Job) → i < length more → next
    ≡ get_or more i next
    → filter (λ (job : Job). not (is_dead job.state && is_for next.repo.0 next.target.0 job))
    (unburied (take i more) jobs) ≡ unburied (take (i + 1) more) jobs
buried_further i more jobs next within is =
    filter_both (λ (job : Job). is_dead job.state && is_replaced_by (take i more) job)
    (λ (job : Job). is_dead job.state && is_for next.repo.0 next.target.0 job)
    (λ (job : Job). is_dead job.state && is_replaced_by (take (i + 1) more) job) jobs
    (λ job. ap (λ b. is_dead job.state && b)
    (list_any_more (λ (other : Job). is_for other.repo.0 other.target.0 job) more i next within
    ∙ ap (λ (other : Job). is_replaced_by (take i more) job || is_for other.repo.0 other.target.0
    job) (sym is))
    ∙ spread (is_dead job.state) (is_replaced_by (take i more) job)
    (is_for next.repo.0 next.target.0 job))

lives : (state : JobState) (b : Bool) → is_ready state ≡ true → not (is_dead state && b) ≡ true
lives Ready b is = refl
lives InProgress b is = refl
lives Completed b is = refl
lives Cancelled b is = refl
lives Failed b is = refl
lives Dead b is = absurd (let no : false ≡ true = is in cc)

-- the jobs of the plan themselves stay
pub plan_stays : (jobs more : List Job) → AllByRecursion (λ (job : Job). is_ready job.state
    ≡ true) more → unburied more (jobs ++ more) ≡ unburied more jobs ++ more
plan_stays jobs more ready =
    filter-append (λ (job : Job). not (is_dead job.state && is_replaced_by more job)) jobs more
    ∙ ap (λ (rest : List Job). unburied more jobs ++ rest)
    (all_pass _ more (all_such _ _ more (λ job is. lives job.state (is_replaced_by more job) is)
    ready))
