-- The numbers of jobs and pushes stay within what was given, where a list of them or the book changes.
use Rattle.std.proofs.Common.{◌≡◌, ◌==◌, ℕ, zero, suc, List, [], ◌∷◌, Bool, if◌then◌else◌, Option, None, Some, refl, sym, ◌∙◌, ap, subst, filter, map, set, slice_get, take, ◌-◌, ◌^◌, arith}
use Rattle.std.specs.List.{AllByRecursion}
use Rattle.px_base.specs.declared.ids.TxId.{TxId}
use Rattle.px_ops.specs.declared.job.Job.{Job}
use Rattle.px_ops.specs.declared.job.JobKind.{JobKind}
use Rattle.px_ops.specs.declared.job.JobKind.TheVariants.{Update, Delete}
use Rattle.px_cluster.proofs.LaterBooks.{AreLater}
use Rattle.px_cluster.specs.Book.{Repository}
use Rattle.px_cluster.specs.Core.{Core, OpenPush, repository}
use Rattle.px_cluster.specs.Growth.{IsLater}
use Rattle.px_cluster.specs.Jobs.{beaten, failed}
use Rattle.px_cluster.specs.Plan.{all_planned, plan, with_plan}
use Rattle.px_cluster.specs.Taking.{as_taken, book_as_taken}
use Rattle.cluster_form.specs.Jobs.{AreInOrder}
use Rattle.cluster_form.specs.Within.{IsJobWithin, IsPushWithin}
use Rattle.cluster_form.proofs.Among.{IsAmong, only_one}
use Rattle.cluster_form.proofs.JobLists.{all_numbered}
use Rattle.cluster_form.proofs.Lists.{all_both, all_filter, all_map, all_such, choose, same_number}
use Rattle.cluster_form.proofs.OneOf.{all_taken}
use Rattle.cluster_form.proofs.PlannedJobs.{all_of_plan}

-- ---- a repository stays on record, and further on

pub later_there : (old new : List Repository) → AreLater old new → (repo : ℕ) (book : Repository)
    → slice_get old repo ≡ Some book
    → (later : Repository) × (slice_get new repo ≡ Some later) × IsLater book later
later_there [] new are repo book is = absurd (let none : None ≡ Some book = is in cc)
later_there (first ∷ old) [] are repo book is = absurd are
later_there (first ∷ old) (now ∷ new) are zero book is =
    let same : first ≡ book = cc in
    (now, refl, subst (λ (b : Repository). IsLater b now) same are.0)
later_there (first ∷ old) (now ∷ new) are (suc repo) book is =
    later_there old new are.1 repo book is

job_later : (old new : List Repository) → AreLater old new → (job : Job) → IsJobWithin old job
    → IsJobWithin new job
job_later old new are job is =
    let later = later_there old new are job.repo.0 is.book is.there in
    let generation = is.generation in
    let lease = is.lease in
    let newest = later.2.newest in
    let last = later.2.last in
    record {
      book = later.0;
      there = later.1;
      generation = omega (arith, generation, newest);
      lease = omega (arith, lease, last);
    }

push_later : (old new : List Repository) → AreLater old new → (push : OpenPush)
    → IsPushWithin old push → IsPushWithin new push
push_later old new are push is =
    let later = later_there old new are push.repo is.book is.there in
    let begun = is.begun in
    let lease = is.lease in
    let newest = later.2.newest in
    let last = later.2.last in
    record {
      book = later.0;
      there = later.1;
      begun = omega (arith, begun, newest);
      lease = omega (arith, lease, last);
    }

-- ---- both lists

abbrev pub RowsWithin : Core → Type 0
RowsWithin core = AllByRecursion (IsJobWithin core.repositories) core.jobs
    × AllByRecursion (IsPushWithin core.repositories) core.pushes

abbrev pub Later : Core → Core → Type 0
Later old new = AreLater old.repositories new.repositories

-- where only the book changed
pub with_later : (core : Core) (books : List Repository) → AreLater core.repositories books
    → RowsWithin core → RowsWithin (record core { repositories = books })
with_later core books are rows = (
  all_such (IsJobWithin core.repositories) (IsJobWithin books) core.jobs
      (job_later core.repositories books are) rows.0,
  all_such (IsPushWithin core.repositories) (IsPushWithin books) core.pushes
      (push_later core.repositories books are) rows.1,
)

-- ---- jobs

abbrev pub JobsWithin : Core → Type 0
JobsWithin core = AllByRecursion (IsJobWithin core.repositories) core.jobs

-- it changes neither repository nor generation nor lease
pub record LeavesNumbers (change : Job → Job) : Type 0 where
  pub repo : (job : Job) → (change job).repo.0 ≡ job.repo.0
  pub generation : (job : Job) → (change job).generation.0 ≡ job.generation.0
  pub lease : (job : Job) → (change job).lease ≡ job.lease

pub jobs_mapped : (books : List Repository) (test : Job → Bool) (change : Job → Job)
    → LeavesNumbers change → (jobs : List Job) → AllByRecursion (IsJobWithin books) jobs
    → AllByRecursion (IsJobWithin books)
    (map (λ (job : Job). if test job then change job else job) jobs)
jobs_mapped books test change leaves jobs all =
    all_map (IsJobWithin books) (IsJobWithin books) _ jobs (λ job is.
    choose (IsJobWithin books) (test job) (change job) job (λ holds. record {
      book = is.book;
      there = ap (slice_get books) (leaves.repo job) ∙ is.there;
      generation = (let was = is.generation in let same = leaves.generation job in
          omega (arith, was, same));
      lease = (let was = is.lease in let same = leaves.lease job in omega (arith, was, same));
    }) (λ fails. is)) all

pub leaves_beaten : (now : ℕ) → LeavesNumbers (beaten now)
leaves_beaten now =
    record { repo = λ job. refl; generation = λ job. refl; lease = λ job. refl }

pub leaves_failed : LeavesNumbers failed
leaves_failed = record { repo = λ job. refl; generation = λ job. refl; lease = λ job. refl }

pub jobs_planned : (core : Core) (only : Option ℕ) → JobsWithin core
    → JobsWithin (with_plan (plan core only) core)
jobs_planned core only all =
    all_both (IsJobWithin core.repositories) (filter _ core.jobs) (plan core only)
    (all_filter (IsJobWithin core.repositories) _ core.jobs all)
    (all_numbered (IsJobWithin core.repositories) (λ job n is. record {
      book = is.book;
      there = is.there;
      generation = is.generation;
      lease = is.lease;
    }) core.last_job (take (2 ^ 64 - 1 - core.last_job) (all_planned core only))
    (all_taken _ _ (all_planned core only) (all_of_plan core (IsJobWithin core.repositories)
    (λ repo book storage job there among new. record {
      book = book;
      there = ap (slice_get core.repositories) new.repo_ ∙ there;
      generation = (let same = new.generation in omega (arith, same));
      lease = (let none = new.lease in omega (arith, none));
    }) only)))

pub got_set : (books : List Repository) (repo : ℕ) (was new : Repository)
    → slice_get books repo ≡ Some was → slice_get (set books repo new) repo ≡ Some new
got_set [] repo was new is = absurd (let none : None ≡ Some was = is in cc)
got_set (book ∷ books) zero was new is = refl
got_set (book ∷ books) (suc repo) was new is = got_set books repo was new is

-- the job that is taken has the newest generation and the lease that is drawn
module _ (core : Core) (job : Job) (source : Option ℕ) (now : ℕ) (book : Repository)
    (is : repository core job.repo.0 ≡ Some book) where
  abbrev books : List Repository
  books = set core.repositories job.repo.0 (book_as_taken job job.kind book)

  taken_within : (kind : JobKind) → slice_get books job.repo.0
      ≡ Some (book_as_taken job kind book) → IsJobWithin books (as_taken book source now job)
  taken_within Update there = record {
    book = book_as_taken job Update book;
    there = there;
    generation = omega arith;
    lease = omega arith;
  }
  taken_within Delete there = record {
    book = book_as_taken job Delete book;
    there = there;
    generation = omega arith;
    lease = omega arith;
  }

  pub jobs_taken : AreInOrder core.jobs → IsAmong job core.jobs
      → AllByRecursion (IsJobWithin books) core.jobs
      → AllByRecursion (IsJobWithin books) (map
      (λ (x : Job). if x.number.0 == job.number.0 then as_taken book source now x else x)
      core.jobs)
  jobs_taken order among all = all_mapped core.jobs all (only_one job core.jobs order among)
    where
      within : IsJobWithin books (as_taken book source now job)
      within = taken_within job.kind
          (got_set core.repositories job.repo.0 book (book_as_taken job job.kind book) is)

      all_mapped : (jobs : List Job) → AllByRecursion (IsJobWithin books) jobs
          → AllByRecursion (λ (other : Job). other.number.0 ≡ job.number.0 → other ≡ job) jobs
          → AllByRecursion (IsJobWithin books) (map
          (λ (x : Job). if x.number.0 == job.number.0 then as_taken book source now x else x) jobs)
      all_mapped [] one other = tt
      all_mapped (x ∷ xs) one other = (
        choose (IsJobWithin books) (x.number.0 == job.number.0) (as_taken book source now x) x
            (λ holds. subst (λ (y : Job). IsJobWithin books (as_taken book source now y))
            (sym (other.0 (same_number x.number.0 job.number.0 holds))) within)
            (λ fails. one.0),
        all_mapped xs one.1 other.1,
      )

-- ---- pushes

pub pushes_mapped : (books : List Repository) (tx : TxId) (change : OpenPush → OpenPush)
    → ((push : OpenPush) → IsPushWithin books push → IsPushWithin books (change push))
    → (pushes : List OpenPush) → AllByRecursion (IsPushWithin books) pushes
    → AllByRecursion (IsPushWithin books)
    (map (λ (push : OpenPush). if push.tx.0 == tx.0 then change push else push) pushes)
pushes_mapped books tx change keeps pushes all =
    all_map (IsPushWithin books) (IsPushWithin books) _ pushes (λ push is.
    choose (IsPushWithin books) (push.tx.0 == tx.0) (change push) push (λ holds. keeps push is)
    (λ fails. is)) all
