-- The replica that a job of the queue is for.
use Rattle.std.proofs.Common.{◌≡◌, true, false, Option, None, Some, refl, ◌∙◌, ap, is_some}
use Rattle.std.specs.Option.{option_map}
use Rattle.px_ops.specs.declared.job.Job.{Job}
use Rattle.px_cluster.specs.Book.{Replica, Repository, has_replica_on, replica_on}
use Rattle.px_cluster.specs.Core.{repository}
use Rattle.px_cluster.specs.Numbers.{is_one_of}
use Rattle.replica_invariant.specs.ManyJobs.{MayHave}
use Rattle.cluster_form.specs.Books.{IsDense}
use Rattle.cluster_form.specs.Homes.{IsHome}
use Rattle.cluster_form.proofs.Among.{IsAmong, among_has}
use Rattle.cluster_form.proofs.Lists.{all_got}
use Rattle.cluster_history.specs.Goes.{IsSound}
use Rattle.cluster_history.specs.History.{Whole}
use Rattle.cluster_history.specs.Seen.{seen_job, state_of}
use Rattle.cluster_history.proofs.Books.{there_is_one}
use Rattle.job_steps.proofs.OnQueue.{Fits, all_fit}
use Rattle.job_steps.proofs.Queues.{found}

-- its repository is on record, and has a replica on its target, which has this job
pub record IsForReplica (whole : Whole) (job : Job) : Type 0 where
  pub book : Repository
  pub known : repository whole.cluster.core job.repo.0 ≡ Some book
  pub dense : IsDense whole.cluster.core.storages book
  pub replica : Replica
  pub on : replica_on book job.target.0 ≡ Some replica
  pub has : ((state_of whole job.repo.0 book).replica job.target.0).job ≡ Some (seen_job job)
  pub may : MayHave (state_of whole job.repo.0 book) job.target.0 (seen_job job)

-- what is there
some_of : {A : Type 0} (there : Option A) → is_some there ≡ true → (a : A) × (there ≡ Some a)
some_of None is = absurd (let z : false ≡ true = is in cc)
some_of (Some a) is = (a, refl)

-- so it is of each job of the queue
pub for_replica : (whole : Whole) → IsSound whole → (job : Job)
    → IsAmong job whole.cluster.core.jobs → IsForReplica whole job
for_replica whole sound job among =
    let core = whole.cluster.core in
    let home = among_has (λ (x : Job). IsHome core x.repo.0 x.target.0) job core.jobs
    sound.form.core.homes among in
    let dense_ = all_got (IsDense core.storages) core.repositories job.repo.0 home.book
    sound.form.core.books.dense home.there in
    let there : has_replica_on home.book job.target.0 ≡ true =
    there_is_one job.target.0 home.book.replicas
    ∙ ap (is_one_of job.target.0) dense_ ∙ home.home in
    let one = some_of (replica_on home.book job.target.0) there in
    record {
      book = home.book;
      known = home.there;
      dense = dense_;
      replica = one.0;
      on = one.1;
      has = ap (option_map seen_job) (found job core.jobs sound.form.core.jobs.order among);
      may = among_has (Fits whole) job core.jobs (all_fit whole sound) among home.book home.there;
    }
