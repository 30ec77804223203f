-- Where the effects of jobs go stays so, after each operation and a restart.
use Rattle.std.proofs.Common.{◌≡◌, ◌==◌, ◌⊎◌, ℕ, Option, None, Some, refl, sym, ◌∙◌, ap, subst, inl, inr, arith}
use Rattle.px_ops.specs.declared.job.Job.{Job}
use Rattle.px_ops.specs.declared.op.Op.{Op}
use Rattle.px_ops.specs.declared.op.Op.TheVariants as op
use Rattle.px_base.specs.declared.hash.Hash.{Hash}
use Rattle.txmanager.specs.Voting.{Voting, collect_answer}
use Rattle.px_cluster.proofs.Growing.{left}
use Rattle.px_cluster.specs.Book.{Repository}
use Rattle.px_cluster.specs.Casts.{member_named}
use Rattle.px_cluster.specs.Cluster.{Cluster, Destination}
use Rattle.px_cluster.specs.Core.{Core, OpenPush, push_of, repository, restarted, voting}
use Rattle.px_cluster.specs.Issues.{issues, issues_begin, issues_commit, issues_commit_at, issues_fence, issues_taking, issues_work, issues_work_in, told_hash}
use Rattle.px_cluster.specs.Ops.{left_by}
use Rattle.px_cluster.specs.Taking.{Drop, Next, PassOver, Take, Taking, next_job}
use Rattle.cluster_form.specs.Form.{IsFormed}
use Rattle.cluster_form.specs.Jobs.{IsRow}
use Rattle.cluster_form.specs.Homes.{IsHome}
use Rattle.cluster_form.specs.Routes.{AreJobRoutes, IsJobRoute}
use Rattle.cluster_form.proofs.Among.{IsAmong, among_has, next_is}
use Rattle.cluster_form.proofs.Homes.{home_again, home_left}
use Rattle.cluster_form.proofs.Lists.{choose}
use Rattle.cluster_form.proofs.PushRoutes.{value_case}

job_left : (core : Core) (asked : Op) (job : ℕ) (to : Destination) → IsJobRoute core job to
    → IsJobRoute (left_by core asked) job to
job_left core asked job to is = record {
  given = (let given = is.given in let last = (left core asked).2 in omega (arith, given, last));
  home = home_left core asked to.repo to.number is.home;
}

-- a job that leads to a replica led there before, or is taken now
worked_by : (c : Cluster) (asked : Op) → IsFormed c.core → (job : ℕ) (to : Destination)
    → (issues c asked).worked job ≡ Some to → (c.worked job ≡ Some to) ⊎ IsJobRoute c.core job to
worked_by c (op.Begin repo) form job to is = by (repository c.core repo.0) is
  where
    by : (there : Option Repository) → (issues_begin c repo.0 there).worked job ≡ Some to
        → (c.worked job ≡ Some to) ⊎ IsJobRoute c.core job to
    by None is = inl is
    by (Some book) is = inl is
worked_by c (op.Collect tx voter sub) form job to is =
    inl (sym (ap (λ (f : ℕ → Option Destination). f job)
    (by (push_of c.core tx) (voting c.core tx))) ∙ is)
  where
    at : (push : OpenPush) (storage : Option ℕ) (hash : Option Hash)
        → (issues_commit_at c push storage hash).worked ≡ c.worked
    at push None hash = refl
    at push (Some storage) None = refl
    at push (Some storage) (Some hash) = refl

    by : (push : Option OpenPush) (vote : Option Voting)
        → (issues_commit c voter sub push vote).worked ≡ c.worked
    by None vote = refl
    by (Some push) None = refl
    by (Some push) (Some vote) = choose (λ (new : Cluster). new.worked ≡ c.worked) (sub == 1)
        (issues_commit_at c push (member_named push vote voter)
        (told_hash (collect_answer voter sub vote))) c
        (λ holds. at push (member_named push vote voter)
        (told_hash (collect_answer voter sub vote))) (λ fails. refl)
worked_by c (op.Dequeue target now) form job to is =
    by (next_job c.core target.0) (λ next among. next_is c.core target.0 c.core.jobs next among) is
  where
    at : (taken : Job) (source : Option ℕ) → IsAmong taken c.core.jobs
        → (there : Option Repository) → (issues_work_in c taken source there).worked job ≡ Some to
        → (c.worked job ≡ Some to) ⊎ IsJobRoute c.core job to
    at taken source among None is = inl is
    at taken source among (Some book) is = elim (value_case c.worked taken.number.0
        (record { repo = taken.repo.0; number = taken.target.0 }) job to is) [
          | inr before ↦ inl before
          | inl now ↦ inr (subst (λ d. IsJobRoute c.core job d) now.1 (record {
            given = (let row = among_has (IsRow c.core.last_job) taken c.core.jobs form.jobs.each
                among in let given = row.given in let same = now.0 in omega (arith, given, same));
            home = among_has (λ (x : Job). IsHome c.core x.repo.0 x.target.0) taken c.core.jobs
                form.homes among;
          }))
        ]

    so : (taken : Job) → IsAmong taken c.core.jobs → (taking : Taking)
        → (issues_taking c taken taking).worked job ≡ Some to
        → (c.worked job ≡ Some to) ⊎ IsJobRoute c.core job to
    so taken among PassOver is = inl is
    so taken among Drop is = inl is
    so taken among (Take source) is = at taken source among (repository c.core taken.repo.0) is

    by : (next : Option Next)
        → ((one : Next) → next ≡ Some one → IsAmong one.job c.core.jobs)
        → (issues_work c next).worked job ≡ Some to
        → (c.worked job ≡ Some to) ⊎ IsJobRoute c.core job to
    by None among is = inl is
    by (Some next) among is = so next.job (among next refl) next.taking is
worked_by c (op.AcceptBegin repo storage) form job to is = by (repository c.core repo.0) is
  where
    by : (there : Option Repository)
        → (issues_fence c repo.0 storage.0 there).worked job ≡ Some to
        → (c.worked job ≡ Some to) ⊎ IsJobRoute c.core job to
    by None is = inl is
    by (Some book) is = inl is
worked_by c (op.SettleBegin repo storage) form job to is = by (repository c.core repo.0) is
  where
    by : (there : Option Repository)
        → (issues_fence c repo.0 storage.0 there).worked job ≡ Some to
        → (c.worked job ≡ Some to) ⊎ IsJobRoute c.core job to
    by None is = inl is
    by (Some book) is = inl is
worked_by c other form job to is = inl is

pub job_routes_left : (c : Cluster) (asked : Op) → IsFormed c.core → AreJobRoutes c.core c.worked
    → AreJobRoutes (left_by c.core asked) (issues c asked).worked
job_routes_left c asked form routes job to is = by (worked_by c asked form job to is)
  where
    by : (c.worked job ≡ Some to) ⊎ IsJobRoute c.core job to
        → IsJobRoute (left_by c.core asked) job to
    by (inl before) = job_left c.core asked job to (routes job to before)
    by (inr now) = job_left c.core asked job to now

pub job_routes_again : (core : Core) (worked : ℕ → Option Destination)
    → AreJobRoutes core worked → AreJobRoutes (restarted core) worked
job_routes_again core worked routes job to there =
    let route = routes job to there in
    record { given = route.given; home = home_again core to.repo to.number route.home }
