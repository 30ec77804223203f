-- A job that is among those of a queue in order is the only one of its number.
use Rattle.std.proofs.Common.{◌≡◌, ◌⊎◌, ℕ, List, [], ◌∷◌, Bool, None, Some, ap, subst, inl, inr, find, arith}
use Rattle.std.specs.List.{AllByRecursion}
use Rattle.px_ops.specs.declared.job.Job.{Job}
use Rattle.px_cluster.specs.Core.{Core}
use Rattle.px_cluster.specs.Taking.{Drop, Next, PassOver, Take, Taking, next_among, or_later, taking}
use Rattle.cluster_form.specs.Jobs.{AreInOrder, IsBehind}
use Rattle.cluster_form.proofs.Lists.{all_such, bool, some_is}

abbrev pub IsAmong : Job → List Job → Type 0
IsAmong job [] = ⊥
IsAmong job (other ∷ jobs) = (other ≡ job) ⊎ IsAmong job jobs

-- what is true of each is true of it
pub among_has : (P : Job → Type 0) (job : Job) (jobs : List Job) → AllByRecursion P jobs
    → IsAmong job jobs → P job
among_has P job [] all among = absurd among
among_has P job (other ∷ jobs) all (inl same) = subst P same all.0
among_has P job (other ∷ jobs) all (inr among) = among_has P job jobs all.1 among

pub only_one : (job : Job) (jobs : List Job) → AreInOrder jobs → IsAmong job jobs
    → AllByRecursion (λ (other : Job). other.number.0 ≡ job.number.0 → other ≡ job) jobs
only_one job [] order among = absurd among
only_one job (first ∷ jobs) order (inl same) = (
  λ number. same,
  all_such (IsBehind first) _ jobs (λ later behind number. absurd (
      let above = behind.number in
      let here = ap (λ (x : Job). x.number.0) same in omega (arith, above, here, number))) order.0,
)
only_one job (first ∷ jobs) order (inr among) = (
  λ number. absurd (let behind = among_has (IsBehind first) job jobs order.0 among in
      let above = behind.number in omega (arith, above, number)),
  only_one job jobs order.1 among,
)

-- the next job of a storage is among the jobs
pub next_is : (core : Core) (target : ℕ) (jobs : List Job) (next : Next)
    → next_among core target jobs ≡ Some next → IsAmong next.job jobs
next_is core target [] next is = absurd (let none : None ≡ Some next = is in cc)
next_is core target (job ∷ jobs) next is =
    by (taking core target job) is (λ later. inr (next_is core target jobs next later))
  where
    by : (how : Taking) → or_later job how (next_among core target jobs) ≡ Some next
        → (next_among core target jobs ≡ Some next → IsAmong next.job (job ∷ jobs))
        → IsAmong next.job (job ∷ jobs)
    by PassOver is rest = rest is
    by Drop is rest =
        inl (ap (λ (n : Next). n.job) (some_is (record { job = job; taking = Drop }) next is))
    by (Take source) is rest =
        inl (ap (λ (n : Next). n.job) (some_is (record { job = job; taking = Take source }) next is))

pub found_among : (test : Job → Bool) (jobs : List Job) (job : Job) → find test jobs ≡ Some job
    → IsAmong job jobs
found_among test [] job is = absurd (let none : None ≡ Some job = is in cc)
found_among test (first ∷ jobs) job is = elim (bool (test first)) [
  | inl holds ↦ inl (some_is first job (rw holds at is))
  | inr fails ↦ inr (found_among test jobs job (rw fails at is))
]
