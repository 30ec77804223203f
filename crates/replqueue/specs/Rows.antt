-- Jobs by their numbers.
use Rattle.std.specs.Prelude.{◌≡◌, ◌<◌, ◌==◌, ℕ, Bool, if◌then◌else◌, List, [], ◌∷◌}
use Rattle.std.specs.List.{AllByRecursion, list_any}
use Rattle.std.specs.List.Sorted.{IsStrictlySortedBy}
use Rattle.std.specs.Map.{keys_of}
use Rattle.std.specs.Ordering.{nat_cmp}
use Rattle.px_ops.specs.declared.job.Job.{Job}

abbrev pub has_number : ℕ → Job → Bool
has_number number job = job.number.0 == number

-- one of these has the number of the job
abbrev pub is_among : List Job → Job → Bool
is_among jobs job = list_any (λ (other : Job). job.number.0 == other.number.0) jobs

-- the job of a number changed
abbrev pub changed_at : ℕ → (Job → Job) → Job → Job
changed_at number change job = if job.number.0 == number then change job else job

-- each job has a greater number than those before it
abbrev pub AreAscending : List Job → Type 0
AreAscending [] = Unit {0}
AreAscending (job ∷ jobs) =
    AllByRecursion (λ (later : Job). job.number.0 < later.number.0) jobs × AreAscending jobs

-- ---- how they are kept

-- each job stands under its number
abbrev pub AreNumbered : List (ℕ × Job) → Type 0
AreNumbered numbered =
    AllByRecursion (λ (entry : ℕ × Job). entry.0 ≡ entry.1.number.0) numbered

pub record AreRows (numbered : List (ℕ × Job)) : Type 0 where
  pub numbers : AreNumbered numbered
  pub ascend : IsStrictlySortedBy nat_cmp (keys_of numbered)
