-- Numbers of jobs on lines, by which jobs are found.
use Rattle.std.specs.Prelude.{◌≡◌, ◌<◌, ◌≤◌, ◌==◌, ℕ, Bool, true, false, if◌then◌else◌, List, Option, None, Some}
use Rattle.std.specs.BTreeMap.{is_at}
use Rattle.std.specs.List.{AllByRecursion, list_any}
use Rattle.std.specs.Ordering.{nat_cmp, ordering_then}
use Rattle.std.specs.declared.cmp.Ordering.{Ordering}
use Rattle.px_ops.specs.declared.job.Job.{Job}
use Rattle.replqueue.specs.declared.mark.Mark.{Mark}

abbrev pub mark_of : ℕ → ℕ → Mark
mark_of line number = record { line = line; number = number }

-- the order of marks: by line, and by number
abbrev pub mark_cmp : Mark → Mark → Ordering
mark_cmp a b = ordering_then (nat_cmp a.line b.line) (nat_cmp a.number b.number)

-- the number is marked on the line
abbrev pub has : List Mark → ℕ → ℕ → Bool
has marks line number = list_any (is_at (mark_cmp (mark_of line number))) marks

-- the number of a mark, where it is on the line
abbrev pub number_on : ℕ → Mark → Option ℕ
number_on line mark = if mark.line == line then Some mark.number else None

-- no number is marked on the line, from one on
abbrev pub NoneFrom : List Mark → ℕ → ℕ → Type 0
NoneFrom marks line from = (number : ℕ) → from ≤ number → has marks line number ≡ false

-- .. from one on, and below another
abbrev pub NoneBetween : List Mark → ℕ → ℕ → ℕ → Type 0
NoneBetween marks line from upto =
    (number : ℕ) → from ≤ number → number < upto → has marks line number ≡ false

-- no mark is lost
abbrev pub KeepsAll : List Mark → List Mark → Type 0
KeepsAll old new = (line number : ℕ) → has old line number ≡ true → has new line number ≡ true

-- no mark of another number is lost
abbrev pub KeepsOthers : ℕ → List Mark → List Mark → Type 0
KeepsOthers number old new = (line other : ℕ) → (other == number) ≡ false
    → has old line other ≡ true → has new line other ≡ true

-- each job that passes a test is marked on its line
abbrev pub AreMarked : (Job → Bool) → (Job → ℕ) → List Mark → List Job → Type 0
AreMarked test line marks jobs = AllByRecursion
    (λ (job : Job). test job ≡ true → has marks (line job) job.number.0 ≡ true) jobs
