-- Jobs in a table by their numbers, as it is read and changed.
use Rattle.std.proofs.Common.{◌≡◌, ◌<◌, ◌++◌, ◌∷◌, [], ℕ, List, true, false, map, Some, Result, Ok, Err, refl, ap, sym, ◌∙◌, inl, inr, arith}
use Rattle.std.specs.Prelude.{◌==◌, not, filter, find}
use Rattle.std.specs.BTreeMap.{insert_entry, is_at}
use Rattle.std.specs.List.{AllByRecursion}
use Rattle.std.specs.List.Sorted.{IsStrictlySortedBy}
use Rattle.std.specs.Map.{keys_of, lookup, remove_entry, set_value, values_of}
use Rattle.std.specs.Ordering.{nat_cmp}
use Rattle.std.specs.Result.{OnErr, OnOk}
use Rattle.std.specs.declared.cmp.Ordering.TheVariants.{Greater, Less}
use Rattle.std.proofs.lemmas.Bool.{cases_Bool}
use Rattle.std.proofs.lemmas.Bool.Decides.{nat_tests}
use Rattle.std.proofs.lemmas.List.{map-append}
use Rattle.std.proofs.lemmas.Map.{keys-set_value}
use Rattle.std.proofs.lemmas.Map.Keys.{sorted_head, sorted_tail}
use Rattle.px_ops.specs.declared.job.Job.{Job}
use Rattle.replqueue.specs.Rows.{AreAscending, AreNumbered, AreRows, changed_at, has_number}

-- a key is found under itself alone
pub at_key : (number key : ℕ) → is_at (nat_cmp number) key ≡ (key == number)
at_key number key = grind (arith, nat_tests)

-- a later number is another
later_other : (number key : ℕ) → nat_cmp number key ≡ Less → (key == number) ≡ false
later_other number key later = grind (arith, nat_tests)

later_less : (number key : ℕ) → nat_cmp number key ≡ Less → number < key
later_less number key later = grind (arith, nat_tests)

-- the job of a number is found
pub found_job : (number : ℕ) (es : List (ℕ × Job)) → AreNumbered es
    → lookup (is_at (nat_cmp number)) es ≡ find (has_number number) (values_of es)
found_job number [] all = refl
found_job number (e ∷ es) all = rw (at_key number e.0, all.0, found_job number es all.1) refl

-- none of these has the number
abbrev pub AreOthers : ℕ → List Job → Type 0
AreOthers number jobs = AllByRecursion (λ (job : Job). (job.number.0 == number) ≡ false) jobs

-- no later job has an earlier number
others_after : (number : ℕ) (es : List (ℕ × Job)) → AreNumbered es
    → AllByRecursion (λ (key : ℕ). nat_cmp number key ≡ Less) (keys_of es)
    → AreOthers number (values_of es)
others_after number [] all later = tt
others_after number (e ∷ es) all later =
    (rw (← all.0) (later_other number e.0 later.0), others_after number es all.1 later.1)

-- the jobs ascend, as their keys do
later_ascend : (number : ℕ) (es : List (ℕ × Job)) → AreNumbered es
    → AllByRecursion (λ (key : ℕ). nat_cmp number key ≡ Less) (keys_of es)
    → AllByRecursion (λ (later : Job). number < later.number.0) (values_of es)
later_ascend number [] all later = tt
later_ascend number (e ∷ es) all later =
    (rw (← all.0) (later_less number e.0 later.0), later_ascend number es all.1 later.1)

pub ascending : (es : List (ℕ × Job)) → AreNumbered es → IsStrictlySortedBy nat_cmp (keys_of es)
    → AreAscending (values_of es)
ascending [] all ascend = tt
ascending (e ∷ es) all ascend = (
  rw (← all.0) (later_ascend e.0 es all.1 (sorted_head nat_cmp e.0 (keys_of es) ascend)),
  ascending es all.1 (sorted_tail nat_cmp e.0 (keys_of es) ascend),
)

-- all of others stay
all_stay : (number : ℕ) (jobs : List Job) → AreOthers number jobs
    → filter (λ (job : Job). not (job.number.0 == number)) jobs ≡ jobs
all_stay number [] all = refl
all_stay number (job ∷ jobs) all = rw (all.0, all_stay number jobs all.1) refl

-- ---- without the job of a number

-- an entry less is the job less
pub removed_is : (number : ℕ) (es : List (ℕ × Job)) → AreNumbered es
    → IsStrictlySortedBy nat_cmp (keys_of es)
    → values_of (remove_entry (is_at (nat_cmp number)) es)
    ≡ filter (λ (job : Job). not (job.number.0 == number)) (values_of es)
removed_is number [] all ascend = refl
removed_is number (e ∷ es) all ascend =
    elim (cases_Bool (e.1.number.0 == number)) [
      | inl t ↦
          (let at : e.0 == number ≡ true = rw all.0 t in
          let others : AreOthers e.0 (values_of es) =
          others_after e.0 es all.1 (sorted_head nat_cmp e.0 (keys_of es) ascend) in
          let same : e.0 ≡ number = grind (arith, nat_tests) in
          rw (at_key number e.0, at, t) (sym (all_stay number (values_of es) (rw (← same) others))))
      | inr f ↦ rw (at_key number e.0, all.0, f) (ap (λ (rest : List Job). e.1 ∷ rest)
          (removed_is number es all.1 (sorted_tail nat_cmp e.0 (keys_of es) ascend)))
    ]

-- the entries that are left stand under their numbers
pub numbered_removed : (number : ℕ) (es : List (ℕ × Job)) → AreNumbered es
    → AreNumbered (remove_entry (is_at (nat_cmp number)) es)
numbered_removed number [] all = tt
numbered_removed number (e ∷ es) all =
    elim (cases_Bool (is_at (nat_cmp number) e.0)) [
      | inl t ↦ rw t all.1
      | inr f ↦ rw f (all.0, numbered_removed number es all.1)
    ]

-- ---- the job of a number changed

-- no job of another number changes
each_stays : (number : ℕ) (change : Job → Job) (jobs : List Job) → AreOthers number jobs
    → map (changed_at number change) jobs ≡ jobs
each_stays number change [] all = refl
each_stays number change (job ∷ jobs) all = rw (all.0, each_stays number change jobs all.1) refl

-- an entry with another job is the job changed
changed_is : (number : ℕ) (change : Job → Job) (es : List (ℕ × Job)) (job : Job)
    → AreNumbered es → IsStrictlySortedBy nat_cmp (keys_of es) → lookup (is_at (nat_cmp number)) es
    ≡ Some job
    → values_of (set_value (is_at (nat_cmp number)) es (change job))
    ≡ map (changed_at number change) (values_of es)
changed_is number change [] job all ascend there = absurd (cc)
changed_is number change (e ∷ es) job all ascend there =
    elim (cases_Bool (e.1.number.0 == number)) [
      | inl t ↦
          (let at : e.0 == number ≡ true = rw all.0 t in
          let others : AreOthers e.0 (values_of es) =
          others_after e.0 es all.1 (sorted_head nat_cmp e.0 (keys_of es) ascend) in
          let same : e.0 ≡ number = grind (arith, nat_tests) in
          let is : Some e.1 ≡ Some job = rw (at_key number e.0, at) at there in
          let one : e.1 ≡ job = cc in
          rw (at_key number e.0, at, t, ← one) (ap (λ (rest : List Job). change e.1 ∷ rest)
          (sym (each_stays number change (values_of es) (rw (← same) others)))))
      | inr f ↦
          (let later : lookup (is_at (nat_cmp number)) es ≡ Some job =
          rw (at_key number e.0, all.0, f) at there in
          rw (at_key number e.0, all.0, f) (ap (λ (rest : List Job). e.1 ∷ rest)
          (changed_is number change es job all.1 (sorted_tail nat_cmp e.0 (keys_of es) ascend)
          later)))
    ]

-- a job that has the number of the entry stands under its number
numbered_changed : (es : List (ℕ × Job)) (job : Job) → AreNumbered es
    → AreNumbered (set_value (is_at (nat_cmp job.number.0)) es job)
numbered_changed [] job all = tt
numbered_changed (e ∷ es) job all =
    elim (cases_Bool (e.0 == job.number.0)) [
      | inl t ↦ rw (at_key job.number.0 e.0, t) (grind (arith, nat_tests), all.1)
      | inr f ↦ rw (at_key job.number.0 e.0, f) (all.0, numbered_changed es job all.1)
    ]

-- the table, after a job stands in the place of another one
pub replaced_kept : (es : List (ℕ × Job)) (job : Job) → AreRows es
    → AreRows (set_value (is_at (nat_cmp job.number.0)) es job)
replaced_kept es job kept = record {
  numbers = numbered_changed es job kept.numbers;
  ascend = rw (keys-set_value (is_at (nat_cmp job.number.0)) es job) kept.ascend;
}

-- the jobs, after it
pub replaced_is : (es : List (ℕ × Job)) (job : Job) (change : Job → Job) (before : Job) → AreRows es
    → lookup (is_at (nat_cmp job.number.0)) es ≡ Some before → job ≡ change before
    → values_of (set_value (is_at (nat_cmp job.number.0)) es job)
    ≡ map (changed_at job.number.0 change) (values_of es)
replaced_is es job change before kept there becomes =
    ap (λ (then_ : Job). values_of (set_value (is_at (nat_cmp job.number.0)) es then_)) becomes
    ∙ changed_is job.number.0 change es before kept.numbers kept.ascend there

-- ---- one job more

-- a later job comes last
comes_last : (es : List (ℕ × Job)) (job : Job)
    → AllByRecursion (λ (e : ℕ × Job). e.0 < job.number.0) es
    → insert_entry nat_cmp es job.number.0 job ≡ es ++ (job.number.0, job) ∷ []
comes_last [] job all = refl
comes_last (e ∷ es) job all =
    let after : nat_cmp job.number.0 e.0 ≡ Greater = grind (arith, nat_tests, all.0) in
    rw after (ap (λ (rest : List (ℕ × Job)). e ∷ rest) (comes_last es job all.1))

-- as the keys are the numbers
all_earlier : (es : List (ℕ × Job)) (job : Job) → AreNumbered es
    → AreAscending (values_of es ++ job ∷ []) → AllByRecursion (λ (e : ℕ × Job). e.0 < job.number.0)
    es
all_earlier [] job all ascend = tt
all_earlier (e ∷ es) job all ascend = (
  rw all.0 (last_of (λ (later : Job). e.1.number.0 < later.number.0) (values_of es) job
      ascend.0),
  all_earlier es job all.1 ascend.1,
)
  where
    last_of : (P : Job → Type 0) (jobs : List Job) (job : Job) → AllByRecursion P (jobs ++ job ∷ [])
        → P job
    last_of P [] job each = each.0
    last_of P (first ∷ jobs) job each = last_of P jobs job each.1

pushed_is : (es : List (ℕ × Job)) (job : Job) → AreNumbered es
    → AreAscending (values_of es ++ job ∷ [])
    → insert_entry nat_cmp es job.number.0 job ≡ es ++ (job.number.0, job) ∷ []
pushed_is es job all ascend = comes_last es job (all_earlier es job all ascend)

-- one job more stands under its number
numbered_pushed : (es : List (ℕ × Job)) (job : Job) → AreNumbered es
    → AreNumbered (es ++ (job.number.0, job) ∷ [])
numbered_pushed [] job all = (refl, tt)
numbered_pushed (e ∷ es) job all = (all.0, numbered_pushed es job all.1)

-- the table, after the job came or where memory wanted
pub pushed_kept : {A E : Type 0} (r : Result A E) (es new : List (ℕ × Job)) (job : Job) → AreRows es
    → AreAscending (values_of es ++ job ∷ []) → IsStrictlySortedBy nat_cmp (keys_of new)
    → OnOk r (new ≡ insert_entry nat_cmp es job.number.0 job) → OnErr r (new ≡ es) → AreRows new
pushed_kept (Ok x) es new job kept ascend sorted ok err = record {
  numbers = rw (ok ∙ pushed_is es job kept.numbers ascend) (numbered_pushed es job kept.numbers);
  ascend = sorted;
}
pushed_kept (Err e) es new job kept ascend sorted ok err = rw err kept

-- the jobs, after it
pub pushed_last : {A E : Type 0} (r : Result A E) (es new : List (ℕ × Job)) (job : Job) → AreRows es
    → AreAscending (values_of es ++ job ∷ [])
    → OnOk r (new ≡ insert_entry nat_cmp es job.number.0 job)
    → OnOk r (values_of new ≡ values_of es ++ job ∷ [])
pushed_last (Ok x) es new job kept ascend ok =
    ap values_of (ok ∙ pushed_is es job kept.numbers ascend)
    ∙ map-append (λ (e : ℕ × Job). e.1) es ((job.number.0, job) ∷ [])
pushed_last (Err e) es new job kept ascend ok = tt
