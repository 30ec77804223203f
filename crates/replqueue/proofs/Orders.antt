-- Jobs whose numbers ascend: one has a number, and what is removed or replaced by it is known.
use Rattle.std.proofs.Common.{◌≡◌, ◌<◌, ◌≤◌, ◌+◌, ◌==◌, ◌||◌, ℕ, List, [], ◌∷◌, ◌++◌, Bool, true, false, Option, None, Some, refl, ap, sym, ◌∙◌, inl, inr, arith, append_assoc, drop, get_or, length, subst, take}
use Rattle.std.specs.Prelude.{not, filter, find, map}
use Rattle.std.specs.List.{AllByRecursion, list_any}
use Rattle.std.proofs.lemmas.Bool.{cases_Bool}
use Rattle.std.proofs.lemmas.Bool.Decides.{nat_tests}
use Rattle.std.proofs.lemmas.List.{take-append-drop, take_more}
use Rattle.std.proofs.lemmas.List.Elements.{filter-append}
use Rattle.px_ops.specs.declared.job.Job.{Job}
use Rattle.cluster_form.proofs.JobLists.{all_any}
use Rattle.cluster_form.proofs.Lists.{all_find, all_such, same_self}
use Rattle.cluster_form.proofs.OneOf.{all_taken}
use Rattle.replqueue.specs.Rows.{AreAscending, changed_at, has_number, is_among}

-- ---- lists

pub find_same : {A : Type 0} (p q : A → Bool) (xs : List A) → AllByRecursion (λ x. p x ≡ q x) xs
    → find p xs ≡ find q xs
find_same p q [] all = refl
find_same p q (x ∷ xs) all = rw (all.0, find_same p q xs all.1) refl

pub find_none : {A : Type 0} (p : A → Bool) (xs : List A) → AllByRecursion (λ x. p x ≡ false) xs
    → find p xs ≡ None
find_none p [] all = refl
find_none p (x ∷ xs) all = rw (all.0, find_none p xs all.1) refl

pub all_pass : {A : Type 0} (p : A → Bool) (xs : List A) → AllByRecursion (λ x. p x ≡ true) xs
    → filter p xs ≡ xs
all_pass p [] all = refl
all_pass p (x ∷ xs) all = rw (all.0, all_pass p xs all.1) refl

pub none_pass : {A : Type 0} (p : A → Bool) (xs : List A) → AllByRecursion (λ x. p x ≡ false) xs
    → filter p xs ≡ []
none_pass p [] all = refl
none_pass p (x ∷ xs) all = rw (all.0, none_pass p xs all.1) refl

-- where none is found, none passes
pub none_found : {A : Type 0} (p : A → Bool) (xs : List A) → find p xs ≡ None
    → AllByRecursion (λ x. p x ≡ false) xs
none_found p [] none = tt
none_found p (x ∷ xs) none = elim (cases_Bool (p x)) [
  | inl t ↦ absurd (let some : Some x ≡ None = rw t at none in cc)
  | inr f ↦ (f, none_found p xs (rw f at none))
]

-- what is left has what it had, and passes
pub all_left : {A : Type 0} (P Q : A → Type 0) (p : A → Bool) (xs : List A)
    → ((x : A) → p x ≡ true → P x → Q x)
    → AllByRecursion P xs → AllByRecursion Q (filter p xs)
all_left P Q p [] on all = tt
all_left P Q p (x ∷ xs) on all = elim (cases_Bool (p x)) [
  | inl t ↦ rw t (on x t all.0, all_left P Q p xs on all.1)
  | inr f ↦ rw f (all_left P Q p xs on all.1)
]

-- what one filter takes out, another one takes out too
pub filter_less : {A : Type 0} (p q : A → Bool) (xs : List A) → AllByRecursion (λ x. q x ≡ false
    → p x ≡ false) xs
    → filter p (filter q xs) ≡ filter p xs
filter_less p q [] all = refl
filter_less p q (x ∷ xs) all = elim (cases_Bool (q x)) [
  | inl t ↦ rw t (elim (cases_Bool (p x)) [
    | inl s ↦ rw s (ap (λ (rest : List _). x ∷ rest) (filter_less p q xs all.1))
    | inr s ↦ rw s (filter_less p q xs all.1)
  ])
  | inr f ↦ rw (f, all.0 f) (filter_less p q xs all.1)
]

-- what passes neither of two tests passes not both
pub filter_both : {A : Type 0} (p q r : A → Bool) (xs : List A) → ((x : A) → r x ≡ (p x || q x))
    → filter (λ x. not (q x)) (filter (λ x. not (p x)) xs) ≡ filter (λ x. not (r x)) xs
filter_both p q r [] is = refl
filter_both p q r (x ∷ xs) is = elim (cases_Bool (p x)) [
  | inl t ↦ rw (is x, t) (filter_both p q r xs is)
  | inr f ↦ elim (cases_Bool (q x)) [
    | inl s ↦ rw (is x, f, s) (filter_both p q r xs is)
    | inr s ↦ rw (is x, f, s) (ap (λ (rest : List _). x ∷ rest) (filter_both p q r xs is))
  ]
]

-- of none, none are taken out
pub none_gone : (jobs : List Job) → jobs ≡ filter (λ (job : Job). not (is_among [] job)) jobs
none_gone [] = refl
none_gone (job ∷ jobs) = ap (λ (rest : List Job). job ∷ rest) (none_gone jobs)

-- ---- numbers that ascend

same_as : (a b : ℕ) → (a == b) ≡ true → a ≡ b
same_as a b is = grind (arith, nat_tests)

below_other : (a b n : ℕ) → (a == n) ≡ true → a < b → (b == n) ≡ false
below_other a b n is below = grind (arith, nat_tests)

flipped : (a b : ℕ) → a < b → (a == b) ≡ false
flipped a b below = grind (arith, nat_tests)

-- the job of a number is the one that is found under it
pub only_one : (number : ℕ) (found : Option Job) (jobs : List Job) → AreAscending jobs
    → find (has_number number) jobs ≡ found
    → AllByRecursion (λ (job : Job). (job.number.0 == number) ≡ true → found ≡ Some job) jobs
only_one number found [] ascend is = tt
only_one number found (first ∷ jobs) ascend is = elim (cases_Bool (first.number.0 == number)) [
  | inl t ↦ (
    λ self. sym (rw t at is),
    all_such (λ (later : Job). first.number.0 < later.number.0) _ jobs
        (λ later below self. absurd (let no : (later.number.0 == number) ≡ false =
        below_other first.number.0 later.number.0 number t below in cc))
        ascend.0,
  )
  | inr f ↦ (λ self. absurd (cc), only_one number found jobs ascend.1 (rw f at is))
]

-- what is found by a test is found by its number
pub found_by_number : (test : Job → Bool) (jobs : List Job) (job : Job) → AreAscending jobs
    → find test jobs ≡ Some job
    → find (has_number job.number.0) jobs ≡ Some job
found_by_number test [] job ascend is = absurd (cc)
found_by_number test (first ∷ jobs) job ascend is = elim (cases_Bool (test first)) [
  | inl t ↦
      (let found : Some first ≡ Some job = rw t at is in
      let one : first ≡ job = cc in
      rw (← one, same_self first.number.0) refl)
  | inr f ↦
      (let later : find test jobs ≡ Some job = rw f at is in
      let below : first.number.0 < job.number.0 =
      (all_find (λ (other : Job). first.number.0 < other.number.0) test jobs job ascend.0
      later).0 in
      rw (flipped first.number.0 job.number.0 below) (found_by_number test jobs job ascend.1 later))
]

-- it has that number
pub has_its_number : (number : ℕ) (jobs : List Job) (job : Job) → find (has_number number) jobs
    ≡ Some job → job.number.0 ≡ number
has_its_number number [] job is = absurd (cc)
has_its_number number (first ∷ jobs) job is = elim (cases_Bool (first.number.0 == number)) [
  | inl t ↦ (let found : Some first ≡ Some job = rw t at is in let one : first ≡ job = cc in
      rw (← one) (same_as first.number.0 number t))
  | inr f ↦ has_its_number number jobs job (rw f at is)
]

-- each job of the number of what a test finds is that one
pub found_alone : (test : Job → Bool) (jobs : List Job) (job : Job) → AreAscending jobs
    → find test jobs ≡ Some job
    → AllByRecursion (λ (other : Job). (other.number.0 == job.number.0) ≡ true → job ≡ other) jobs
found_alone test jobs job ascend is = all_such _ _ jobs
    (λ other one self. let found : Some job ≡ Some other = one self in cc)
    (only_one job.number.0 (Some job) jobs ascend (found_by_number test jobs job ascend is))

pub passes_found : (test : Job → Bool) (jobs : List Job) (job : Job) → find test jobs ≡ Some job
    → test job ≡ true
passes_found test [] job is = absurd (cc)
passes_found test (first ∷ jobs) job is = elim (cases_Bool (test first)) [
  | inl t ↦ (let found : Some first ≡ Some job = rw t at is in let one : first ≡ job = cc in
      rw (← one) t)
  | inr f ↦ passes_found test jobs job (rw f at is)
]

-- ---- jobs removed

-- without the number of what a test finds, no more is gone than what the test finds
pub taken_out : (test : Job → Bool) (jobs : List Job) (job : Job) → AreAscending jobs
    → find test jobs ≡ Some job
    → AllByRecursion (λ (other : Job). not (other.number.0 == job.number.0) ≡ false
    → not (test other) ≡ false) jobs
taken_out test jobs job ascend is =
    all_such _ (λ (other : Job). not (other.number.0 == job.number.0) ≡ false → not (test other)
    ≡ false) jobs
    (λ other alone gone. ap not (subst (λ (j : Job). test j
    ≡ true) (alone (unless (other.number.0 == job.number.0) gone))
    (passes_found test jobs job is)))
    (found_alone test jobs job ascend is)
  where
    unless : (b : Bool) → not b ≡ false → b ≡ true
    unless true gone = refl
    unless false gone = absurd (let no : true ≡ false = gone in cc)

-- where a job is found, fewer are left without its number
pub fewer_left : (number : ℕ) (jobs : List Job) (job : Job) → find (has_number number) jobs
    ≡ Some job
    → length (filter (λ (other : Job). not (other.number.0 == number)) jobs) < length jobs
fewer_left number [] job is = absurd (cc)
fewer_left number (first ∷ jobs) job is = elim (cases_Bool (first.number.0 == number)) [
  | inl t ↦ rw t (let most = at_most jobs in omega (arith, most))
  | inr f ↦ rw f (let fewer = fewer_left number jobs job (rw f at is) in omega (arith, fewer))
]
  where
    at_most : (jobs : List Job)
        → length (filter (λ (other : Job). not (other.number.0 == number)) jobs) ≤ length jobs
    at_most [] = omega arith
    at_most (other ∷ jobs) = elim (cases_Bool (other.number.0 == number)) [
      | inl t ↦ rw t (let most = at_most jobs in omega (arith, most))
      | inr f ↦ rw f (let most = at_most jobs in omega (arith, most))
    ]

-- ---- jobs replaced

-- the job that was found became another one, and all others are as before
pub all_replaced : (P Q : Job → Type 0) (number : ℕ) (job before : Job) (jobs : List Job)
    → AreAscending jobs
    → find (has_number number) jobs ≡ Some before → ((other : Job) → (other.number.0 == number)
    ≡ false → P other → Q other) → (P before → Q job)
    → AllByRecursion P jobs → AllByRecursion Q (map (changed_at number (λ other. job)) jobs)
all_replaced P Q number job before [] ascend found others here all = tt
all_replaced P Q number job before (first ∷ jobs) ascend found others here all =
    elim (cases_Bool (first.number.0 == number)) [
      | inl t ↦
          (let is : Some first ≡ Some before = rw t at found in
          let one : first ≡ before = cc in
          rw t (
            here (subst P one all.0),
            rest jobs (all_such (λ (later : Job). first.number.0 < later.number.0) _ jobs
                (λ later below. below_other first.number.0 later.number.0 number t below) ascend.0)
                all.1,
          ))
      | inr f ↦ rw f (
        others first f all.0,
        all_replaced P Q number job before jobs ascend.1
            (rw f at found) others here all.1,
      )
    ]
  where
    rest : (jobs : List Job) → AllByRecursion (λ (later : Job). (later.number.0 == number)
        ≡ false) jobs → AllByRecursion P jobs
        → AllByRecursion Q (map (changed_at number (λ other. job)) jobs)
    rest [] apart all = tt
    rest (later ∷ jobs) apart all = rw apart.0 (others later apart.0 all.0, rest jobs apart.1 all.1)

-- ---- jobs that come

pub front_ascends : (jobs more : List Job) → AreAscending (jobs ++ more) → AreAscending jobs
front_ascends [] more ascend = tt
front_ascends (job ∷ jobs) more ascend = (
  front (λ (later : Job). job.number.0 < later.number.0) jobs ascend.0,
  front_ascends jobs more
      ascend.1,
)
  where
    front : (P : Job → Type 0) (jobs : List Job) → AllByRecursion P (jobs ++ more)
        → AllByRecursion P jobs
    front P [] all = tt
    front P (job ∷ jobs) all = (all.0, front P jobs all.1)

back : (P : Job → Type 0) (jobs more : List Job) → AllByRecursion P (jobs ++ more)
    → AllByRecursion P more
back P [] more all = all
back P (job ∷ jobs) more all = back P jobs more all.1

above_all : (number : ℕ) (more : List Job)
    → AllByRecursion (λ (later : Job). number < later.number.0) more
    → list_any (λ (other : Job). number == other.number.0) more ≡ false
above_all number [] all = refl
above_all number (later ∷ more) all =
    rw (flipped number later.number.0 all.0) (above_all number more all.1)

-- the jobs that were there are none of those that come
are_others : (jobs more : List Job) → AreAscending (jobs ++ more)
    → AllByRecursion (λ (job : Job). not (is_among more job) ≡ true) jobs
are_others [] more ascend = tt
are_others (job ∷ jobs) more ascend = (
  ap not (above_all job.number.0 more (back (λ (later : Job). job.number.0 < later.number.0) jobs
      more ascend.0)),
  are_others jobs more ascend.1,
)

-- without those that come, the first of which are here, all is as before
pub rolled_back : (i : ℕ) (jobs more : List Job) → AreAscending (jobs ++ more)
    → filter (λ (job : Job). not (is_among more job)) (jobs ++ take i more) ≡ jobs
rolled_back i jobs more ascend =
    filter-append (λ (job : Job). not (is_among more job)) jobs (take i more)
    ∙ (λ k. all_pass _ jobs (are_others jobs more ascend) k ++ none_pass _ (take i more)
    (all_taken _ i more comes) k)
    ∙ append_nil jobs
  where
    comes : AllByRecursion (λ (job : Job). not (is_among more job) ≡ false) more
    comes = all_such _ (λ (job : Job). not (is_among more job) ≡ false) more
        (λ job any. ap not (any (λ (other : Job). job.number.0 ==
        other.number.0) (same_self job.number.0))) (all_any more)

    append_nil : (jobs : List Job) → jobs ++ [] ≡ jobs
    append_nil [] = refl
    append_nil (job ∷ jobs) = ap (λ (rest : List Job). job ∷ rest) (append_nil jobs)

-- the next of them comes after those that are here
pub next_ascends : (i : ℕ) (jobs more here : List Job) (next : Job) → i < length more → next
    ≡ get_or more i next → here ≡ jobs ++ take i more
    → AreAscending (jobs ++ more) → AreAscending (here ++ next ∷ [])
next_ascends i jobs more here next within is so_far ascend =
    let further : take (i + 1) more ≡ take i more ++ next ∷ [] = take_more more i next within
    ∙ ap (λ (last : Job). take i more ++ last ∷ []) (sym is) in
    let all : (jobs ++ take (i + 1) more) ++ drop (i + 1) more ≡ jobs ++ more =
    append_assoc jobs (take (i + 1) more) (drop (i + 1) more)
    ∙ ap (λ (rest : List Job). jobs ++ rest) (take-append-drop (i + 1) more) in
    let there : here ++ next ∷ [] ≡ jobs ++ take (i + 1) more =
    ap (λ (front : List Job). front ++ next ∷ []) so_far
    ∙ append_assoc jobs (take i more) (next ∷ [])
    ∙ ap (λ (rest : List Job). jobs ++ rest) (sym further) in
    rw there (front_ascends (jobs ++ take (i + 1) more) (drop (i + 1) more) (rw all ascend))
