-- Jobs that come to a list one after the other come together.
use Rattle.std.proofs.Common.{◌≡◌, ◌+◌, ◌-◌, ◌^◌, ◌++◌, ◌∷◌, ◌∙◌, [], ℕ, zero, suc, List, length, take, refl, sym, ap, append_assoc, arith}
use Rattle.std.proofs.Math.Seq.{take-nil}
use Rattle.std.proofs.lemmas.List.{append-nil, length-append}
use Rattle.px_ops.specs.declared.job.Job.{Job}
use Rattle.px_cluster.specs.Ids.{job_id}
use Rattle.px_cluster.specs.Plan.{numbered}
use Rattle.reconciler.specs.declared.listed.Listed.{Listed}
use Rattle.reconciler.specs.Listed.{Adds, cut}

-- the first of two lists, as many as are asked for
take_both : (left : ℕ) (xs ys : List Job)
    → take left (xs ++ ys) ≡ take left xs ++ take (left - length (take left xs)) ys
take_both zero [] ys = refl
take_both (suc left) [] ys =
    let all : suc left ≡ suc left - 0 = omega arith in
    ap (λ (n : ℕ). take n ys) all
take_both zero (x ∷ xs) ys = refl
take_both (suc left) (x ∷ xs) ys =
    let count = length (take left xs) in
    let same : left - count ≡ suc left - suc count = omega arith in
    ap (λ (rest : List Job). x ∷ rest) (take_both left xs ys
    ∙ ap (λ (n : ℕ). take left xs ++ take n ys) same)

-- the numbers go on from those of the first list
numbered_both : (last : ℕ) (xs ys : List Job)
    → numbered last (xs ++ ys) ≡ numbered last xs ++ numbered (last + length xs) ys
numbered_both last [] ys =
    let same : last ≡ last + 0 = omega arith in
    ap (λ (n : ℕ). numbered n ys) same
numbered_both last (x ∷ xs) ys =
    let same : last + 1 + length xs ≡ last + length (x ∷ xs) = omega arith in
    ap (λ (rest : List Job). record x { number = job_id (last + 1) } ∷ rest)
    (numbered_both (last + 1) xs ys
    ∙ ap (λ (n : ℕ). numbered (last + 1) xs ++ numbered n ys) same)

-- what is cut of two lists
cut_both : (last : ℕ) (xs ys : List Job)
    → cut last (xs ++ ys) ≡ cut last xs ++ cut (last + length (cut last xs)) ys
cut_both last xs ys =
    let count = length (cut last xs) in
    let left : 2 ^ 64 - 1 - last - count ≡ 2 ^ 64 - 1 - (last + count) = omega arith in
    take_both (2 ^ 64 - 1 - last) xs ys
    ∙ ap (λ (n : ℕ). cut last xs ++ take n ys) left

pub none_added : (at : Listed) → Adds [] at at
none_added at =
    let none : cut at.last [] ≡ [] = take-nil (2 ^ 64 - 1 - at.last) in
    record {
      listed = sym (ap (λ (jobs : List Job). at.jobs ++ numbered at.last jobs) none
          ∙ append-nil at.jobs);
      last = let same : at.last ≡ at.last + 0 = omega arith in
          same ∙ ap (λ (jobs : List Job). at.last + length jobs) (sym none);
    }

-- the numbers of more jobs, after those of the first
further : (old now : Listed) (xs ys : List Job) → now.last ≡ old.last + length (cut old.last xs)
    → numbered old.last (cut old.last xs) ++ numbered now.last (cut now.last ys)
    ≡ numbered old.last (cut old.last (xs ++ ys))
further old now xs ys last =
    let first = cut old.last xs in
    ap (λ (n : ℕ). numbered old.last first ++ numbered n (cut n ys)) last
    ∙ sym (ap (numbered old.last) (cut_both old.last xs ys)
    ∙ numbered_both old.last first (cut (old.last + length first) ys))

pub both_added : (old now new : Listed) (xs ys : List Job) → Adds xs old now → Adds ys now new
    → Adds (xs ++ ys) old new
both_added old now new xs ys before after_ =
    let first = cut old.last xs in
    let second = cut now.last ys in
    record {
      listed = after_.listed
          ∙ ap (λ (jobs : List Job). jobs ++ numbered now.last second) before.listed
          ∙ append_assoc old.jobs (numbered old.last first) (numbered now.last second)
          ∙ ap (λ (jobs : List Job). old.jobs ++ jobs) (further old now xs ys before.last);
      last = let same : new.last ≡ old.last + (length first + length second) =
          omega (arith, after_.last, before.last) in
          same
          ∙ ap (λ (n : ℕ). old.last + n) (sym (length-append first second))
          ∙ ap (λ (n : ℕ). old.last + length (first ++ cut n ys)) before.last
          ∙ ap (λ (jobs : List Job). old.last + length jobs) (sym (cut_both old.last xs ys));
    }
