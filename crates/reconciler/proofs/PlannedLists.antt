-- What is planned of one replica or repository more.
use Rattle.std.proofs.Common.{◌≡◌, ◌+◌, ◌<◌, ◌++◌, ◌∷◌, ◌∙◌, [], ℕ, zero, suc, List, length, take, get_or, slice_get, Some, None, refl, sym, ap, append_assoc, arith}
use Rattle.std.specs.Prelude.{flat_map}
use Rattle.std.proofs.Math.Seq.{take-nil}
use Rattle.std.proofs.lemmas.Grind.{flat_map-append}
use Rattle.std.proofs.lemmas.List.{append-nil, take_more}
use Rattle.px_ops.specs.declared.job.Job.{Job}
use Rattle.px_cluster.specs.Book.{Repository}
use Rattle.px_cluster.specs.Core.{Core}
use Rattle.px_cluster.specs.Plan.{planned_for, planned_from}

-- the pieces of one element more
pub one_piece_more : {A B : Type 0} (f : A → List B) (i : ℕ) (x : A) (xs : List A) → i < length xs
    → x ≡ get_or xs i x → flat_map f (take (i + 1) xs) ≡ flat_map f (take i xs) ++ f x
one_piece_more f i x xs within is =
    ap (flat_map f) (take_more xs i x within)
    ∙ flat_map-append f (take i xs) (get_or xs i x ∷ [])
    ∙ ap (λ piece. flat_map f (take i xs) ++ piece) (append-nil (f (get_or xs i x)))
    ∙ ap (λ y. flat_map f (take i xs) ++ f y) (sym is)

-- all elements were looked at
pub past_end : {A : Type 0} (xs : List A) (i : ℕ) → slice_get xs i ≡ None → take i xs ≡ xs
past_end [] i is = take-nil i
past_end (x ∷ xs) zero is = absurd (let some : Some x ≡ None = is in cc)
past_end (x ∷ xs) (suc i) is = ap (λ rest. x ∷ rest) (past_end xs i is)

module _ (core : Core) where
  -- the jobs of one repository more
  one_repository_more : (n : ℕ) (books : List Repository) (i : ℕ) (book : Repository)
      → slice_get books i ≡ Some book
      → planned_from core n (take (i + 1) books)
      ≡ planned_from core n (take i books) ++ planned_for core (n + i) book
  one_repository_more n [] i book is = absurd (let none : None ≡ Some book = is in cc)
  one_repository_more n (first ∷ books) zero book is =
      let here : Some first ≡ Some book = is in
      let same : first ≡ book = cc in
      let number : n ≡ n + 0 = omega arith in
      append-nil (planned_for core n first)
      ∙ ap (planned_for core n) same
      ∙ ap (λ (m : ℕ). planned_for core m book) number
  one_repository_more n (first ∷ books) (suc i) book is =
      let number : n + 1 + i ≡ n + suc i = omega arith in
      let jobs = planned_for core n first in
      let others = planned_from core (n + 1) (take i books) in
      let more : suc i + 1 ≡ suc (i + 1) = omega arith in
      ap (λ (m : ℕ). planned_from core n (take m (first ∷ books))) more
      ∙ ap (λ (rest : List Job). jobs ++ rest) (one_repository_more (n + 1) books i book is)
      ∙ sym (append_assoc jobs others (planned_for core (n + 1 + i) book))
      ∙ ap (λ (m : ℕ). jobs ++ others ++ planned_for core m book) number

  -- the same, counted from 0
  pub next_repository : (books : List Repository) (i : ℕ) (book : Repository)
      → slice_get books i ≡ Some book
      → planned_from core 0 (take i books) ++ planned_for core i book
      ≡ planned_from core 0 (take (i + 1) books)
  next_repository books i book is =
      let number : i ≡ 0 + i = omega arith in
      ap (λ (m : ℕ). planned_from core 0 (take i books) ++ planned_for core m book) number
      ∙ sym (one_repository_more 0 books i book is)
