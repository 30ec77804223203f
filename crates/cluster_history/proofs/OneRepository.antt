-- An event that changes one repository of the book, or none.
use Rattle.std.proofs.Common.{◌≡◌, ℕ, ◌==◌, Option, None, Some, sym, ◌∙◌, ap, subst, inl, inr, slice_get, set}
use Rattle.px_cluster.specs.Book.{Repository}
use Rattle.px_cluster.specs.Core.{repository}
use Rattle.safe_states.specs.Grows.{LeadsTo}
use Rattle.cluster_form.proofs.Lists.{bool, other_number, same_number, some_is}
use Rattle.cluster_history.specs.Goes.{Goes, GoesOn}
use Rattle.cluster_history.specs.History.{Whole}
use Rattle.cluster_history.specs.Seen.{state_of}
use Rattle.cluster_history.proofs.Books.{got_other, got_set}
use Rattle.cluster_history.proofs.Frame.{LooksSame, stays_so}

none_is_none : {A : Type 0} (P : Type 0) (a b : Option A) (x : A) → b ≡ a → a ≡ None → b ≡ Some x → P
none_is_none P a b x same none some = absurd (let z : None ≡ Some x = sym none ∙ sym same ∙ some in cc)

-- ---- no book changes

module _ (old new : Whole) (books : new.cluster.core.repositories ≡ old.cluster.core.repositories) where
  same_book : (repo : ℕ) → repository new.cluster.core repo ≡ repository old.cluster.core repo
  same_book repo = ap (λ xs. slice_get xs repo) books

  -- each repository goes on with the book that it has
  pub each_goes : ((repo : ℕ) (book : Repository) → repository old.cluster.core repo ≡ Some book
      → LeadsTo (state_of old repo book) (state_of new repo book)) → GoesOn old new
  each_goes leads = record {
    each = λ repo book there. record {
      now = book;
      there = same_book repo ∙ there;
      leads = leads repo book there;
    };
    comes = λ repo book none some. none_is_none _ (repository old.cluster.core repo)
        (repository new.cluster.core repo) book (same_book repo) none some;
  }

  -- nothing that is seen of any changes
  pub none_goes : ((repo : ℕ) (book : Repository) → repository old.cluster.core repo ≡ Some book
      → LooksSame old new repo book) → GoesOn old new
  none_goes looks = record {
    each = λ repo book there. stays_so old new repo book (looks repo book there)
        (same_book repo ∙ there);
    comes = λ repo book none some. none_is_none _ (repository old.cluster.core repo)
        (repository new.cluster.core repo) book (same_book repo) none some;
  }

  -- .. but of this one
  pub one_goes : (repo : ℕ) (book : Repository) → repository old.cluster.core repo ≡ Some book
      → ((other : ℕ) (b : Repository) → (other ≡ repo → ⊥)
      → repository old.cluster.core other ≡ Some b → LooksSame old new other b)
      → LeadsTo (state_of old repo book) (state_of new repo book) → GoesOn old new
  one_goes repo book there looks leads = record {
    each = λ other b known. elim (bool (other == repo)) [
      | inl holds ↦ (let same = same_number other repo holds in
          let one : book ≡ b = some_is book b
          (sym there ∙ ap (repository old.cluster.core) (sym same) ∙ known) in
          record {
            now = b;
            there = same_book other ∙ known;
            leads = subst (λ x. LeadsTo (state_of old x b) (state_of new x b)) (sym same)
                (subst (λ x. LeadsTo (state_of old repo x) (state_of new repo x)) one leads);
          })
      | inr fails ↦ stays_so old new other b (looks other b (other_number other repo fails) known)
          (same_book other ∙ known)
    ];
    comes = λ other b none some. none_is_none _ (repository old.cluster.core other)
        (repository new.cluster.core other) b (same_book other) none some;
  }

-- ---- one book changes

module _ (old new : Whole) (repo : ℕ) (book now : Repository)
    (known : repository old.cluster.core repo ≡ Some book)
    (books : new.cluster.core.repositories ≡ set old.cluster.core.repositories repo now)
    (looks : (other : ℕ) (b : Repository) → (other ≡ repo → ⊥)
    → repository old.cluster.core other ≡ Some b → LooksSame old new other b)
    (leads : LeadsTo (state_of old repo book) (state_of new repo now)) where
  here : repository new.cluster.core repo ≡ Some now
  here = ap (λ xs. slice_get xs repo) books ∙ got_set old.cluster.core.repositories repo book now known

  elsewhere : (other : ℕ) → (other ≡ repo → ⊥)
      → repository new.cluster.core other ≡ repository old.cluster.core other
  elsewhere other differs = ap (λ xs. slice_get xs other) books
      ∙ got_other old.cluster.core.repositories repo other now differs

  goes : (other : ℕ) (b : Repository) → repository old.cluster.core other ≡ Some b
      → Goes old new other b
  goes other b there = elim (bool (other == repo)) [
    | inl holds ↦ (let same = same_number other repo holds in
        let one : book ≡ b = some_is book b
        (sym known ∙ ap (repository old.cluster.core) (sym same) ∙ there) in
        subst (λ x. Goes old new x b) (sym same)
        (subst (λ x. Goes old new repo x) one
        (record { now = now; there = here; leads = leads })))
    | inr fails ↦ (let differs = other_number other repo fails in
        stays_so old new other b (looks other b differs there) (elsewhere other differs ∙ there))
  ]

  pub book_goes : GoesOn old new
  book_goes = record {
    each = goes;
    comes = λ other b none some. elim (bool (other == repo)) [
      | inl holds ↦ (let same = same_number other repo holds in
          absurd (let z : None ≡ Some book =
          sym none ∙ ap (repository old.cluster.core) same ∙ known in cc))
      | inr fails ↦ none_is_none _ (repository old.cluster.core other)
          (repository new.cluster.core other) b (elsewhere other (other_number other repo fails))
          none some
    ];
  }
