-- Two repositories of one virtual storage have two paths, after each change of the book.
use Rattle.std.proofs.Common.{◌≡◌, ℕ, zero, suc, List, [], ◌∷◌, ◌++◌, None, Some, refl, sym, ◌∙◌, ap, subst, slice_get, set, map}
use Rattle.px_cluster.specs.Book.{Repository}
use Rattle.cluster_form.proofs.AlikeBooks.{AreAlike}
use Rattle.cluster_form.proofs.Lists.{some_is}
use Rattle.cluster_form.proofs.Places.{apart_more}

-- as the book has it
abbrev pub AreApart : List Repository → Type 0
AreApart books = (one other : ℕ) (a b : Repository) → slice_get books one ≡ Some a
    → slice_get books other ≡ Some b → a.virt ≡ b.virt → a.path ≡ b.path → one ≡ other

-- it stood in the old list, with its virtual storage and path
pub record Was (old : List Repository) (repo : ℕ) (now : Repository) : Type 0 where
  pub book : Repository
  pub there : slice_get old repo ≡ Some book
  pub virt : now.virt ≡ book.virt
  pub path : now.path ≡ book.path

abbrev pub WereThere : List Repository → List Repository → Type 0
WereThere old new = (repo : ℕ) (now : Repository) → slice_get new repo ≡ Some now
    → Was old repo now

pub still_apart : (old new : List Repository) → WereThere old new → AreApart old → AreApart new
still_apart old new were apart one other a b here there virt path =
    let first = were one a here in
    let second = were other b there in
    apart one other first.book second.book first.there second.there
    (sym first.virt ∙ virt ∙ second.virt) (sym first.path ∙ path ∙ second.path)

same_book : (books : List Repository) (repo : ℕ) (now : Repository)
    → slice_get books repo ≡ Some now → Was books repo now
same_book books repo now is = record { book = now; there = is; virt = refl; path = refl }

-- the first of the new list was the first of the old one
first_was : (book : Repository) (books : List Repository) (first now : Repository)
    → Some first ≡ Some now → first.virt ≡ book.virt → first.path ≡ book.path
    → Was (book ∷ books) zero now
first_was book books first now is virt path =
    let same = some_is first now is in
    record {
      book = book;
      there = refl;
      virt = subst (λ (b : Repository). b.virt ≡ book.virt) same virt;
      path = subst (λ (b : Repository). b.path ≡ book.path) same path;
    }

later_was : (book : Repository) (books : List Repository) (repo : ℕ) (now : Repository)
    → Was books repo now → Was (book ∷ books) (suc repo) now
later_was book books repo now was =
    record { book = was.book; there = was.there; virt = was.virt; path = was.path }

pub were_alike : (old new : List Repository) → AreAlike old new → WereThere old new
were_alike [] [] are repo now is = absurd (let none : None ≡ Some now = is in cc)
were_alike [] (book ∷ new) are repo now is = absurd are
were_alike (book ∷ old) [] are repo now is = absurd are
were_alike (book ∷ old) (first ∷ new) are zero now is =
    first_was book old first now is are.0.virt are.0.path
were_alike (book ∷ old) (first ∷ new) are (suc repo) now is =
    later_was book old repo now (were_alike old new are.1 repo now is)

-- each was changed
pub were_mapped : (change : Repository → Repository)
    → ((book : Repository) → (change book).virt ≡ book.virt)
    → ((book : Repository) → (change book).path ≡ book.path) → (books : List Repository)
    → WereThere books (map change books)
were_mapped change virt path [] repo now is = absurd (let none : None ≡ Some now = is in cc)
were_mapped change virt path (book ∷ books) zero now is =
    first_was book books (change book) now is (virt book) (path book)
were_mapped change virt path (book ∷ books) (suc repo) now is =
    later_was book books repo now (were_mapped change virt path books repo now is)

-- one was changed
pub were_set : (books : List Repository) (at : ℕ) (was new : Repository)
    → slice_get books at ≡ Some was → new.virt ≡ was.virt → new.path ≡ was.path
    → WereThere books (set books at new)
were_set [] at was new is virt path repo now there =
    absurd (let none : None ≡ Some now = there in cc)
were_set (book ∷ books) zero was new is virt path zero now there =
    let same = some_is book was is in
    first_was book books new now there (virt ∙ ap (λ (b : Repository). b.virt) (sym same))
    (path ∙ ap (λ (b : Repository). b.path) (sym same))
were_set (book ∷ books) zero was new is virt path (suc repo) now there =
    same_book (book ∷ books) (suc repo) now there
were_set (book ∷ books) (suc at) was new is virt path zero now there =
    same_book (book ∷ books) zero now there
were_set (book ∷ books) (suc at) was new is virt path (suc repo) now there =
    later_was book books repo now (were_set books at was new is virt path repo now there)

-- one came, and there was none of its virtual storage and path
pub apart_with : (books : List Repository) (new : Repository)
    → ((repo : ℕ) (book : Repository) → slice_get books repo ≡ Some book → book.virt ≡ new.virt
    → book.path ≡ new.path → ⊥) → AreApart books → AreApart (books ++ new ∷ [])
apart_with books new none apart one other a b here there virt path =
    apart_more (λ (x y : Repository). (x.virt ≡ y.virt) × (x.path ≡ y.path))
    (λ x y same. (sym same.0, sym same.1)) books new
    (λ repo book is same. none repo book is same.0 same.1)
    (λ i j x y is too same. apart i j x y is too same.0 same.1) one other a b here there
    (virt, path)
