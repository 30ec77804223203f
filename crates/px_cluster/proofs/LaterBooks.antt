-- No change of a book makes a repository fall behind, and lists of repositories only grow.
use Rattle.std.proofs.Common.{◌≡◌, ℕ, ◌≤◌, ◌+◌, zero, suc, List, [], ◌∷◌, ◌++◌, Bool, true, false, map, if◌then◌else◌, Option, None, Some, refl, arith, slice_get, set}
use Rattle.px_base.specs.Hash.{same_hash}
use Rattle.px_base.specs.declared.hash.Hash.{Hash}
use Rattle.px_base.specs.declared.phase.Phase.{Phase}
use Rattle.px_base.specs.declared.phase.Phase.TheVariants.{Prepared, Committed}
use Rattle.px_ops.specs.declared.job.Job.{Job}
use Rattle.px_ops.specs.declared.job.JobKind.{JobKind}
use Rattle.px_ops.specs.declared.job.JobKind.TheVariants.{Update, Delete}
use Rattle.std.specs.Str.{bytes_eq}
use Rattle.txmanager.specs.Voting.{Voting}
use Rattle.voters.specs.declared.outcome.Outcome.{Outcome}
use Rattle.voters.specs.declared.outcome.Outcome.TheVariants as outcome
use Rattle.px_cluster.specs.Book.{Replica, Repository}
use Rattle.px_cluster.specs.Casts.{booked_by, booked_by_commit, booked_by_outcomes, came_late, confirmed_on, member_named}
use Rattle.px_cluster.specs.Core.{OpenPush}
use Rattle.px_cluster.specs.Creating.{unrecorded, with_storage}
use Rattle.px_cluster.specs.Growth.{IsLater}
use Rattle.px_cluster.specs.Pushes.{prepared_outcome}
use Rattle.px_cluster.specs.Taking.{book_as_taken}

-- ---- one repository

least : (n : ℕ) → n ≤ n
least n = omega arith

rise : (n : ℕ) → n ≤ n + 1
rise n = omega arith

-- only replicas, the primary or the creation lease changed
pub as_late : (book new : Repository) → new.virt ≡ book.virt → new.path ≡ book.path
    → new.newest ≡ book.newest → new.last ≡ book.last → IsLater book new
as_late book new virt path newest last = record {
  virt = virt;
  path = path;
  newest = omega (arith, newest);
  last = omega (arith, last);
}

pub same_book : (book : Repository) → IsLater book book
same_book book = as_late book book refl refl refl refl

-- a lease was drawn
pub drawn_book : (book new : Repository) → new.virt ≡ book.virt → new.path ≡ book.path
    → new.newest ≡ book.newest → new.last ≡ book.last + 1 → IsLater book new
drawn_book book new virt path newest last = record {
  virt = virt;
  path = path;
  newest = omega (arith, newest);
  last = omega (arith, last);
}

-- newest rose
pub raised_book : (book new : Repository) → new.virt ≡ book.virt → new.path ≡ book.path
    → new.newest ≡ book.newest + 1 → new.last ≡ book.last → IsLater book new
raised_book book new virt path newest last = record {
  virt = virt;
  path = path;
  newest = omega (arith, newest);
  last = omega (arith, last);
}

-- what a change does to each repository
abbrev pub MakesLater : (Repository → Repository) → Type 0
MakesLater change = (book : Repository) → IsLater book (change book)

late_cast : (push : OpenPush) (vote : Voting) (storage : Option ℕ)
    → MakesLater (came_late push vote storage)
late_cast push vote None book = same_book book
late_cast push vote (Some storage) book = as_late book _ refl refl refl refl

by_outcomes : (push : OpenPush) (vote : Voting) (storage : Option ℕ) (before now : Outcome)
    → MakesLater (booked_by_outcomes push vote storage before now)
by_outcomes push vote storage outcome.Open (outcome.Commit hash) book =
    raised_book book _ refl refl refl refl
by_outcomes push vote storage (outcome.Commit before) now book = late_cast push vote storage book
by_outcomes push vote storage before now book = same_book book

confirming : (push : OpenPush) (storage : Option ℕ) → MakesLater (confirmed_on push storage)
confirming push None book = same_book book
confirming push (Some storage) book = as_late book _ refl refl refl refl

if_it_holds : (holds : Bool) (change : Repository → Repository) → MakesLater change
    → MakesLater (if holds then change else (λ book. book))
if_it_holds true change later book = later book
if_it_holds false change later book = same_book book

by_commit : (push : OpenPush) (storage : Option ℕ) (hash : Hash) (now : Outcome)
    → MakesLater (booked_by_commit push storage hash now)
by_commit push storage hash (outcome.Commit decided_) book =
    if_it_holds (same_hash decided_ hash) (confirmed_on push storage) (confirming push storage) book
by_commit push storage hash now book = same_book book

pub by_cast : (push : OpenPush) (name : List ℕ) (phase : Phase) (hash : Hash) (old new : Voting)
    → MakesLater (booked_by push name phase hash old new)
by_cast push name Prepared hash old new book = by_outcomes push new (member_named push old name)
    (prepared_outcome old) (prepared_outcome new) book
by_cast push name Committed hash old new book =
    by_commit push (member_named push old name) hash (prepared_outcome old) book

pub by_taking : (job : Job) (kind : JobKind) → MakesLater (book_as_taken job kind)
by_taking job Update book = drawn_book book _ refl refl refl refl
by_taking job Delete book = drawn_book book _ refl refl refl refl

-- a repository has one replica more, where the storage is of its virtual storage
with_one_more : (book : Repository) (replica : Replica) (is_of : Bool) → IsLater book
    (if is_of then record book { replicas = book.replicas ++ replica ∷ [] } else book)
with_one_more book replica true = as_late book _ refl refl refl refl
with_one_more book replica false = same_book book

pub by_admission : (virt : List ℕ) (storage : ℕ) → MakesLater (with_storage virt storage)
by_admission virt storage book =
    with_one_more book (unrecorded storage) (bytes_eq book.virt virt)

-- ---- lists of repositories

-- each of the old ones stands at its place in the new list, and further on
abbrev pub AreLater : List Repository → List Repository → Type 0
AreLater [] new = Unit {0}
AreLater (book ∷ books) [] = ⊥
AreLater (book ∷ books) (new ∷ news) = IsLater book new × AreLater books news

pub are_same : (books : List Repository) → AreLater books books
are_same [] = tt
are_same (book ∷ books) = (same_book book, are_same books)

pub are_more : (books more : List Repository) → AreLater books (books ++ more)
are_more [] more = tt
are_more (book ∷ books) more = (same_book book, are_more books more)

pub are_changed : (change : Repository → Repository) → MakesLater change
    → (books : List Repository) → AreLater books (map change books)
are_changed change later [] = tt
are_changed change later (book ∷ books) = (later book, are_changed change later books)

pub is_set : (books : List Repository) (repo : ℕ) (new : Repository)
    → ((book : Repository) → slice_get books repo ≡ Some book → IsLater book new)
    → AreLater books (set books repo new)
is_set [] repo new later = tt
is_set (book ∷ books) zero new later = (later book refl, are_same books)
is_set (book ∷ books) (suc repo) new later = (same_book book, is_set books repo new later)
