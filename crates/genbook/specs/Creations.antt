-- What a creation makes, and when it is one that the book has made ready for.
use Rattle.std.specs.Prelude.{◌≡◌, ℕ, ◌+◌, List, Option, None, Some}
use Rattle.px_ops.specs.declared.refusal.Refusal.{Refusal}
use Rattle.px_cluster.specs.Core.{Core}
use Rattle.px_cluster.specs.Creating.{assigned_for, before_create, created_on, found, number_for}
use Rattle.genbook.specs.Books.{Books, core_of}
use Rattle.genbook.specs.Changes.{numbers_of}
use Rattle.genbook.specs.declared.creation.Creation.{Creation}
use Rattle.genbook.specs.declared.fault.BookFault.{BookFault}
use Rattle.genbook.specs.declared.fault.BookFault.TheVariants.{Memory, Refused}
use Rattle.genbook.specs.declared.ready.Ready.{Ready}
use Rattle.genbook.specs.declared.ready.Ready.TheVariants as ready

-- what a creation with this factor makes
pub record IsCreation (core : Core) (virt path : List ℕ) (factor : ℕ) (creation : Creation)
    : Type 0 where
  pub number : creation.repo.0 ≡ number_for core virt path
  pub lease : creation.lease ≡ (before_create core virt path).last + 1
  pub assigned : numbers_of creation.assigned ≡ assigned_for core virt factor
  pub entry : creation.entry
      ≡ created_on (assigned_for core virt factor) (before_create core virt path)

-- a repository that is not on the book yet is ready to come
abbrev pub IsReadyFor : Option ℕ → List ℕ → List ℕ → Ready → Type 0
IsReadyFor None virt path next = next ≡ ready.Repository virt path
IsReadyFor (Some number) virt path next = Unit {0}

-- the creation is of the number that its repository has or gets, and it is ready
pub record Fits (book : Books) (creation : Creation) : Type 0 where
  pub number : creation.repo.0
      ≡ number_for (core_of book) creation.entry.virt creation.entry.path
  pub comes : IsReadyFor (found (core_of book) creation.entry.virt creation.entry.path)
      creation.entry.virt creation.entry.path book.ready

-- memory wants, or this is why it is refused
abbrev pub IsFault : Option Refusal → BookFault → Type 0
IsFault refusal Memory = Unit {0}
IsFault refusal (Refused why) = refusal ≡ Some why
