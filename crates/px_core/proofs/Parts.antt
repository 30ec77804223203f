-- A change of the book is that change of the core.
use Rattle.std.proofs.Common.{◌≡◌, ℕ, List, Bool, Option, None, Some, Result, Ok, Err, IfErr, OnErr, OnOk, ap, set}
use Rattle.px_ops.specs.declared.refusal.Refusal.{Refusal}
use Rattle.txmanager.specs.Registry.{Registry}
use Rattle.px_cluster.specs.Book.{Repository}
use Rattle.px_cluster.specs.Core.{Core, OpenPush, repository, with_book_changed, with_repository, with_repository_by}
use Rattle.px_cluster.specs.Ops.{unless_refused}
use Rattle.genbook.specs.Books.{Becomes, Books, core_of}
use Rattle.replqueue.specs.Queue.{Queued}
use Rattle.px_core.specs.Parts.{core_with}

module _ (old new : Books) (up : List Bool) (transactions : Registry) (last : ℕ)
    (pushes : List OpenPush) (reads : List ℕ) (queue : Queued) where
  abbrev before : Core
  before = core_with old up transactions last pushes reads queue

  abbrev after_ : Core
  after_ = core_with new up transactions last pushes reads queue

  -- another entry in the place of one
  pub put_in : (repo : ℕ) (entry : Repository)
      → core_of new ≡ with_repository repo entry (core_of old)
      → after_ ≡ with_repository repo entry before
  put_in repo entry is =
      let storages : new.storages ≡ old.storages = ap (λ (c : Core). c.storages) is in
      let repositories : new.repositories ≡ set old.repositories repo entry =
      ap (λ (c : Core). c.repositories) is in
      λ i. record before {
        storages = storages i;
        repositories = repositories i;
      }

  -- nothing is seen of it
  pub same_in : core_of new ≡ core_of old → after_ ≡ before
  same_in is =
      let storages : new.storages ≡ old.storages = ap (λ (c : Core). c.storages) is in
      let repositories : new.repositories ≡ old.repositories =
      ap (λ (c : Core). c.repositories) is in
      λ i. record before {
        storages = storages i;
        repositories = repositories i;
      }

  -- the entry of a repository changed, where there is one
  pub changed_in : (repo : ℕ) (change : Repository → Repository) → Becomes repo change old new
      → after_ ≡ with_book_changed repo change before
  changed_in repo change is = by (repository before repo) is
    where
      by : (there : Option Repository)
          → core_of new ≡ with_repository_by there repo change (core_of old)
          → after_ ≡ with_repository_by there repo change before
      by None same = same_in same
      by (Some book) put = put_in repo (change book) put

  -- a call of the book that changes one repository, or refuses by a cause, is the operation that
  -- has this cause and makes this change
  pub book_leads : {A : Type 0} (repo : ℕ) (change : Repository → Repository)
      (cause : Option Refusal) (result : Result A Refusal)
      → OnOk result (Becomes repo change old new) → OnOk result (cause ≡ None)
      → IfErr result (λ why. cause ≡ Some why) → OnErr result (new ≡ old)
      → after_ ≡ unless_refused cause before (with_book_changed repo change before)
  book_leads repo change cause (Ok a) becomes none refused same =
      rw none (changed_in repo change becomes)
  book_leads repo change cause (Err why) becomes none refused same =
      rw refused (same_in (ap core_of same))
