-- A repository of which no replica is on record is created again.
use Rattle.std.proofs.Common.{◌≡◌, ◌==◌, ◌+◌, ℕ, List, [], ◌∷◌, true, false, Some, refl, inl, inr, find, length, set}
use Rattle.std.specs.List.{list_all}
use Rattle.px_cluster.specs.Book.{Replica, Repository, booking_in, booking_on, is_absent, is_on, storages_of}
use Rattle.px_cluster.specs.Core.{Core, repository, with_repository}
use Rattle.px_cluster.specs.Creating.{assigned_for, created_on, is_blank}
use Rattle.px_cluster.specs.Issues.{with_drawn}
use Rattle.px_cluster.specs.Ledger.{Creation, with_purposes}
use Rattle.px_cluster.specs.Numbers.{is_one_of}
use Rattle.replica_invariant.specs.Creations.{CanCreate, created}
use Rattle.replica_invariant.specs.State.{State}
use Rattle.safe_states.specs.Happens.{Creates}
use Rattle.cluster_form.specs.Books.{IsDense}
use Rattle.cluster_form.proofs.Lists.{all_got, bool, both_left, both_right}
use Rattle.cluster_history.specs.Goes.{GoesOn, IsSound}
use Rattle.cluster_history.specs.History.{Whole}
use Rattle.cluster_history.specs.Seen.{state_of}
use Rattle.cluster_history.proofs.Frame.{once_to}
use Rattle.book_steps.proofs.Bookings.{seen_absent}
use Rattle.book_steps.proofs.Chosen.{none_chosen, some_chosen}
use Rattle.book_steps.proofs.Created.{chosen, created_is, drawn_elsewhere}
use Rattle.book_steps.proofs.OneBook.{Beside, LeavesOthers, as_it_was, rebooked, rebooked_goes}

-- no replica is on record
blank_on : (replicas : List Replica) (storage : ℕ)
    → list_all (λ (r : Replica). is_absent r.booking) replicas ≡ true
    → is_absent (booking_in (find (is_on storage) replicas)) ≡ true
blank_on [] storage blank = refl
blank_on (r ∷ rs) storage blank = elim (bool (r.storage == storage)) [
  | inl holds ↦ (rw holds (both_left (is_absent r.booking) _ blank))
  | inr fails ↦ (rw fails (blank_on rs storage (both_right (is_absent r.booking) _ blank)))
]

module _ (whole : Whole) (repo : ℕ) (virt : List ℕ) (factor : ℕ) (book : Repository)
    (sound : IsSound whole) (known : repository whole.cluster.core repo ≡ Some book)
    (of_virt : book.virt ≡ virt) (blank : is_blank book ≡ true)
    (some : (length (storages_of whole.cluster.core.storages virt) == 0) ≡ false) where
  abbrev core : Core
  core = whole.cluster.core

  abbrev st : State
  st = state_of whole repo book

  abbrev now : Repository
  now = created_on (assigned_for core virt factor) book

  dense : IsDense core.storages book
  dense = all_got (IsDense core.storages) core.repositories repo book sound.form.core.books.dense
      known

  can : CanCreate st (chosen whole repo virt factor book core.repositories core.reads)
  can = record {
    absent = λ storage. seen_absent (booking_on book storage)
        (blank_on book.replicas storage blank);
    some = some_chosen core virt factor book dense of_virt some;
    known = none_chosen core virt factor book dense of_virt;
  }

  abbrev beside : Beside
  beside = record (as_it_was whole) {
    ledger = with_purposes whole.cluster.ledger repo
        (λ storage. is_one_of storage (assigned_for core virt factor)) (book.last + 1)
        (λ storage old. Creation false);
  }

  others : LeavesOthers whole repo beside
  others = record {
    job = λ other target differs. refl;
    ledger = drawn_elsewhere whole.cluster.ledger repo (book.last + 1)
        (λ storage. is_one_of storage (assigned_for core virt factor)) (Creation false);
    entry = λ other differs. refl;
    floor = λ other differs. refl;
    level = λ other differs. refl;
    had = λ other differs. refl;
  }

  -- it is an event of that repository
  pub again_goes : GoesOn whole (record whole {
    cluster = record (with_drawn whole.cluster repo (assigned_for core virt factor) (book.last + 1)
        (Creation false)) {
          core = with_repository repo now core;
        };
  })
  again_goes = rebooked_goes whole repo book now beside known others
      (once_to st (created st (chosen whole repo virt factor book core.repositories core.reads))
      (state_of (rebooked whole repo now beside) repo now) (created_is whole repo virt factor book
      (set core.repositories repo now) core.reads dense of_virt) (Creates st _ can))
