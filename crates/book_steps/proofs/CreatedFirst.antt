-- A repository that is not on record is created: it comes with the next number, and it is in the
-- state that a creation leaves over what the nodes have of its path.
use Rattle.std.proofs.Common.{◌≡◌, ◌==◌, ◌+◌, ℕ, zero, suc, List, [], ◌∷◌, ◌++◌, Bool, true, false, Option, None, Some, refl, sym, ◌∙◌, ap, subst, inl, inr, find, length, map, slice_get}
use Rattle.std.specs.Option.{option_map}
use Rattle.px_ops.specs.declared.job.Job.{Job}
use Rattle.px_cluster.specs.Book.{Replica, Repository, booking_in, has_replica_on, is_assigned_in, is_on, kept_in, replica_on, storages_of}
use Rattle.px_cluster.specs.Core.{Core, OpenPush, repository, turn_of}
use Rattle.px_cluster.specs.Creating.{assigned_for, created_on, found, is_at_path, unmade, unrecorded, with_created}
use Rattle.px_cluster.specs.Issues.{with_drawn}
use Rattle.px_cluster.specs.Jobs.{is_for}
use Rattle.px_cluster.specs.Ledger.{Creation, Deleting, Fencing, Purpose, Pushing, Unused, Updating}
use Rattle.replica_invariant.specs.Creations.{CanCreate, IsFromBefore, created, opening}
use Rattle.replica_invariant.specs.State.{AtNode, State}
use Rattle.safe_states.specs.Happens.{IsReached, Starts}
use Rattle.cluster_form.specs.Books.{IsDense}
use Rattle.cluster_form.specs.Drawn.{is_used}
use Rattle.cluster_form.specs.Homes.{IsHome}
use Rattle.cluster_form.specs.Within.{IsPushWithin}
use Rattle.cluster_form.proofs.DenseBooks.{dense_unmade}
use Rattle.cluster_form.proofs.JobLists.{pair_is}
use Rattle.cluster_form.proofs.Lists.{all_find, all_got, bool, other_number, same_bytes, same_number, some_is}
use Rattle.cluster_form.proofs.Places.{got_before, got_beyond, got_last, place_none}
use Rattle.cluster_history.specs.Goes.{GoesOn, IsNobodys, IsSound}
use Rattle.cluster_history.specs.History.{Whole, with_new}
use Rattle.cluster_history.specs.Seen.{job_for, node_if, replica_of, seen_booking, seen_job, seen_purpose, seen_turn, state_of}
use Rattle.cluster_history.proofs.Books.{one_virt}
use Rattle.cluster_history.proofs.Frame.{LooksSame, same_functions, same_replica, same_shared, same_state, stays_so}
use Rattle.cluster_history.proofs.OneReplica.{value_elsewhere, value_here}
use Rattle.book_steps.proofs.Before.{from_before}
use Rattle.book_steps.proofs.Chosen.{none_chosen, some_chosen}
use Rattle.book_steps.proofs.Created.{chosen, created_is, drawn_elsewhere, new as created_whole}

-- ---- what was there stays there

got_still : {A : Type 0} (xs : List A) (x y : A) (i : ℕ) → slice_get xs i ≡ Some y
    → slice_get (xs ++ x ∷ []) i ≡ Some y
got_still [] x y i is = absurd (let z : None ≡ Some y = is in cc)
got_still (z ∷ zs) x y zero is = is
got_still (z ∷ zs) x y (suc i) is = got_still zs x y i is

-- ---- of a number that no repository has nothing is on record

-- a lease that was drawn for nothing
unused_is : (purpose : Purpose) → (is_used purpose ≡ true → ⊥) → purpose ≡ Unused
unused_is Unused none = refl
unused_is (Creation made) none = absurd (none refl)
unused_is (Pushing begun commit answered) none = absurd (none refl)
unused_is (Updating job source generation kept answered) none = absurd (none refl)
unused_is (Deleting job answered) none = absurd (none refl)
unused_is (Fencing last) none = absurd (none refl)

-- there is none where there cannot be one
none_if : {A : Type 0} (there : Option A) → ((x : A) → there ≡ Some x → ⊥) → there ≡ None
none_if None none = refl
none_if (Some x) none = absurd (none x refl)

-- a replica before the first creation is read as none
unrecorded_reads : {A : Type 0} (read : Option Replica → A)
    → ((storage : ℕ) → read (Some (unrecorded storage)) ≡ read None) → (storage : ℕ)
    → (storages : List ℕ) → read (find (is_on storage) (map unrecorded storages)) ≡ read None
unrecorded_reads read same storage [] = refl
unrecorded_reads read same storage (n ∷ ns) = elim (bool (n == storage)) [
  | inl holds ↦ (rw holds (same n))
  | inr fails ↦ (rw fails (unrecorded_reads read same storage ns))
]

module _ (whole : Whole) (virt path : List ℕ) (factor : ℕ) (sound : IsSound whole)
    (unknown : found whole.cluster.core virt path ≡ None)
    (some : (length (storages_of whole.cluster.core.storages virt) == 0) ≡ false) where
  abbrev core : Core
  core = whole.cluster.core

  -- its number
  abbrev repo : ℕ
  repo = length core.repositories

  abbrev before : Repository
  before = unmade core virt path

  abbrev now : Repository
  now = created_on (assigned_for core virt factor) before

  -- with the history of the new repository
  abbrev known : Whole
  known = record whole { history = with_new whole.history repo }

  abbrev new : Whole
  new = created_whole known repo virt factor before (core.repositories ++ now ∷ [])
      (core.reads ++ 0 ∷ [])

  nowhere : (book : Repository) → repository core repo ≡ Some book → ⊥
  nowhere book is =
      let z : None ≡ Some book = sym (got_beyond core.repositories) ∙ is in cc

  -- .. and so at each number that is this one
  no_book : (other : ℕ) (book : Repository) → other ≡ repo → repository core other ≡ Some book → ⊥
  no_book other book same is = nowhere book (ap (repository core) (sym same) ∙ is)

  purpose : (storage lease : ℕ) → whole.cluster.ledger repo storage lease ≡ Unused
  purpose storage lease = unused_is (whole.cluster.ledger repo storage lease) (λ used.
      let drawn = sound.form.leases.uses repo storage lease used in
      nowhere drawn.home.book drawn.home.there)

  job : (storage : ℕ) → job_for core repo storage ≡ None
  job storage = ap (option_map seen_job) (none_if (find (is_for repo storage) core.jobs)
      (λ queued is. let home = all_find (λ (j : Job). IsHome core j.repo.0 j.target.0)
      (is_for repo storage) core.jobs queued sound.form.core.homes is in
      no_book queued.repo.0 home.0.book (pair_is repo storage queued home.1).0 home.0.there))

  turn : turn_of core repo ≡ None
  turn = none_if (turn_of core repo) (λ push is.
      let within = all_find (IsPushWithin core.repositories)
      (λ (p : OpenPush). p.repo == repo) core.pushes push sound.form.core.within.pushes is in
      no_book push.repo within.0.book (same_number push.repo repo within.1) within.0.there)

  -- ---- what the nodes have of its path

  abbrev node : ℕ → AtNode
  node storage = node_if (has_replica_on before storage) (whole.cluster.node storage path)

  none_there : (other : ℕ) (book : Repository) → repository core other ≡ Some book
      → book.virt ≡ virt → book.path ≡ path → ⊥
  none_there other book is same_virt same_path =
      place_none (is_at_path virt path) 0 core.repositories unknown other book is
      (rw (same_bytes book.virt virt same_virt) (same_bytes book.path path same_path))

  nobodys : (storage : ℕ) → has_replica_on before storage ≡ true → IsNobodys core storage path
  nobodys storage has other book is there same = none_there other book is
      (one_virt core.storages book before storage
      (all_got (IsDense core.storages) core.repositories other book sound.form.core.books.dense is)
      (dense_unmade core virt path) there has) same

  from : (storage : ℕ) → IsFromBefore (node storage) (whole.history.text repo)
  from storage = from_before (has_replica_on before storage) (whole.cluster.node storage path)
      (whole.history.text repo) (λ has. sound.quiet storage path (nobodys storage has))

  -- ---- the state that the creation leaves

  abbrev opened : State
  opened = opening node (whole.history.text repo) (length core.storages)

  reads : {A : Type 0} (read : Option Replica → A)
      → ((storage : ℕ) → read (Some (unrecorded storage)) ≡ read None) → (storage : ℕ)
      → read (replica_on before storage) ≡ read None
  reads read same storage =
      unrecorded_reads read same storage (storages_of core.storages virt)

  replica : (storage : ℕ) → replica_of known repo before storage ≡ opened.replica storage
  replica storage = same_replica (replica_of known repo before storage) (opened.replica storage)
      (reads kept_in (λ n. refl) storage)
      (reads (λ x. seen_booking (booking_in x)) (λ n. refl) storage)
      (ap (λ f. f storage) (value_here whole.history.floor repo _)) refl
      (ap (λ f. f storage) (value_here whole.history.level repo _))
      (ap (λ f. f storage) (value_here whole.history.had repo _))
      (same_functions _ _ (λ lease. ap (seen_purpose (whole.history.read_at repo storage lease))
      (purpose storage lease)))
      (job storage)

  opens : state_of known repo before ≡ opened
  opens = same_state (state_of known repo before) opened
      (same_shared (state_of known repo before).shared opened.shared refl refl refl
      (value_here whole.history.entry repo _) refl) refl
      (same_functions _ _ (reads is_assigned_in (λ n. refl)))
      (same_functions _ _ replica) (ap (seen_turn core) turn)

  abbrev test : ℕ → Bool
  test = chosen known repo virt factor before (core.repositories ++ now ∷ []) (core.reads ++ 0 ∷ [])

  can : CanCreate opened test
  can = record {
    absent = λ storage. refl;
    some = some_chosen core virt factor before (dense_unmade core virt path) refl some;
    known = none_chosen core virt factor before (dense_unmade core virt path) refl;
  }

  reached : IsReached (state_of new repo now)
  reached = subst IsReached (sym (created_is known repo virt factor before
      (core.repositories ++ now ∷ []) (core.reads ++ 0 ∷ []) (dense_unmade core virt path) refl
      ∙ ap (λ st. created st test) opens))
      (Starts node (whole.history.text repo) (length core.storages) test from can)

  -- ---- the others

  looks : (other : ℕ) (book : Repository) → (other ≡ repo → ⊥) → LooksSame whole new other book
  looks other book differs = record {
    admitted = refl;
    node = λ storage. refl;
    ledger = drawn_elsewhere whole.cluster.ledger repo (before.last + 1) test (Creation false) other
        differs;
    entry = value_elsewhere whole.history.entry repo _ other differs;
    text = refl;
    floor = value_elsewhere whole.history.floor repo _ other differs;
    level = value_elsewhere whole.history.level repo _ other differs;
    had = value_elsewhere whole.history.had repo _ other differs;
    read_at = refl;
    job = λ storage. refl;
    turn = refl;
  }

  -- it comes, and each other one goes on as it was
  pub first_goes : GoesOn whole (record {
    cluster = record (with_drawn whole.cluster repo (assigned_for core virt factor)
        (before.last + 1) (Creation false)) {
          core = with_created None now core;
        };
    history = with_new whole.history repo;
  })
  first_goes = record {
    each = λ other book is. stays_so whole new other book
        (looks other book (λ same. no_book other book same is))
        (got_still core.repositories now book other is);
    comes = λ other book none is. elim (bool (other == repo)) [
      | inl holds ↦ (let same = same_number other repo holds in
          let one : now ≡ book = some_is now book (sym (got_last core.repositories now)
          ∙ ap (repository new.cluster.core) (sym same) ∙ is) in
          subst (λ x. IsReached (state_of new x book)) (sym same)
          (subst (λ x. IsReached (state_of new repo x)) one reached))
      | inr fails ↦ absurd (let z : None ≡ Some book = sym none
          ∙ got_before core.repositories now book other (other_number other repo fails) is in cc)
    ];
  }
