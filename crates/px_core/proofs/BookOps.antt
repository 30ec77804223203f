-- What an admission and a creation make of the core, and that the storages are known that they
-- name, and those that the replicas of a repository are on.
use Rattle.std.proofs.Common.{◌≡◌, ◌∙◌, ◌<◌, ◌==◌, ◌+◌, ◌++◌, ℕ, List, [], ◌∷◌, Bool, true, false, if◌then◌else◌, Option, None, Some, IfSome, refl, sym, ap, subst, length, map, nat_lt, take, unwrap_or, arith}
use Rattle.std.specs.List.{AllByRecursion}
use Rattle.std.proofs.lemmas.Bool.Decides.{nat_tests}
use Rattle.px_base.specs.declared.ids.StorageId.{StorageId}
use Rattle.px_ops.specs.declared.op.Op.{Op}
use Rattle.px_ops.specs.declared.op.Op.TheVariants as op
use Rattle.px_ops.specs.declared.refusal.Refusal.{Refusal}
use Rattle.px_ops.specs.declared.reply.Reply.{Reply}
use Rattle.px_ops.specs.declared.reply.Reply.TheVariants as reply
use Rattle.txmanager.specs.Registry.{Registry}
use Rattle.px_cluster.specs.Book.{Replica, Repository, Storage, is_of, storages_of}
use Rattle.px_cluster.specs.Core.{Core, OpenPush, names_of}
use Rattle.px_cluster.specs.Creating.{admit_refusal, admitted, assigned_for, before_create, create_refusal, created, created_on, factor_for, found, is_at_path, with_created}
use Rattle.px_cluster.specs.Ids.{repo_id, storage_id}
use Rattle.px_cluster.specs.Numbers.{first_of, places_of}
use Rattle.px_cluster.specs.Ops.{left_by, next_core, unless_refused}
use Rattle.cluster_form.specs.Books.{IsDense}
use Rattle.cluster_form.proofs.Lists.{all_such, choose}
use Rattle.cluster_form.proofs.OneOf.{all_taken}
use Rattle.cluster_form.proofs.Panels.{places_within}
use Rattle.genbook.specs.Admissions.{IsAdmission}
use Rattle.genbook.specs.Books.{Books, core_of}
use Rattle.genbook.specs.Changes.{numbers_of}
use Rattle.genbook.specs.Creations.{IsCreation}
use Rattle.genbook.specs.Health.{Reachable, with_one_down}
use Rattle.genbook.specs.declared.admission.Admission.{Admission}
use Rattle.genbook.specs.declared.creation.Creation.{Creation}
use Rattle.replqueue.specs.Queue.{Queued}
use Rattle.px_core.specs.Parts.{core_with}
use Rattle.px_core.specs.Routing.{with_count}
use Rattle.px_core.specs.Sound.{IsSound}
use Rattle.px_core.specs.Steps.{IsDone}
use Rattle.px_core.proofs.ByNumbers.{known_by_numbers}
use Rattle.px_core.proofs.Kept.{kept}

-- ---- an operation that is done

-- it leaves the core sound
pub done_sound : (core new : Core) (asked : Op) (answer : Reply) → IsSound core
    → IsDone core asked answer new → IsSound new
done_sound core new asked answer sound done =
    let leads : next_core core asked ≡ left_by core asked =
    ap (λ (why : Option Refusal). unless_refused why core (left_by core asked)) done.accepted in
    subst IsSound (leads ∙ sym done.leads) (kept core asked sound)

-- ---- numbers that are below another

below : (n m : ℕ) → n < m → nat_lt n m ≡ true
below n m within = grind (arith, nat_tests, within)

not_below : (n m : ℕ) → n ≡ m → nat_lt n m ≡ false
not_below n m same = grind (arith, nat_tests, same)

-- a repository that is found is on the book
first_within : (test : Repository → Bool) (repositories : List Repository)
    → IfSome (first_of (places_of test repositories)) (λ place. place < length repositories)
first_within test repositories = by (places_of test repositories)
    (places_within 0 test repositories)
  where
    by : (places : List ℕ) → AllByRecursion (λ place. place < 0 + length repositories) places
        → IfSome (first_of places) (λ place. place < length repositories)
    by [] all = tt
    by (place ∷ places) all = let first = all.0 in omega (arith, first)

-- ---- storages that are known

-- those of a virtual storage are
storages_known : (storages : List Storage) (virt : List ℕ)
    → AllByRecursion (λ n. n < length storages) (storages_of storages virt)
storages_known storages virt = all_such (λ n. n < 0 + length storages) _ _
    (λ n within. omega (arith, within)) (places_within 0 (is_of virt) storages)

-- so are those that a creation assigns
pub assigned_known : (book new : Books) (virt path : List ℕ) (factor : ℕ) (creation : Creation)
    → IsCreation (core_of book) virt path factor creation → core_of new ≡ core_of book
    → AllByRecursion (λ (storage : StorageId). storage.0 < length new.storages) creation.assigned
assigned_known book new virt path factor creation is same =
    known_by_numbers (length new.storages) creation.assigned (subst (λ (storages : List Storage).
    AllByRecursion (λ n. n < length storages) (numbers_of creation.assigned))
    (sym (ap (λ (c : Core). c.storages) same))
    (subst (AllByRecursion (λ n. n < length book.storages)) (sym is.assigned) assigned))
  where
    of_virt : List ℕ
    of_virt = storages_of book.storages virt

    assigned : AllByRecursion (λ n. n < length book.storages)
        (assigned_for (core_of book) virt factor)
    assigned = choose (AllByRecursion (λ n. n < length book.storages))
        (factor_for (core_of book) virt factor == 0) of_virt
        (take (factor_for (core_of book) virt factor) of_virt)
        (λ holds. storages_known book.storages virt)
        (λ fails. all_taken (λ n. n < length book.storages) _ of_virt
        (storages_known book.storages virt))

-- and so is that of each replica
pub replicas_known : (storages : List Storage) (repo : Repository) → IsDense storages repo
    → AllByRecursion (λ (replica : Replica). replica.storage < length storages) repo.replicas
replicas_known storages repo dense = by repo.replicas
    (subst (AllByRecursion (λ n. n < length storages)) (sym dense)
    (storages_known storages repo.virt))
  where
    by : (replicas : List Replica) → AllByRecursion (λ n. n < length storages)
        (map (λ (replica : Replica). replica.storage) replicas)
        → AllByRecursion (λ (replica : Replica). replica.storage < length storages) replicas
    by [] all = tt
    by (r ∷ rs) all = (all.0, by rs all.1)

-- ---- an admission and a creation

module _ (old mid new : Books) (up : List Bool) (votes : Registry) (last : ℕ)
    (pushes : List OpenPush) (reads : List ℕ) (queue : Queued)
    (same : core_of mid ≡ core_of old) where
  abbrev before : Core
  before = core_with old up votes last pushes reads queue

  -- the storage is on the book, and down
  pub admit_done : (virt name : List ℕ) (admission : Admission) (prepared added : Reachable)
      → IsAdmission (core_of old) virt name admission
      → admit_refusal (core_of old) virt name ≡ None
      → new.storages ≡ (admitted admission.virt admission.name (core_of mid)).storages
      → new.repositories ≡ (admitted admission.virt admission.name (core_of mid)).repositories
      → prepared.up ≡ up → prepared.ready ≡ true → added ≡ with_one_down prepared
      → IsDone before (op.Admit virt name) (reply.Storage admission.storage)
      (core_with new added.up votes last pushes reads queue)
  admit_done virt name admission prepared added is none storages_are repositories_are up_is ready
      down =
      let storages : new.storages ≡ (admitted virt name before).storages =
      storages_are ∙ λ i. (admitted (is.virt_is i) (is.name_is i) (same i)).storages in
      let repositories : new.repositories ≡ (admitted virt name before).repositories =
      repositories_are ∙ λ i. (admitted (is.virt_is i) (is.name_is i) (same i)).repositories in
      let health : added.up ≡ up ++ false ∷ [] = ap (λ (h : Reachable). h.up) down
      ∙ λ i. if ready i then up_is i ++ false ∷ [] else up_is i in
      record {
        accepted = none;
        answers = λ i. reply.Storage (storage_id (is.number i));
        leads = λ i. record before {
          storages = storages i;
          repositories = repositories i;
          health = health i;
        };
      }

  -- the book with the entry of a creation, and its count of reads, under the number that is found,
  -- or the next one
  create_leads : (at : Option ℕ) (entry : Repository) (counts : List ℕ)
      → new.storages ≡ old.storages
      → new.repositories ≡ (with_created at entry (core_of old)).repositories
      → counts ≡ (with_created at entry before).reads
      → core_with new up votes last pushes counts queue ≡ with_created at entry before
  create_leads None entry counts storages repositories counted = λ i. record before {
    storages = storages i;
    repositories = repositories i;
    reads = counted i;
  }
  create_leads (Some repo) entry counts storages repositories counted = λ i. record before {
    storages = storages i;
    repositories = repositories i;
    reads = counted i;
  }

  -- a repository that is found has a count, and the next one has none
  count_made : length reads ≡ length old.repositories → (at : Option ℕ) (entry : Repository)
      (number : ℕ) → number ≡ unwrap_or at (length old.repositories)
      → IfSome at (λ n. n < length old.repositories)
      → with_count number reads ≡ (with_created at entry before).reads
  count_made as_many None entry number is within =
      rw (not_below number (length reads) (is ∙ sym as_many)) refl
  count_made as_many (Some repo) entry number is within =
      rw (below number (length reads) (omega (arith, is, within, as_many))) refl

  -- the repository is on the book
  pub create_done : (virt path : List ℕ) (factor : ℕ) (creation : Creation)
      (names : List (List ℕ)) → IsCreation (core_of old) virt path factor creation
      → create_refusal (core_of old) virt path factor ≡ None
      → ((v p : List ℕ) (f : ℕ) → IsCreation (core_of mid) v p f creation
      → new.repositories ≡ (created v p f (core_of mid)).repositories)
      → new.storages ≡ mid.storages
      → names ≡ names_of (core_of mid) (numbers_of creation.assigned)
      → length reads ≡ length old.repositories → (counts : List ℕ)
      → counts ≡ with_count creation.repo.0 reads
      → IsDone before (op.Create virt path factor)
      (reply.Created creation.repo creation.lease names)
      (core_with new up votes last pushes counts queue)
  create_done virt path factor creation names is none becomes stay named as_many counts counted =
      let storages : new.storages ≡ old.storages = stay ∙ ap (λ (c : Core). c.storages) same in
      let repositories : new.repositories ≡ (created virt path factor (core_of old)).repositories =
      becomes virt path factor
      (subst (λ (c : Core). IsCreation c virt path factor creation) (sym same) is)
      ∙ ap (λ (c : Core). (created virt path factor c).repositories) same in
      let names_are : names ≡ names_of before (assigned_for before virt factor) =
      named ∙ λ i. names_of (same i) (is.assigned i) in
      record {
        accepted = none;
        answers = λ i. reply.Created (repo_id (is.number i)) (is.lease i) (names_are i);
        leads = create_leads (found before virt path)
            (created_on (assigned_for before virt factor) (before_create before virt path))
            counts storages repositories
            (counted ∙ count_made as_many (found before virt path) _ creation.repo.0 is.number
            (first_within (is_at_path virt path) old.repositories));
      }
