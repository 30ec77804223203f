-- What is at home stays so at each operation, and at a restart.
use Rattle.std.proofs.Common.{◌≡◌, ◌==◌, ◌||◌, ℕ, List, [], ◌∷◌, ◌++◌, Bool, true, false, Option, None, Some, refl, ◌∙◌, ap}
use Rattle.px_ops.specs.declared.op.Op.{Op}
use Rattle.px_ops.specs.declared.op.Op.TheVariants as op
use Rattle.px_cluster.proofs.Growing.{left}
use Rattle.px_cluster.specs.Book.{Repository, Storage, is_of, storages_of}
use Rattle.px_cluster.specs.Core.{Core, repository, restarted, with_repository_by}
use Rattle.px_cluster.specs.Creating.{found, with_created}
use Rattle.px_cluster.specs.Factor.{reassigned}
use Rattle.px_cluster.specs.Numbers.{is_one_of}
use Rattle.px_cluster.specs.Ops.{left_by}
use Rattle.cluster_form.specs.Homes.{IsHome}
use Rattle.cluster_form.proofs.AlikeBooks.{IsPlain, left_alike}
use Rattle.cluster_form.proofs.Places.{places_more}
use Rattle.cluster_form.proofs.WithinLists.{later_there}

-- ---- storages stay storages of their virtual storage

abbrev StillThere : List Storage → List Storage → Type 0
StillThere old new = (virt : List ℕ) (storage : ℕ)
    → is_one_of storage (storages_of old virt) ≡ true
    → is_one_of storage (storages_of new virt) ≡ true

pub one_of_more : (storage : ℕ) (ns more : List ℕ) → is_one_of storage ns ≡ true
    → is_one_of storage (ns ++ more) ≡ true
one_of_more storage [] more is = absurd (let z : false ≡ true = is in cc)
one_of_more storage (n ∷ ns) more is = by (n == storage) is (one_of_more storage ns more)
  where
    by : (b : Bool) → (b || is_one_of storage ns) ≡ true
        → (is_one_of storage ns ≡ true → is_one_of storage (ns ++ more) ≡ true)
        → (b || is_one_of storage (ns ++ more)) ≡ true
    by true is rest = refl
    by false is rest = rest is

still_admitted : (storages : List Storage) (storage : Storage)
    → StillThere storages (storages ++ storage ∷ [])
still_admitted storages storage virt number is =
    ap (is_one_of number) (places_more (is_of virt) 0 storages storage)
    ∙ one_of_more number (storages_of storages virt) _ is

same_storages : (core new : Core) → new.storages ≡ core.storages
    → StillThere core.storages new.storages
same_storages core new same virt storage is =
    ap (λ storages. is_one_of storage (storages_of storages virt)) same ∙ is

created_same : (core : Core) (there : Option ℕ) (book : Repository)
    → (with_created there book core).storages ≡ core.storages
created_same core None book = refl
created_same core (Some repo) book = refl

changed_same : (core : Core) (repo : ℕ) (change : Repository → Repository)
    (there : Option Repository) → (with_repository_by there repo change core).storages ≡ core.storages
changed_same core repo change None = refl
changed_same core repo change (Some book) = refl

by_plain : (core : Core) (asked : Op) → IsPlain asked
    → StillThere core.storages (left_by core asked).storages
by_plain core asked is = same_storages core (left_by core asked) (left_alike core asked is).1

pub still_left : (core : Core) (asked : Op) → StillThere core.storages (left_by core asked).storages
still_left core (op.Admit virt name) =
    still_admitted core.storages (record { virt = virt; name = name })
still_left core (op.Create virt path factor) = same_storages core (left_by core (op.Create virt path factor))
    (created_same core (found core virt path) _)
still_left core (op.SetFactor repo factor) = same_storages core (left_by core (op.SetFactor repo factor))
    (changed_same core repo.0 (reassigned core factor) (repository core repo.0))
still_left core (op.Health storage up) = by_plain core (op.Health storage up) tt
still_left core (op.Open threshold rounds voters) =
    by_plain core (op.Open threshold rounds voters) tt
still_left core (op.Cast tx voter phase hash) = by_plain core (op.Cast tx voter phase hash) tt
still_left core (op.Withdraw tx voter) = by_plain core (op.Withdraw tx voter) tt
still_left core (op.Cancel tx) = by_plain core (op.Cancel tx) tt
still_left core (op.Stop tx) = by_plain core (op.Stop tx) tt
still_left core (op.Collect tx voter sub) = by_plain core (op.Collect tx voter sub) tt
still_left core (op.Outcome tx sub) = by_plain core (op.Outcome tx sub) tt
still_left core (op.Close tx) = by_plain core (op.Close tx) tt
still_left core (op.Enrol repo storage lease) = by_plain core (op.Enrol repo storage lease) tt
still_left core (op.Begin repo) = by_plain core (op.Begin repo) tt
still_left core (op.Finish tx) = by_plain core (op.Finish tx) tt
still_left core (op.Dequeue target now) = by_plain core (op.Dequeue target now) tt
still_left core (op.Beat job lease now) = by_plain core (op.Beat job lease now) tt
still_left core (op.Ack job lease good) = by_plain core (op.Ack job lease good) tt
still_left core (op.Stale now span) = by_plain core (op.Stale now span) tt
still_left core (op.Reconcile only) = by_plain core (op.Reconcile only) tt
still_left core (op.RouteRead repo) = by_plain core (op.RouteRead repo) tt
still_left core (op.AcceptBegin repo storage) = by_plain core (op.AcceptBegin repo storage) tt
still_left core (op.Accept repo storage lease) = by_plain core (op.Accept repo storage lease) tt
still_left core (op.SettleBegin repo storage) = by_plain core (op.SettleBegin repo storage) tt
still_left core (op.Settle repo storage lease last) =
    by_plain core (op.Settle repo storage lease last) tt
still_left core (op.Booked repo) = by_plain core (op.Booked repo) tt
still_left core (op.Find virt path) = by_plain core (op.Find virt path) tt
still_left core (op.Holder repo) = by_plain core (op.Holder repo) tt

-- ---- homes

pub home_left : (core : Core) (asked : Op) (repo storage : ℕ) → IsHome core repo storage
    → IsHome (left_by core asked) repo storage
home_left core asked repo storage is =
    let later = later_there core.repositories (left_by core asked).repositories
    (left core asked).0 repo is.book is.there in
    record {
      book = later.0;
      there = later.1;
      home = ap (λ virt. is_one_of storage (storages_of (left_by core asked).storages virt))
          later.2.virt ∙ still_left core asked is.book.virt storage is.home;
    }

pub home_again : (core : Core) (repo storage : ℕ) → IsHome core repo storage
    → IsHome (restarted core) repo storage
home_again core repo storage is = record { book = is.book; there = is.there; home = is.home }
