-- The storage of a replica is one of the core's.
use Rattle.std.proofs.Common.{◌≡◌, ◌<◌, ℕ, List, [], ◌∷◌, None, Some, find, inl, inr, length, subst}
use Rattle.std.specs.List.{AllByRecursion}
use Rattle.px_cluster.specs.Book.{Replica, Repository, is_on, replica_on}
use Rattle.px_cluster.specs.Core.{Core, repository}
use Rattle.cluster_form.specs.Books.{IsDense}
use Rattle.cluster_form.proofs.Lists.{all_got, bool, same_number}
use Rattle.px_core.specs.Sound.{IsSound}
use Rattle.px_core.proofs.BookOps.{replicas_known}

found_within : (limit storage : ℕ) (replicas : List Replica) (replica : Replica)
    → AllByRecursion (λ (r : Replica). r.storage < limit) replicas
    → find (is_on storage) replicas ≡ Some replica → storage < limit
found_within limit storage [] replica all is =
    absurd (let z : None ≡ Some replica = is in cc)
found_within limit storage (r ∷ rs) replica all is = elim (bool (is_on storage r)) [
  | inl holds ↦ subst (λ n. n < limit) (same_number r.storage storage holds) all.0
  | inr fails ↦ found_within limit storage rs replica all.1 (rw fails at is)
]

pub located : (core : Core) (repo storage : ℕ) (book : Repository) (replica : Replica)
    → IsSound core → repository core repo ≡ Some book → replica_on book storage ≡ Some replica
    → storage < length core.storages
located core repo storage book replica sound there is =
    found_within (length core.storages) storage book.replicas replica
    (replicas_known core.storages book (all_got (IsDense core.storages) core.repositories repo book
    sound.form.books.dense there)) is
