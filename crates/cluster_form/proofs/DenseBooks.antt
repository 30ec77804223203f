-- A repository has a replica for each storage of its virtual storage, after each change of the book.
use Rattle.std.proofs.Common.{◌≡◌, ℕ, ◌+◌, List, [], ◌∷◌, ◌++◌, Bool, true, false, if◌then◌else◌, refl, sym, ◌∙◌, ap, map, length, arith}
use Rattle.std.specs.List.{AllByRecursion}
use Rattle.std.specs.Str.{bytes_eq}
use Rattle.px_cluster.specs.Book.{Replica, Repository, Storage, is_of, storages_of}
use Rattle.px_cluster.specs.Core.{Core}
use Rattle.px_cluster.specs.Creating.{assigned_under, created_on, unmade, unrecorded, with_storage}
use Rattle.px_cluster.specs.Factor.{reassigned}
use Rattle.cluster_form.specs.Books.{IsDense}
use Rattle.cluster_form.proofs.AlikeBooks.{AreAlike, IsAlike}
use Rattle.cluster_form.proofs.Lists.{bytes_same, map_kept, same_bytes}
use Rattle.cluster_form.proofs.Places.{places_more}

-- ---- alike

-- what is true of a repository is true of one that is alike
pub all_alike_too : (P : Repository → Type 0)
    → ((a b : Repository) → IsAlike a b → P a → P b) → (old new : List Repository)
    → AreAlike old new → AllByRecursion P old → AllByRecursion P new
all_alike_too P on [] [] are all = tt
all_alike_too P on [] (new ∷ news) are all = absurd are
all_alike_too P on (book ∷ books) [] are all = absurd are
all_alike_too P on (book ∷ books) (new ∷ news) are all =
    (on book new are.0 all.0, all_alike_too P on books news are.1 all.1)

pub dense_alike : (storages : List Storage) (a b : Repository) → IsAlike a b
    → IsDense storages a → IsDense storages b
dense_alike storages a b alike dense =
    alike.storages ∙ dense ∙ ap (storages_of storages) (sym alike.virt)

-- ---- an admission

with_one_more : (storage : ℕ) (xs : List Replica)
    → map (λ (r : Replica). r.storage) (xs ++ unrecorded storage ∷ [])
    ≡ map (λ (r : Replica). r.storage) xs ++ storage ∷ []
with_one_more storage [] = refl
with_one_more storage (x ∷ xs) = ap (λ ys. x.storage ∷ ys) (with_one_more storage xs)

module _ (storages : List Storage) (virt name : List ℕ) where
  abbrev more : List Storage
  more = storages ++ record { virt = virt; name = name } ∷ []

  -- the storages of another virtual storage are the same, and those of this one are one more
  dense_by : (book : Repository) (is : Bool) → bytes_eq book.virt virt ≡ is
      → IsDense storages book
      → IsDense more (if is then record book {
        replicas = book.replicas ++ unrecorded (length storages) ∷ [];
      } else book)
  dense_by book true is dense =
      let holds : bytes_eq virt book.virt ≡ true =
      same_bytes virt book.virt (sym (bytes_same book.virt virt is)) in
      with_one_more (length storages) book.replicas
      ∙ ap (λ xs. xs ++ length storages ∷ []) dense
      ∙ sym (places_more (is_of book.virt) 0 storages (record { virt = virt; name = name })
      ∙ counted (bytes_eq virt book.virt) holds)
    where
      counted : (b : Bool) → b ≡ true
          → storages_of storages book.virt ++ (if b then (0 + length storages) ∷ [] else [])
          ≡ storages_of storages book.virt ++ length storages ∷ []
      counted true holds = ap (λ n. storages_of storages book.virt ++ n ∷ [])
          (let same : 0 + length storages ≡ length storages = omega arith in same)
      counted false fails = absurd (cc)
  dense_by book false is dense = dense
      ∙ sym (places_more (is_of book.virt) 0 storages (record { virt = virt; name = name })
      ∙ none (bytes_eq virt book.virt) (λ holds.
      let z : true ≡ false = sym (same_bytes book.virt virt (sym (bytes_same virt book.virt holds)))
      ∙ is in cc))
    where
      none : (b : Bool) → (b ≡ true → ⊥)
          → storages_of storages book.virt ++ (if b then (0 + length storages) ∷ [] else [])
          ≡ storages_of storages book.virt
      none true fails = absurd (fails refl)
      none false fails = nothing_more (storages_of storages book.virt)
        where
          nothing_more : (xs : List ℕ) → xs ++ [] ≡ xs
          nothing_more [] = refl
          nothing_more (x ∷ xs) = ap (λ ys. x ∷ ys) (nothing_more xs)

  pub dense_admitted : (book : Repository) → IsDense storages book
      → IsDense more (with_storage virt (length storages) book)
  dense_admitted book dense = dense_by book (bytes_eq book.virt virt) refl dense

-- ---- a creation, and a new factor

unrecorded_each : (storages : List ℕ)
    → map (λ (r : Replica). r.storage) (map unrecorded storages) ≡ storages
unrecorded_each [] = refl
unrecorded_each (storage ∷ storages) = ap (λ xs. storage ∷ xs) (unrecorded_each storages)

pub dense_unmade : (core : Core) (virt path : List ℕ)
    → IsDense core.storages (unmade core virt path)
dense_unmade core virt path = unrecorded_each (storages_of core.storages virt)

pub dense_created : (storages : List Storage) (assigned : List ℕ) (book : Repository)
    → IsDense storages book → IsDense storages (created_on assigned book)
dense_created storages assigned book dense =
    map_kept (λ (r : Replica). r.storage) (assigned_under assigned _) (λ r. refl) book.replicas
    ∙ dense

pub dense_reassigned : (core : Core) (factor : ℕ) (book : Repository)
    → IsDense core.storages book → IsDense core.storages (reassigned core factor book)
dense_reassigned core factor book dense =
    map_kept (λ (r : Replica). r.storage) _ (λ r. refl) book.replicas ∙ dense
