-- Some storage of a repository is assigned, after each change of the book.
use Rattle.std.proofs.Common.{◌≡◌, ℕ, ◌-◌, ◌==◌, ◌||◌, ◌&&◌, not, zero, suc, List, [], ◌∷◌, ◌++◌, Bool, true, false, if◌then◌else◌, Option, None, Some, refl, sym, ◌∙◌, ap, inl, inr, filter, map, length, take}
use Rattle.std.specs.List.{AllByRecursion, list_any}
use Rattle.std.specs.Option.{option_or}
use Rattle.std.specs.Str.{bytes_eq}
use Rattle.px_cluster.specs.Book.{Replica, Repository, storages_of, storages_where}
use Rattle.px_cluster.specs.Core.{Core}
use Rattle.px_cluster.specs.Creating.{assigned_for, assigned_under, created_on, factor_for, unrecorded, with_storage}
use Rattle.px_cluster.specs.Factor.{assigned_now, could_be_left, is_chosen, is_left, is_spared, reassigned, spared}
use Rattle.px_cluster.specs.Members.{hosts, is_host, primary_of}
use Rattle.px_cluster.specs.Numbers.{first_of, is_one_of}
use Rattle.cluster_form.specs.Books.{HasAssigned, storages_in}
use Rattle.cluster_form.proofs.AlikeBooks.{IsAlike}
use Rattle.cluster_form.proofs.Lists.{bool, both_left, both_right, same_self}
use Rattle.cluster_form.proofs.OneOf.{all_reversed, all_taken, all_where, any_where, first_one, kept_one, one_has, or_later}

-- ---- alike, and an admission

any_of : (replicas : List Replica) → list_any (λ (r : Replica). r.assigned) replicas
    ≡ list_any (λ (b : Bool). b) (map (λ (r : Replica). r.assigned) replicas)
any_of [] = refl
any_of (r ∷ rs) = ap (λ b. r.assigned || b) (any_of rs)

pub assigned_alike : (a b : Repository) → IsAlike a b → HasAssigned a → HasAssigned b
assigned_alike a b alike has = any_of b.replicas
    ∙ ap (list_any (λ (x : Bool). x)) alike.assigned ∙ sym (any_of a.replicas) ∙ has

still_any : (replicas more : List Replica)
    → list_any (λ (r : Replica). r.assigned) replicas ≡ true
    → list_any (λ (r : Replica). r.assigned) (replicas ++ more) ≡ true
still_any [] more has = absurd (let z : false ≡ true = has in cc)
still_any (r ∷ rs) more has = by r.assigned has (still_any rs more)
  where
    by : (b : Bool) → (b || list_any (λ (x : Replica). x.assigned) rs) ≡ true
        → (list_any (λ (x : Replica). x.assigned) rs ≡ true
        → list_any (λ (x : Replica). x.assigned) (rs ++ more) ≡ true)
        → (b || list_any (λ (x : Replica). x.assigned) (rs ++ more)) ≡ true
    by true has rest = refl
    by false has rest = rest has

pub assigned_admitted : (virt : List ℕ) (storage : ℕ) (book : Repository) → HasAssigned book
    → HasAssigned (with_storage virt storage book)
assigned_admitted virt storage book has = by (bytes_eq book.virt virt)
  where
    by : (b : Bool) → HasAssigned (if b then record book {
      replicas = book.replicas ++ unrecorded storage ∷ [];
    } else book)
    by true = still_any book.replicas (unrecorded storage ∷ []) has
    by false = has

-- ---- a creation assigns the first storage at least

-- the first of some storages is among those that are assigned
first_assigned : (core : Core) (virt : List ℕ) (factor storage : ℕ) (storages : List ℕ)
    → storages_of core.storages virt ≡ storage ∷ storages
    → is_one_of storage (assigned_for core virt factor) ≡ true
first_assigned core virt factor storage storages are = by (factor_for core virt factor)
  where
    here : is_one_of storage (storage ∷ storages) ≡ true
    here = rw (same_self storage) refl

    by : (n : ℕ) → is_one_of storage (if n == 0 then storages_of core.storages virt
        else take n (storages_of core.storages virt)) ≡ true
    by zero = ap (is_one_of storage) are ∙ here
    by (suc n) = elim (bool (suc n == 0)) [
      | inl holds ↦ (rw holds (ap (is_one_of storage) are ∙ here))
      | inr fails ↦ (rw fails (ap (λ xs. is_one_of storage (take (suc n) xs)) are
          ∙ (let first : is_one_of storage (storage ∷ take n storages) ≡ true =
          rw (same_self storage) refl in first)))
    ]

head_is : (x y : ℕ) (xs ys : List ℕ) → x ∷ xs ≡ y ∷ ys → x ≡ y
head_is x y xs ys is = cc

assigned_first : (replicas : List Replica) (storage lease : ℕ) (storages chosen : List ℕ)
    → map (λ (r : Replica). r.storage) replicas ≡ storage ∷ storages
    → is_one_of storage chosen ≡ true
    → list_any (λ (r : Replica). r.assigned) (map (assigned_under chosen lease) replicas) ≡ true
assigned_first [] storage lease storages chosen are is =
    absurd (let z : [] ≡ storage ∷ storages = are in cc)
assigned_first (r ∷ rs) storage lease storages chosen are is =
    let same = head_is r.storage storage (map (λ (x : Replica). x.storage) rs) storages are in
    let first : is_one_of r.storage chosen ≡ true = ap (λ n. is_one_of n chosen) same ∙ is in
    ap (λ b. b || list_any (λ (x : Replica). x.assigned) (map (assigned_under chosen lease) rs))
    first

pub assigned_created : (core : Core) (virt : List ℕ) (factor : ℕ) (book : Repository)
    → storages_in book ≡ storages_of core.storages virt
    → (length (storages_of core.storages virt) == 0) ≡ false
    → HasAssigned (created_on (assigned_for core virt factor) book)
assigned_created core virt factor book dense some =
    by (storages_of core.storages virt) refl some
  where
    by : (storages : List ℕ) → storages_of core.storages virt ≡ storages
        → (length storages == 0) ≡ false
        → HasAssigned (created_on (assigned_for core virt factor) book)
    by [] are none = absurd (let z : true ≡ false = none in cc)
    by (storage ∷ storages) are none = assigned_first book.replicas storage _ storages _
        (dense ∙ are) (first_assigned core virt factor storage storages are)

-- ---- a new factor spares one

module _ (core : Core) (book : Repository) (factor : ℕ) where
  abbrev stays_by : ℕ → Bool
  stays_by storage = not (is_spared (spared core book) storage)

  -- who may be left is not spared
  none_spared : AllByRecursion (λ storage. stays_by storage ≡ true)
      (take (length (assigned_now book) - factor) (could_be_left core book))
  none_spared = all_taken _ (length (assigned_now book) - factor) (could_be_left core book)
      (all_reversed _ _ (all_where _
      (λ (r : Replica). r.assigned && stays_by r.storage) book.replicas
      (λ r is. both_right r.assigned (stays_by r.storage) is)))

  chosen_stays : (r : Replica) → (r.assigned && is_spared (spared core book) r.storage) ≡ true
      → is_chosen core book factor r ≡ true
  chosen_stays r is = elim (bool (is_left core book factor r.storage)) [
    | inl holds ↦ absurd (
        let stays = one_has _ _ r.storage none_spared holds in
        let z : false ≡ true = ap not (sym (both_right r.assigned _ is)) ∙ stays in cc)
    | inr fails ↦ (rw (both_left r.assigned _ is) (rw fails refl))
  ]

  abbrev changed : List Replica → List Replica
  changed replicas =
      map (λ (r : Replica). record r { assigned = is_chosen core book factor r }) replicas

  any_chosen : (replicas : List Replica)
      → list_any (λ (r : Replica). r.assigned && is_spared (spared core book) r.storage) replicas
      ≡ true → list_any (λ (r : Replica). r.assigned) (changed replicas) ≡ true
  any_chosen [] some = absurd (let z : false ≡ true = some in cc)
  any_chosen (r ∷ rs) some =
      elim (bool (r.assigned && is_spared (spared core book) r.storage)) [
        | inl holds ↦ (rw (chosen_stays r holds) refl)
        | inr fails ↦ or_later (is_chosen core book factor r) _ (any_chosen rs (rw fails at some))
      ]

  -- the spared one is assigned
  spared_by : (test : Replica → Bool) (storage : ℕ) → spared core book ≡ Some storage
      → ((r : Replica) → test r ≡ true → r.assigned ≡ true)
      → is_one_of storage (storages_where test book) ≡ true → HasAssigned (reassigned core factor book)
  spared_by test storage is assigned among = any_chosen book.replicas
      (any_where test _ storage (λ r passes same. rw (assigned r passes)
      (ap (λ o. is_spared o r.storage) is ∙ ap (λ n. n == storage) same ∙ same_self storage))
      book.replicas among)

  first_there : (replicas : List Replica) → list_any (λ (r : Replica). r.assigned) replicas ≡ true
      → first_of (map (λ (r : Replica). r.storage)
      (filter (λ (r : Replica). r.assigned) replicas)) ≡ None → ⊥
  first_there [] has none = let z : false ≡ true = has in cc
  first_there (r ∷ rs) has none = elim (bool r.assigned) [
    | inl holds ↦ (let z : Some r.storage ≡ None = rw holds at none in cc)
    | inr fails ↦ first_there rs (rw fails at has) (rw fails at none)
  ]

  by_primary : (primary first : Option ℕ) → primary_of core book ≡ primary
      → first_of (assigned_now book) ≡ first → HasAssigned book
      → HasAssigned (reassigned core factor book)
  by_primary (Some storage) first is are has = spared_by (is_host core book) storage
      (ap (λ o. option_or o (first_of (assigned_now book))) is)
      (λ r host. both_left r.assigned _ host) (kept_one (hosts core book) book.primary storage is)
  by_primary None (Some storage) is are has = spared_by (λ r. r.assigned) storage
      (ap (λ o. option_or o (first_of (assigned_now book))) is ∙ are) (λ r holds. holds)
      (first_one (assigned_now book) storage are)
  by_primary None None is are has = absurd (first_there book.replicas has are)

  pub assigned_reassigned : HasAssigned book → HasAssigned (reassigned core factor book)
  assigned_reassigned has =
      by_primary (primary_of core book) (first_of (assigned_now book)) refl refl has
