-- Who is told to commit, and what a vote books of who is not.
use Rattle.std.proofs.Common.{◌≡◌, ◌==◌, ◌&&◌, ℕ, suc, List, [], ◌∷◌, Bool, true, false, if◌then◌else◌, Option, None, Some, refl, sym, ap, ◌∙◌, inl, inr, filter, map, slice_get}
use Rattle.std.specs.Option.{option_map}
use Rattle.px_base.specs.declared.ids.StorageId.{StorageId}
use Rattle.txmanager.specs.Voting.{Voting}
use Rattle.px_cluster.specs.Book.{Replica, Repository, is_on}
use Rattle.px_cluster.specs.Casts.{came_late, in_doubt_if_told, is_committed_in, is_told}
use Rattle.px_cluster.specs.Core.{OpenPush}
use Rattle.px_cluster.specs.Numbers.{is_one_of, place_in}
use Rattle.cluster_form.proofs.Lists.{bool, same_number}
use Rattle.genbook.specs.Changes.{numbers_of}
use Rattle.genbook.specs.Rules.{AreTold}

-- ---- the members that are told

behind : (members : List ℕ) (storage place : ℕ) (there : Option ℕ)
    → ((n : ℕ) → there ≡ Some n → is_one_of storage members ≡ true)
    → option_map suc there ≡ Some place → is_one_of storage members ≡ true
behind members storage place None on is = absurd (let none : None ≡ Some place = is in cc)
behind members storage place (Some n) on is = on n refl

placed : (members : List ℕ) (storage place : ℕ) → place_in members storage ≡ Some place
    → is_one_of storage members ≡ true
placed [] storage place is = absurd (let none : None ≡ Some place = is in cc)
placed (member ∷ members) storage place is = elim (bool (member == storage)) [
  | inl holds ↦ (rw holds refl)
  | inr fails ↦ (rw fails (behind members storage place (place_in members storage)
      (λ n there. placed members storage n there) (rw fails at is)))
]

module _ (push : OpenPush) (votes : Voting) where
  told_member : (storage : ℕ) → is_told push votes storage ≡ true
      → is_one_of storage push.members ≡ true
  told_member storage is = by (place_in push.members storage) refl is
    where
      by : (place : Option ℕ) → place_in push.members storage ≡ place
          → is_committed_in place (slice_get votes.subs 0) ≡ true
          → is_one_of storage push.members ≡ true
      by None none told = absurd (cc)
      by (Some place) found told = placed push.members storage place found

  -- one of those of the members that are told is a member, and told
  among_filtered : (members : List StorageId) (storage : ℕ)
      → is_one_of storage
      (numbers_of (filter (λ (m : StorageId). is_told push votes m.0) members))
      ≡ (is_one_of storage (numbers_of members) && is_told push votes storage)
  among_filtered [] storage = refl
  among_filtered (m ∷ members) storage =
      let rest = among_filtered members storage in
      elim (bool (m.0 == storage)) [
        | inl here ↦ (let same = same_number m.0 storage here in
            elim (bool (is_told push votes storage)) [
              | inl told ↦ (rw (ap (is_told push votes) same ∙ told) (rw here (sym told)))
              | inr none ↦ (rw (ap (is_told push votes) same ∙ none)
                  (rest ∙ rw none (rw here (and_false (is_one_of storage (numbers_of members))))))
            ])
        | inr there ↦ elim (bool (is_told push votes m.0)) [
          | inl told ↦ (rw told (rw there rest))
          | inr none ↦ (rw none (rw there rest))
        ]
      ]
    where
      and_false : (b : Bool) → (b && false) ≡ false
      and_false true = refl
      and_false false = refl

  -- so the members that are told are those that the push tells
  pub are_told : (members : List StorageId) → numbers_of members ≡ push.members
      → AreTold push votes (filter (λ (m : StorageId). is_told push votes m.0) members)
  are_told members are storage = sym (among_filtered members storage ∙ elim (bool
      (is_told push votes storage)) [
        | inl told ↦ (rw told (rw (ap (is_one_of storage) are ∙ told_member storage told) refl))
        | inr none ↦ (rw none (and_false (is_one_of storage (numbers_of members))))
      ])
    where
      and_false : (b : Bool) → (b && false) ≡ false
      and_false true = refl
      and_false false = refl

  -- ---- who is not told is booked as before

  kept_one : (storage : ℕ) (due : ℕ) → is_told push votes storage ≡ false → (replica : Replica)
      → (if is_on storage replica then in_doubt_if_told push votes due replica else replica)
      ≡ replica
  kept_one storage due none replica = elim (bool (replica.storage == storage)) [
    | inl here ↦ (rw here (rw (ap (is_told push votes) (same_number replica.storage storage here)
        ∙ none) refl))
    | inr there ↦ (rw there refl)
  ]

  kept_each : (storage : ℕ) (due : ℕ) → is_told push votes storage ≡ false
      → (replicas : List Replica) → map (λ (replica : Replica).
      if is_on storage replica then in_doubt_if_told push votes due replica else replica) replicas
      ≡ replicas
  kept_each storage due none [] = refl
  kept_each storage due none (r ∷ rs) =
      λ i. kept_one storage due none r i ∷ kept_each storage due none rs i

  pub not_told : (storage : ℕ) (book : Repository) → is_told push votes storage ≡ false
      → came_late push votes (Some storage) book ≡ book
  not_told storage book none =
      λ i. record book { replicas = kept_each storage book.newest none book.replicas i }
