-- The name of a member finds the voter at its place, as two storages have two names.
use Rattle.std.proofs.Common.{◌≡◌, ◌<◌, ◌==◌, ℕ, zero, suc, List, [], ◌∷◌, true, false, Option, None, Some, refl, sym, ◌∙◌, ap, inl, inr, length, map, position, slice_get, unwrap_or, arith}
use Rattle.std.proofs.lemmas.Bool.{lt-ltb}
use Rattle.std.specs.List.{AllByRecursion, position_or_len}
use Rattle.std.specs.Option.{option_map}
use Rattle.std.specs.Str.{bytes_eq}
use Rattle.px_base.specs.declared.voter.Voter.{Voter}
use Rattle.voters.specs.Marks.{voter_weight}
use Rattle.voters.specs.Panel.{same_name}
use Rattle.px_cluster.specs.Book.{Storage}
use Rattle.px_cluster.specs.Core.{Core, empty, name_of}
use Rattle.px_cluster.specs.Members.{voter_with}
use Rattle.px_cluster.specs.Numbers.{is_one_of}
use Rattle.cluster_form.specs.Tables.{AreNamesApart}
use Rattle.cluster_form.specs.Turns.{AreDistinct, panel_for}
use Rattle.cluster_form.proofs.Lists.{all_got, bool, bytes_same, same_bytes, same_self, some_is}
use Rattle.cluster_form.proofs.OneOf.{or_later}

-- ---- places

-- what stands within a list
pub got_within : {A : Type 0} (xs : List A) (i : ℕ) → i < length xs
    → (x : A) × (slice_get xs i ≡ Some x)
got_within [] i within = absurd (omega (arith, within))
got_within (x ∷ xs) zero within = (x, refl)
got_within (x ∷ xs) (suc i) within = got_within xs i (omega (arith, within))

-- what stands at a place is one of the list
pub one_at : (members_ : List ℕ) (place storage : ℕ) → slice_get members_ place ≡ Some storage
    → is_one_of storage members_ ≡ true
one_at [] place storage is = absurd (let none : None ≡ Some storage = is in cc)
one_at (member ∷ members_) zero storage is =
    let same = some_is member storage is in rw same (rw (same_self storage) refl)
one_at (member ∷ members_) (suc place) storage is = or_later (member == storage)
    (is_one_of storage members_) (one_at members_ place storage is)

module _ (storages : List Storage) (apart : AreNamesApart storages) where
  abbrev core : Core
  core = record empty { storages = storages }

  -- ---- names

  -- the name of a storage that is there
  name_is : (number : ℕ) (storage : Storage) → slice_get storages number ≡ Some storage
      → name_of core number ≡ storage.name
  name_is number storage there =
      ap (λ (o : Option Storage). unwrap_or (option_map (λ (known : Storage). known.name) o) []) there

  -- two storages of one name are one
  one_storage : (one other : ℕ) → one < length storages → other < length storages
      → name_of core one ≡ name_of core other → one ≡ other
  one_storage one other known known_ same =
      let a = got_within storages one known in
      let b = got_within storages other known_ in
      apart one other a.0 b.0 a.1 b.1
      (sym (name_is one a.0 a.1) ∙ same ∙ name_is other b.0 b.1)

  -- ---- voters and members

  -- the voters have the names of the members, in their order
  abbrev AreNamed : List Voter → List ℕ → Type 0
  AreNamed [] [] = Unit {0}
  AreNamed [] (member ∷ members_) = ⊥
  AreNamed (voter ∷ voters) [] = ⊥
  AreNamed (voter ∷ voters) (member ∷ members_) =
      (voter.name ≡ name_of core member) × AreNamed voters members_

  -- voters of one weight
  named_each : (members_ : List ℕ) → AreNamed (map (voter_with core 1) members_) members_
  named_each [] = tt
  named_each (member ∷ members_) = (refl, named_each members_)

  -- .. and the whole panel
  named_panel : (members_ : List ℕ) → AreNamed (panel_for storages members_).voters members_
  named_panel [] = tt
  named_panel (primary ∷ secondaries) = (refl, named_each secondaries)

  -- there are as many weights as members
  weights_named : (voters : List Voter) (members_ : List ℕ) → AreNamed voters members_
      → length (map voter_weight voters) ≡ length members_
  weights_named [] [] named = refl
  weights_named [] (member ∷ members_) named = absurd named
  weights_named (voter ∷ voters) [] named = absurd named
  weights_named (voter ∷ voters) (member ∷ members_) named =
      ap suc (weights_named voters members_ named.1)

  -- .. in the panel
  pub weights_of_panel : (members_ : List ℕ)
      → length (map voter_weight (panel_for storages members_).voters) ≡ length members_
  weights_of_panel members_ = weights_named (panel_for storages members_).voters members_
      (named_panel members_)

  -- the first voter of the name is the member
  placed : (voters : List Voter) (members_ : List ℕ) → AreNamed voters members_
      → AreDistinct members_ → AllByRecursion (λ member. member < length storages) members_
      → (place storage : ℕ) → slice_get members_ place ≡ Some storage
      → (position_or_len (same_name (name_of core storage)) voters ≡ place)
      × (place < length voters)
  placed voters [] named distinct known place storage is =
      absurd (let none : None ≡ Some storage = is in cc)
  placed [] (member ∷ members_) named distinct known place storage is = absurd named
  placed (voter ∷ voters) (member ∷ members_) named distinct known zero storage is =
      let same : bytes_eq voter.name (name_of core storage) ≡ true =
      same_bytes voter.name (name_of core storage)
      (named.0 ∙ ap (name_of core) (some_is member storage is)) in
      ((rw same refl), omega arith)
  placed (voter ∷ voters) (member ∷ members_) named distinct known (suc place) storage is =
      let rest = placed voters members_ named.1 distinct.1 known.1 place storage is in
      let within = all_got (λ member_. member_ < length storages) members_ place storage known.1 is in
      elim (bool (bytes_eq voter.name (name_of core storage))) [
        | inl holds ↦ (let same = one_storage member storage known.0 within (sym named.0
            ∙ bytes_same voter.name (name_of core storage) holds) in
            absurd (let z : false ≡ true = sym distinct.0 ∙ ap (λ n. is_one_of n members_) same
            ∙ one_at members_ place storage is in cc))
        | inr fails ↦ (
          (rw fails (let first = rest.0 in omega (arith, first))),
          (let later = rest.1 in omega (arith, later)),
        )
      ]

  -- so a member goes by its name
  pub found_by_name : (members_ : List ℕ) → AreDistinct members_
      → AllByRecursion (λ member. member < length storages) members_ → (place storage : ℕ)
      → slice_get members_ place ≡ Some storage
      → position (same_name (name_of core storage)) (panel_for storages members_).voters
      ≡ Some place
  found_by_name members_ distinct known place storage is =
      let voters = (panel_for storages members_).voters in
      let at = placed voters members_ (named_panel members_) distinct known place storage is in
      rw at.0 (rw (lt-ltb place (length voters) at.1) refl)
