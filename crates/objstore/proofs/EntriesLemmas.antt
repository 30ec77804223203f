-- A store that has one object more, or one less.
use Rattle.std.proofs.Common.{◌≡◌, ◌+◌, Bool, true, false, cond, length, Bor, Option, Some, None, sym, ◌∙◌, subst, ⊎_elim}
use Rattle.std.specs.Option.{is_some, option_copied, IfSome}
use Rattle.std.proofs.lemmas.Bool.{cases_Bool, cond-true, cond-false}
use Rattle.std.specs.List.Sorted.{IsStrictlySortedBy}
use Rattle.std.specs.Map.{keys_of}
use Rattle.px_base.specs.Hash.{hash_cmp}
use Rattle.px_base.specs.Object.{GitObject, IsSmall}
use Rattle.px_base.specs.declared.hash.Hash.{Hash}
use Rattle.objstore.proofs.Ids.{ids_laws, one_id, other_id}
use Rattle.objstore.specs.Entries.{AreSmall, Entries, is_id, object_at, IsNamed, IsStore}
use Rattle.objstore.specs.Put.{AddsObject}

-- the store has the object under the id, and all else as before
abbrev pub Takes : Entries → Entries → Hash → GitObject → Type 0
Takes old new id object =
    (q : Hash) → object_at new q ≡ cond (is_id id q) (Some object) (object_at old q)

-- the property holds of each id and the object that the store has under it
abbrev Holds : Entries → (Hash → GitObject → Type 0) → Type 0
Holds store P = (q : Hash) (found : GitObject) → object_at store q ≡ Some found → P q found

-- the object is small, whatever its id
abbrev SmallAt : Hash → GitObject → Type 0
SmallAt id object = IsSmall object.content

module _ (old new : Entries) (id : Hash) (object : GitObject) (takes : Takes old new id object)
  where
    -- what stands there elsewhere stood there before
    pub stays : (q : Hash) → is_id id q ≡ false → object_at new q ≡ object_at old q
    stays q differs = takes q ∙ cond-false (is_id id q) (Some object) (object_at old q) differs

    -- it has the object
    has : object_at new id ≡ Some object
    has = takes id ∙ cond-true (is_id id id) (Some object) (object_at old id) (ids_laws.refl id)

    -- what holds of this object, and of each that stood there, holds of each that stands there
    holds_more : (P : Hash → GitObject → Type 0) → Holds old P → P id object → Holds new P
    holds_more P all here q found is = ⊎_elim (λ t. at_id (one_id id q t))
        (λ f. all q found (sym (stays q f) ∙ is)) (cases_Bool (is_id id q))
      where
        at_id : id ≡ q → P q found
        at_id e =
            let there : object_at new q ≡ Some object =
            subst (λ (p : Hash). object_at new p ≡ Some object) e has in
            let same : object ≡ found = cc in
            subst (λ (p : Hash). P p found) e (subst (P id) same here)

    -- where the object stands under its name, all do as before
    pub IsStore-more : IsStore old → IsNamed id object → IsStrictlySortedBy hash_cmp (keys_of new)
        → IsStore new
    IsStore-more store own ordered = record {
      ordered = ordered;
      named = holds_more IsNamed store.named own;
    }

    -- where the object is small, all are as before
    pub AreSmall-more : AreSmall old → IsSmall object.content → AreSmall new
    AreSmall-more small here = holds_more SmallAt small here

    -- where it had none before, it has one object more
    pub AddsObject-made : (before : Option GitObject) → before ≡ object_at old id
        → object_at old id ≡ None → length new ≡ length old + cond (is_some before) 0 1
        → AddsObject old new id object
    AddsObject-made before was absent longer = record {
      absent = absent;
      has = has;
      others = λ q differs. stays q (other_id id q differs);
      one_more = subst (λ (o : Option GitObject). length new ≡ length old + cond (is_some o) 0 1)
          (was ∙ absent) longer;
    }

-- the store has nothing under the id, and all else as before
abbrev pub Loses : Entries → Entries → Hash → Type 0
Loses old new id = (q : Hash) → object_at new q ≡ cond (is_id id q) None (object_at old q)

module _ (old new : Entries) (id : Hash) (loses : Loses old new id) where
  -- what held of each object holds of each that is left
  holds_less : (P : Hash → GitObject → Type 0) → Holds old P → Holds new P
  holds_less P all q found is = at (is_id id q) (sym (loses q) ∙ is)
    where
      at : (b : Bool) → cond b None (object_at old q) ≡ Some found → P q found
      at true none = absurd (cc)
      at false there = all q found there

  -- each that is left stands under its name
  pub IsStore-less : IsStore old → IsStrictlySortedBy hash_cmp (keys_of new) → IsStore new
  IsStore-less store ordered = record {
    ordered = ordered;
    named = holds_less IsNamed store.named;
  }

  -- each that is left is small
  pub AreSmall-less : AreSmall old → AreSmall new
  AreSmall-less small = holds_less SmallAt small

-- what is found under an id is named by it
pub IsNamed-found : (store : Entries) → IsStore store → (id : Hash) (found : Option (Bor GitObject))
    → option_copied found ≡ object_at store id → IfSome found (λ object. IsNamed id object.now)
IsNamed-found store is_store id None is = tt
IsNamed-found store is_store id (Some object) is = is_store.named id object.now (sym is)
