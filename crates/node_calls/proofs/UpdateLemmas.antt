-- Updates that may be done leave references that a repository may have.
use Rattle.std.proofs.Common.{◌≡◌, ◌≤◌, ℕ, List, [], ◌∷◌, length, true, false, cond, Bool, Option, Some, None, IsSome, refl, subst, ⊎_elim}
use Rattle.std.specs.Prelude.{nat_lt}
use Rattle.std.proofs.lemmas.Bool.{ltb-false}
use Rattle.px_base.specs.RefList.{IsRefList, References, ref_at}
use Rattle.px_base.specs.RefName.{IsRefName}
use Rattle.px_base.specs.declared.hash.Hash.{Hash}
use Rattle.px_base.specs.declared.push.Update.{Update}
use Rattle.refstore.proofs.After.{Stands, after_cases, ascends-after}
use Rattle.refstore.proofs.RefLists.{IsRefList-after}
use Rattle.px_base.specs.Update.{AreUpdates}
use Rattle.refstore.specs.RefMap.{IsRefMap}
use Rattle.refstore.specs.Updates.{Fits, after, first_conflict, first_fault, too_many}
use Rattle.refstore.specs.declared.prepared.RefRefusal.{RefRefusal}
use Rattle.refstore.specs.declared.prepared.RefRefusal.TheVariants.{TooManyRefs}
use Rattle.node_calls.proofs.OptionLemmas.{no_first, no_second}

-- the name of an update of the type is one
pub name_stands : (updates : List Update) → AreUpdates updates → (update : Update)
    → Stands updates update → IsRefName update.name
name_stands [] all update stands = absurd stands
name_stands (first ∷ updates) all update stands =
    ⊎_elim (λ same. subst (λ (u : Update). IsRefName u.name) same all.0.name)
    (λ later. name_stands updates all.1 update later) stands

-- references that are not too many
few_enough : (n : ℕ) → cond (nat_lt 32768 n) (Some TooManyRefs) None ≡ None → n ≤ 32768
few_enough n none = at (nat_lt 32768 n) refl none
  where
    at : (b : Bool) → nat_lt 32768 n ≡ b
        → cond {A = Option RefRefusal} b (Some TooManyRefs) None ≡ None → n ≤ 32768
    at true is none = absurd (cc)
    at false is none = ltb-false 32768 n is

-- what is there is something
some_of : (o : Option Hash) → IsSome o → (id : Hash) × (o ≡ Some id)
some_of None there = absurd (cc)
some_of (Some id) there = (id, refl)

module _ (refs : References) (updates : List Update) (lawful : IsRefList refs)
    (named : (update : Update) → Stands updates update → IsRefName update.name) where
  -- where the name of each update is one, each name afterwards is
  IsRefMap-after : IsRefMap (after refs updates)
  IsRefMap-after = record {
    ordered = ascends-after refs updates lawful.ordered;
    named = λ name there.
        let has = some_of (ref_at (after refs updates) name) there in
        ⊎_elim (λ was. (lawful.lawful name has.0 was).named)
        (λ set. subst IsRefName set.named (named set.update set.stands))
        (after_cases refs updates lawful.ordered name has.0 has.1);
  }

-- so a repository may have what they leave
pub IsRefList-fits : (refs : References) (updates : List Update) → IsRefList refs
    → ((update : Update) → Stands updates update → IsRefName update.name) → Fits updates refs
    → IsRefList (after refs updates)
IsRefList-fits refs [] lawful named fits = absurd (cc)
IsRefList-fits refs (update ∷ updates) lawful named fits =
    let done = after refs (update ∷ updates) in
    let later = no_second (first_fault refs [] (update ∷ updates)) _ fits in
    IsRefList-after refs (update ∷ updates) lawful
    (IsRefMap-after refs (update ∷ updates) lawful named)
    (no_first (first_conflict done (update ∷ updates)) _ later)
    (few_enough (length done)
    (no_second (first_conflict done (update ∷ updates)) (too_many done) later))
