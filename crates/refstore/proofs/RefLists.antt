-- Lists of references: their fronts, and those that some updates leave.
use Rattle.std.proofs.Common.{◌≡◌, ◌||◌, cond, ℕ, suc, ◌+◌, ◌<◌, ◌≤◌, take, drop, get_or, take-append-drop, drop-cons, List, [], ◌∷◌, ◌++◌, true, false, Bool, Option, Some, None, refl, sym, ap, ◌∙◌, subst, ⊎_elim, length, arith, length-append, append_assoc}
use Rattle.std.specs.BTreeMap.{insert_entry}
use Rattle.std.specs.List.{AllByRecursion}
use Rattle.std.specs.List.Sorted.{IsStrictlySortedBy}
use Rattle.std.specs.Map.{keys_of}
use Rattle.std.specs.Option.{IsSome, is_some, option_map, option_or}
use Rattle.std.specs.Prelude.{nat_lt}
use Rattle.std.specs.declared.cmp.Ordering.TheVariants.{Less}
use Rattle.std.proofs.lemmas.List.{take_more}
use Rattle.px_base.specs.Hash.{is_zero}
use Rattle.px_base.specs.RefList.{References, IsRefList, is_in_conflict, is_name, is_under, name_cmp, ref_at}
use Rattle.px_base.specs.RefName.{IsRefName}
use Rattle.px_base.specs.declared.hash.Hash.{Hash}
use Rattle.px_base.specs.declared.push.Update.{Update}
use Rattle.refstore.proofs.After.{Ascends, Sets, Stands, after_cases, none_first, none_second}
use Rattle.refstore.proofs.Least.{among_from_there, none_found}
use Rattle.refstore.proofs.Names.{names_laws}
use Rattle.refstore.proofs.RefMaps.{insert_entry-last}
use Rattle.refstore.specs.RefMap.{IsRefMap}
use Rattle.refstore.specs.declared.prepared.RefRefusal.{RefRefusal}
use Rattle.refstore.specs.declared.prepared.RefRefusal.TheVariants.{Conflict, TooManyRefs}
use Rattle.refstore.specs.Updates.{Fits, after, first_conflict, first_fault, least_conflict, too_many, update_conflict}

-- ---- the front of a list

-- what a name has in front it has in the whole
has_front : (front rest : References) (q : List ℕ) (id : Hash) → ref_at front q ≡ Some id
    → ref_at (front ++ rest) q ≡ Some id
has_front [] rest q id has = absurd (cc)
has_front (ref ∷ front) rest q id has = at (is_name q ref.0) has (has_front front rest q id)
  where
    at : (b : Bool) → cond b (Some ref.1) (ref_at front q) ≡ Some id
        → (ref_at front q ≡ Some id → ref_at (front ++ rest) q ≡ Some id)
        → cond b (Some ref.1) (ref_at (front ++ rest) q) ≡ Some id
    at true is later = is
    at false is later = later is

pub some_of : (o : Option Hash) → IsSome o → (id : Hash) × (o ≡ Some id)
some_of None there = absurd (cc)
some_of (Some id) there = (id, refl)

there_front : (front rest : References) (q : List ℕ) → IsSome (ref_at front q)
    → IsSome (ref_at (front ++ rest) q)
there_front front rest q there =
    let has = some_of (ref_at front q) there in
    ap is_some (has_front front rest q has.0 has.1)

all_front : (P : List ℕ → Type 0) (front rest : References)
    → AllByRecursion P (keys_of (front ++ rest)) → AllByRecursion P (keys_of front)
all_front P [] rest all = tt
all_front P (ref ∷ front) rest all = (all.0, all_front P front rest all.1)

ascends_front : (front rest : References) → Ascends (front ++ rest) → Ascends front
unfolding IsStrictlySortedBy
ascends_front [] rest ascends = tt
ascends_front (ref ∷ front) rest ascends = (
  all_front (λ (q : List ℕ). name_cmp ref.0 q ≡ Less) front rest ascends.0,
  ascends_front front rest ascends.1,
)

IsRefList-front : (front rest : References) → IsRefList (front ++ rest) → IsRefList front
IsRefList-front front rest list = record {
  ordered = ascends_front front rest list.ordered;
  lawful = λ name id has. list.lawful name id (has_front front rest name id has);
  apart = λ name other here there.
      list.apart name other (there_front front rest name here) (there_front front rest other there);
  few = omega (arith, list.few, length-append front rest);
}

-- so a list that goes on with one more is a list of references, where the whole is
pub IsRefList-more : (list all rest : References) (name copied : List ℕ) (id : Hash)
    → list ++ (name, id) ∷ rest ≡ all → copied ≡ name → IsRefList all
    → IsRefList (list ++ (copied, id) ∷ [])
IsRefList-more list all rest name copied id whole same is =
    let one : References = list ++ (name, id) ∷ [] in
    let here : one ++ rest ≡ all = append_assoc list ((name, id) ∷ []) rest ∙ whole in
    subst (λ (n : List ℕ). IsRefList (list ++ (n, id) ∷ [])) (sym same)
    (IsRefList-front one rest (subst IsRefList (sym here) is))

-- a name in their midst is there
there_midst : (refs rest : References) (name : List ℕ) (id : Hash)
    → IsSome (ref_at (refs ++ (name, id) ∷ rest) name)
there_midst [] rest name id = rw (names_laws.refl name) refl
there_midst (ref ∷ refs) rest name id = at (is_name name ref.0) (there_midst refs rest name id)
  where
    at : (b : Bool) → IsSome (ref_at (refs ++ (name, id) ∷ rest) name)
        → IsSome (cond b (Some ref.1) (ref_at (refs ++ (name, id) ∷ rest) name))
    at true later = refl
    at false later = later

-- so it is one
pub named_midst : (refs all rest : References) (name copied : List ℕ) (id : Hash)
    → refs ++ (name, id) ∷ rest ≡ all → copied ≡ name → IsRefMap all → IsRefName copied
named_midst refs all rest name copied id whole same map =
    subst IsRefName (sym same) (map.named name
    (subst (λ (r : References). IsSome (ref_at r name)) whole (there_midst refs rest name id)))

-- a list whose front is a map goes into it one by one
pub takes_more : (all map made : References) (i : ℕ) (ref : List ℕ × Hash) → i < length all
    → ref ≡ get_or all i ref → Ascends all → map ≡ take i all
    → made ≡ insert_entry name_cmp map ref.0 ref.1 → made ≡ take (i + 1) all
takes_more all map made i ref within is ascends front put =
    let here : drop i all ≡ ref ∷ drop (suc i) all =
    drop-cons all i ref within ∙ ap (λ (r : List ℕ × Hash). r ∷ drop (suc i) all) (sym is) in
    let whole : take i all ++ ref ∷ drop (suc i) all ≡ all =
    ap (λ (r : References). take i all ++ r) (sym here) ∙ take-append-drop i all in
    put ∙ ap (λ (r : References). insert_entry name_cmp r ref.0 ref.1) front
    ∙ insert_entry-last (take i all) ref.0 ref.1 (drop (suc i) all)
    (subst Ascends (sym whole) ascends)
    ∙ sym (take_more all i ref within
    ∙ ap (λ (r : List ℕ × Hash). take i all ++ r ∷ []) (sym is))

-- ---- what the updates leave

module _ (refs : References) (updates : List Update) (before : IsRefList refs) where
  -- the references afterwards
  abbrev done : References
  done = after refs updates

  none_here : (a b : Option RefRefusal) → option_or a b ≡ None → (a ≡ None) × (b ≡ None)
  none_here None b is = (refl, is)
  none_here (Some e) b is = absurd (cc)

  -- none of the updates is in conflict, where none is first
  no_conflict : (others : List Update) (update : Update) → first_conflict done others ≡ None
      → Stands others update → update_conflict done update ≡ None
  no_conflict [] update none stands = absurd stands
  no_conflict (first ∷ others) update none stands =
      let parts = none_here (update_conflict done first) (first_conflict done others) none in
      ⊎_elim (λ e. subst (λ (u : Update). update_conflict done u ≡ None) e parts.0)
      (λ later. no_conflict others update parts.1 later) stands

  -- where an update is not in conflict, its name is in conflict with none
  none_least : (b : Bool) (name : List ℕ) (least : Option (List ℕ)) → b ≡ true
      → cond b (option_map (Conflict name) least) None ≡ None → least ≡ None
  none_least true name None there is = refl
  none_least true name (Some with_) there is = absurd (cc)
  none_least false name least there is = absurd (cc)

  module _ (map : IsRefMap done) (none : first_conflict done updates ≡ None) where
    -- a name that was set is in conflict with none that is there
    set_apart : (name other : List ℕ) (id : Hash) → Sets updates name id → IsSome (ref_at done name)
        → IsSome (ref_at done other) → is_in_conflict name other ≡ false
    set_apart name other id sets here there =
        let at : IsSome (ref_at done sets.update.name) =
        subst (λ (q : List ℕ). IsSome (ref_at done q)) (sym sets.named) here in
        let least : least_conflict done sets.update.name ≡ None =
        none_least _ sets.update.name (least_conflict done sets.update.name) at
        (no_conflict updates sets.update none sets.stands) in
        none_found (is_in_conflict name) (keys_of done) other
        (subst (λ (q : List ℕ). least_conflict done q ≡ None) sets.named least)
        (among_from_there done other there)

    -- conflicts go both ways
    swap : (a b : Bool) → (b || a) ≡ false → (a || b) ≡ false
    swap false false e = refl
    swap false true e = absurd (cc)
    swap true false e = absurd (cc)
    swap true true e = absurd (cc)

    apart : (name other : List ℕ) → IsSome (ref_at done name) → IsSome (ref_at done other)
        → is_in_conflict name other ≡ false
    apart name other here there =
        let one = some_of (ref_at done name) here in
        let two = some_of (ref_at done other) there in
        ⊎_elim
        (λ was. ⊎_elim
        (λ had. before.apart name other (ap is_some was) (ap is_some had))
        (λ set. swap (is_under name other) (is_under other name)
        (set_apart other name two.0 set there here))
        (after_cases refs updates before.ordered other two.0 two.1))
        (λ set. set_apart name other one.0 set here there)
        (after_cases refs updates before.ordered name one.0 one.1)

    -- so a repository may have what they leave, if it is not too many
    pub IsRefList-after : length done ≤ 32768 → IsRefList done
    IsRefList-after few = record {
      ordered = map.ordered;
      lawful = λ name id has. record {
        named = map.named name (ap is_some has);
        some = ⊎_elim (λ was. (before.lawful name id was).some)
            (λ set. subst (λ (h : Hash). is_zero h ≡ false) set.gives set.some)
            (after_cases refs updates before.ordered name id has);
      };
      apart = apart;
      few = few;
    }

-- what updates that may be done leave is such as a repository may have
many_not : (b : Bool) → cond b (Some TooManyRefs) None ≡ None → b ≡ false
many_not true e = absurd (cc)
many_not false e = refl

within_limit : (n : ℕ) → nat_lt 32768 n ≡ false → n ≤ 32768
within_limit n e = grind (arith, e)

pub IsRefList-fits : (refs : References) (updates : List Update) → IsRefList refs
    → Fits updates refs → IsRefMap (after refs updates) → IsRefList (after refs updates)
IsRefList-fits refs [] list fits map = list
IsRefList-fits refs (update ∷ updates) list fits map =
    let done = after refs (update ∷ updates) in
    let later = none_second (first_fault refs [] (update ∷ updates))
    (option_or (first_conflict done (update ∷ updates)) (too_many done)) fits in
    IsRefList-after refs (update ∷ updates) list map
    (none_first (first_conflict done (update ∷ updates)) (too_many done) later)
    (within_limit (length done) (many_not (nat_lt 32768 (length done))
    (none_second (first_conflict done (update ∷ updates)) (too_many done) later)))
