-- A list of updates that is done in two stages, and taken back.
use Rattle.std.proofs.Common.{◌≡◌, ◌+◌, ◌<◌, ℕ, suc, List, [], ◌∷◌, ◌++◌, true, false, not, Bool, cond, Option, Some, None, refl, sym, ap, ◌∙◌, subst, drop, drop-cons, get_or, length, arith, zero, ◌≤◌}
use Rattle.std.specs.BTreeMap.{insert_entry, is_at}
use Rattle.std.specs.Map.{remove_entry}
use Rattle.std.specs.Prelude.{Result, Ok, Err, OnOk, OnErr}
use Rattle.std.specs.declared.alloc.AllocError.{AllocError}
use Rattle.std.specs.Option.{IsSome, is_some, unwrap_or}
use Rattle.std.proofs.lemmas.Bool.{cond-false, cond-true, or_left, or_right}
use Rattle.std.proofs.lemmas.List.Folds.{list_any-append}
use Rattle.px_base.specs.Hash.{is_zero, same_hash, same_hash-Decides, zero_hash}
use Rattle.px_base.specs.RefList.{IsRefList, References, is_name, name_cmp, ref_at}
use Rattle.px_base.specs.RefName.{IsRefName}
use Rattle.px_base.specs.declared.hash.Hash.{Hash}
use Rattle.px_base.specs.declared.push.Update.{Update}
use Rattle.refstore.proofs.After.{Ascends, apart_from_before, ascends-updated, ascends_gone, ascends_set, cond_swap, none_first, none_second, or_both, or_first, or_second, ref_at-gone, ref_at-set, ref_at-updated}
use Rattle.refstore.proofs.Alike.{one_map}
use Rattle.refstore.proofs.Names.{names_laws, one_name}
use Rattle.refstore.proofs.RefMaps.{IsRefMap-takes}
use Rattle.refstore.specs.RefMap.{IsRefMap}
use Rattle.refstore.specs.declared.prepared.RefRefusal.TheVariants.{Void, Twice, Stale}
use Rattle.refstore.specs.Stages.{IsOnTheWay, removals_of, restored, sets_of}
use Rattle.refstore.specs.Updates.{Fits, after, first_fault, given, have, is_among, names_of, update_fault, updated}

-- ---- updates of different names may change places

swapped : (refs : References) (one other : Update) → Ascends refs
    → is_name one.name other.name ≡ false
    → updated (updated refs one) other ≡ updated (updated refs other) one
swapped refs one other ascends apart =
    one_map (updated (updated refs one) other) (updated (updated refs other) one)
    (ascends-updated (updated refs one) other (ascends-updated refs one ascends))
    (ascends-updated (updated refs other) one (ascends-updated refs other ascends))
    (λ q. ref_at-updated (updated refs one) other (ascends-updated refs one ascends) q
    ∙ ap (λ (o : Option Hash). cond (is_name other.name q) (given other) o)
    (ref_at-updated refs one ascends q)
    ∙ cond_swap (is_name other.name q) (is_name one.name q) (given other) (given one) (ref_at refs q)
    (λ here there. absurd (
    let same : is_name one.name other.name ≡ true =
    names_laws.congr one.name q other.name there ∙ names_laws.symm q other.name ∙ here in
    cc))
    ∙ ap (λ (o : Option Hash). cond (is_name one.name q) (given one) o)
    (sym (ref_at-updated refs other ascends q))
    ∙ sym (ref_at-updated (updated refs other) one (ascends-updated refs other ascends) q))

-- no update names what an earlier one does
abbrev AreApart : List Update → Type 0
AreApart [] = Unit {0}
AreApart (update ∷ updates) = (is_among update.name (names_of updates) ≡ false) × AreApart updates

apart_from_fault : (refs : References) (before : List (List ℕ)) (updates : List Update)
    → first_fault refs before updates ≡ None → AreApart updates
apart_from_fault refs before [] none = tt
apart_from_fault refs before (update ∷ updates) none =
    let later = none_second (update_fault refs before update) _ none in (
      apart_from_before refs (before ++ update.name ∷ []) updates update.name later
          (list_any-append (is_name update.name) before (update.name ∷ [])
          ∙ or_right _ _ (or_left _ _ (names_laws.refl update.name))),
      apart_from_fault refs (before ++ update.name ∷ []) updates later,
    )

-- one whose name none of them has may be done before those of them that set a name
moved : (refs : References) (update : Update) (updates : List Update) → Ascends refs
    → is_among update.name (names_of updates) ≡ false
    → updated (after refs (sets_of updates)) update ≡ after (updated refs update) (sets_of updates)
moved refs update [] ascends apart = refl
moved refs update (first ∷ updates) ascends apart =
    let later : is_among update.name (names_of updates) ≡ false =
    or_second (is_name update.name first.name) _ apart in
    at (not (is_zero first.new))
    (moved (updated refs first) update updates (ascends-updated refs first ascends) later)
    (moved refs update updates ascends later)
  where
    at : (b : Bool)
        → updated (after (updated refs first) (sets_of updates)) update
        ≡ after (updated (updated refs first) update) (sets_of updates)
        → updated (after refs (sets_of updates)) update ≡ after (updated refs update) (sets_of updates)
        → updated (after refs (cond b (first ∷ sets_of updates) (sets_of updates))) update
        ≡ after (updated refs update) (cond b (first ∷ sets_of updates) (sets_of updates))
    at true with_ without =
        with_
        ∙ ap (λ (r : References). after r (sets_of updates))
        (sym (swapped refs update first ascends (or_first (is_name update.name first.name) _ apart)))
    at false with_ without = without

-- so to set names first, and then to take names away, is to do them in order
in_stages : (refs : References) (updates : List Update) → Ascends refs → AreApart updates
    → after (after refs (sets_of updates)) (removals_of updates) ≡ after refs updates
in_stages refs [] ascends apart = refl
in_stages refs (update ∷ updates) ascends apart =
    at (is_zero update.new)
    (in_stages (updated refs update) updates (ascends-updated refs update ascends) apart.1)
  where
    at : (b : Bool)
        → after (after (updated refs update) (sets_of updates)) (removals_of updates)
        ≡ after (updated refs update) updates
        → after (after refs (cond (not b) (update ∷ sets_of updates) (sets_of updates)))
        (cond b (update ∷ removals_of updates) (removals_of updates)) ≡ after refs (update ∷ updates)
    at true rest =
        ap (λ (r : References). after r (removals_of updates))
        (moved refs update updates ascends apart.0)
        ∙ rest
    at false rest = rest

fault_of : (refs : References) (updates : List Update) → Fits updates refs
    → first_fault refs [] updates ≡ None
fault_of refs [] fits = refl
fault_of refs (update ∷ updates) fits = none_first (first_fault refs [] (update ∷ updates)) _ fits

pub staged : (refs : References) (updates : List Update) → Ascends refs → Fits updates refs
    → after (after refs (sets_of updates)) (removals_of updates) ≡ after refs updates
staged refs updates ascends fits =
    in_stages refs updates ascends (apart_from_fault refs [] updates (fault_of refs updates fits))

-- ---- on the way

-- at first
pub way_begins : (refs : References) (updates : List Update) → IsOnTheWay refs refs updates
way_begins refs updates = record { others = λ name apart. refl; there = λ name is. is }

-- one of them sets its name
pub way_goes_on : (refs map : References) (updates : List Update) (name : List ℕ) (id : Hash)
    (made : References) → is_among name (names_of updates) ≡ true
    → ((q : List ℕ) → ref_at made q ≡ cond (is_name name q) (Some id) (ref_at map q))
    → IsOnTheWay refs map updates → IsOnTheWay refs made updates
way_goes_on refs map updates name id made among sets way = record {
  others = λ q apart. sets q ∙ other q apart (is_name name q) refl ∙ way.others q apart;
  there = λ q is. ap is_some (sets q) ∙ more (is_name name q) (ref_at map q) (way.there q is);
}
  where
    more : (b : Bool) (o : Option Hash) → is_some o ≡ true → is_some (cond b (Some id) o) ≡ true
    more true o is = refl
    more false o is = is

    other : (q : List ℕ) → is_among q (names_of updates) ≡ false → (b : Bool) → is_name name q ≡ b
        → cond b (Some id) (ref_at map q) ≡ ref_at map q
    other q apart true same = absurd (
        let there_ : is_among q (names_of updates) ≡ true =
        subst (λ (n : List ℕ). is_among n (names_of updates) ≡ true) (one_name name q same) among in
        cc)
    other q apart false differs = refl

-- ---- and back

-- the old object is what the name had
old_is : (void twice same : Bool) (name : List ℕ) (have_ : Hash)
    → cond void (Some (Void name)) (cond twice (Some (Twice name))
    (cond same None (Some (Stale name have_)))) ≡ None → same ≡ true
old_is true twice same name have_ is = absurd (cc)
old_is false true same name have_ is = absurd (cc)
old_is false false true name have_ is = refl
old_is false false false name have_ is = absurd (cc)

-- what a name has once an update gave it its old object back
abbrev back : Update → Option Hash → Option Hash
back update was =
    cond (is_zero update.old) None (cond (is_some was) (Some update.old) None)

ascends-restored : (map : References) (update : Update) → Ascends map → Ascends (restored map update)
ascends-restored map update ascends = at (is_zero update.old) (is_some (ref_at map update.name))
  where
    at : (zero there : Bool) → Ascends (cond zero (remove_entry (is_at (name_cmp update.name)) map)
        (cond there (insert_entry name_cmp map update.name update.old) map))
    at true there = ascends_gone update.name update.old map ascends
    at false true = ascends_set update.name update.old map ascends
    at false false = ascends

ref_at-restored : (map : References) (update : Update) → Ascends map → (q : List ℕ)
    → ref_at (restored map update) q
    ≡ cond (is_name update.name q) (back update (ref_at map update.name)) (ref_at map q)
ref_at-restored map update ascends q =
    at (is_zero update.old) (is_some (ref_at map update.name)) refl
  where
    absent : (o : Option Hash) → is_some o ≡ false → o ≡ None
    absent None e = refl
    absent (Some id) e = absurd (cc)

    stays : (b : Bool) → is_name update.name q ≡ b → ref_at map update.name ≡ None
        → ref_at map q ≡ cond b None (ref_at map q)
    stays true same none = ap (ref_at map) (sym (one_name update.name q same)) ∙ none
    stays false differs none = refl

    at : (zero there : Bool) → is_some (ref_at map update.name) ≡ there
        → ref_at (cond zero (remove_entry (is_at (name_cmp update.name)) map)
        (cond there (insert_entry name_cmp map update.name update.old) map)) q
        ≡ cond (is_name update.name q) (cond zero None (cond there (Some update.old) None))
        (ref_at map q)
    at true there is = ref_at-gone update.name update.old map ascends q
    at false true is = ref_at-set update.name update.old map q
    at false false is =
        stays (is_name update.name q) refl (absent (ref_at map update.name) is)

-- it is what the name had at first
had : (refs map : References) (update : Update) → IsRefList refs
    → same_hash (have refs update.name) update.old ≡ true
    → (IsSome (ref_at refs update.name) → IsSome (ref_at map update.name))
    → back update (ref_at map update.name) ≡ ref_at refs update.name
had refs map update list same there = at (ref_at refs update.name) refl
  where
    at : (o : Option Hash) → ref_at refs update.name ≡ o
        → back update (ref_at map update.name) ≡ o
    at None is =
        let old : zero_hash ≡ update.old =
        ap (λ (o : Option Hash). unwrap_or o zero_hash) (sym is)
        ∙ (same_hash-Decides (have refs update.name) update.old).0 same in
        let zero : is_zero update.old ≡ true = (same_hash-Decides update.old zero_hash).1 (sym old) in
        ap (λ (b : Bool). cond {A = Option Hash} b None
        (cond (is_some (ref_at map update.name)) (Some update.old) None)) zero
    at (Some id) is =
        let old : id ≡ update.old =
        ap (λ (o : Option Hash). unwrap_or o zero_hash) (sym is)
        ∙ (same_hash-Decides (have refs update.name) update.old).0 same in
        let some : is_zero update.old ≡ false =
        ap is_zero (sym old) ∙ (list.lawful update.name id is).some in
        let here : is_some (ref_at map update.name) ≡ true = there (ap is_some is) in
        ap (λ (b : Bool). cond {A = Option Hash} b None
        (cond (is_some (ref_at map update.name)) (Some update.old) None)) some
        ∙ ap (λ (b : Bool). cond {A = Option Hash} b (Some update.old) None) here
        ∙ ap (λ (h : Hash). Some h) (sym old)

-- so the way is gone back by one update
goes_back : (refs map : References) (update : Update) (updates : List Update) → IsRefList refs
    → Ascends map → same_hash (have refs update.name) update.old ≡ true
    → IsOnTheWay refs map (update ∷ updates) → IsOnTheWay refs (restored map update) updates
goes_back refs map update updates list ascends same way = record {
  others = λ q apart. ref_at-restored map update ascends q ∙ other q apart (is_name update.name q) refl;
  there = λ q is. ap is_some (ref_at-restored map update ascends q)
      ∙ more q is (is_name update.name q) refl;
}
  where
    here : back update (ref_at map update.name) ≡ ref_at refs update.name
    here = had refs map update list same (way.there update.name)

    other : (q : List ℕ) → is_among q (names_of updates) ≡ false → (b : Bool)
        → is_name update.name q ≡ b
        → cond b (back update (ref_at map update.name)) (ref_at map q) ≡ ref_at refs q
    other q apart true is = here ∙ ap (ref_at refs) (one_name update.name q is)
    other q apart false is =
        way.others q (or_both (is_name q update.name) _ (names_laws.symm q update.name ∙ is) apart)

    more : (q : List ℕ) → IsSome (ref_at refs q) → (b : Bool) → is_name update.name q ≡ b
        → is_some (cond b (back update (ref_at map update.name)) (ref_at map q)) ≡ true
    more q is_ true is =
        ap is_some (here ∙ ap (ref_at refs) (one_name update.name q is)) ∙ is_
    more q is_ false is = way.there q is_

-- the updates, one after the other
abbrev pub all_restored : References → List Update → References
all_restored map [] = map
all_restored map (update ∷ updates) = all_restored (restored map update) updates

gone_back : (refs map : References) (before : List (List ℕ)) (updates : List Update)
    → IsRefList refs → Ascends map → first_fault refs before updates ≡ None
    → IsOnTheWay refs map updates → all_restored map updates ≡ refs
gone_back refs map before [] list ascends none way =
    one_map map refs ascends list.ordered (λ q. way.others q refl)
gone_back refs map before (update ∷ updates) list ascends none way =
    let same : same_hash (have refs update.name) update.old ≡ true =
    old_is _ (is_among update.name before) _ update.name (have refs update.name)
    (none_first (update_fault refs before update) _ none) in
    gone_back refs (restored map update) (before ++ update.name ∷ []) updates list
    (ascends-restored map update ascends) (none_second (update_fault refs before update) _ none)
    (goes_back refs map update updates list ascends same way)

pub all_back : (refs map : References) (updates : List Update) → IsRefList refs → Ascends map
    → Fits updates refs → IsOnTheWay refs map updates → all_restored map updates ≡ refs
all_back refs map updates list ascends fits way =
    gone_back refs map [] updates list ascends (fault_of refs updates fits) way

-- ---- what the code tells

-- an object that is put under a name that is there
pub replaced : (old new : References) (name : List ℕ) (id : Hash) → Ascends old
    → IsSome (ref_at old name)
    → ((q : List ℕ) → ref_at new q ≡ cond (is_name name q) (Some id) (ref_at old q)) → Ascends new
    → new ≡ cond (is_some (ref_at old name)) (insert_entry name_cmp old name id) old
replaced old new name id ascends there sets above =
    one_map new (insert_entry name_cmp old name id) above (ascends_set name id old ascends)
    (λ q. sets q ∙ sym (ref_at-set name id old q))
    ∙ sym (cond-true (is_some (ref_at old name)) (insert_entry name_cmp old name id) old there)

pub not_replaced : (old : References) (name : List ℕ) (id : Hash) → None ≡ ref_at old name
    → old ≡ cond (is_some (ref_at old name)) (insert_entry name_cmp old name id) old
not_replaced old name id none =
    sym (cond-false (is_some (ref_at old name)) (insert_entry name_cmp old name id) old
    (ap is_some (sym none)))

-- an old object that is not the zero name was put back
pub restored_is : (inside new whole : References) (update : Update) (name : List ℕ) (zero_ : Bool)
    → zero_ ≡ is_zero update.old → zero_ ≡ false → inside ≡ whole → name ≡ update.name
    → new ≡ cond (is_some (ref_at inside name)) (insert_entry name_cmp inside name update.old) inside
    → new ≡ restored whole update
restored_is inside new whole update name zero_ test not_ view same is =
    is
    ∙ ap (λ (n : List ℕ). cond (is_some (ref_at inside n))
    (insert_entry name_cmp inside n update.old) inside) same
    ∙ ap (λ (r : References). cond (is_some (ref_at r update.name))
    (insert_entry name_cmp r update.name update.old) r) view
    ∙ sym (cond-false (is_zero update.old) (remove_entry (is_at (name_cmp update.name)) whole)
    (cond (is_some (ref_at whole update.name))
    (insert_entry name_cmp whole update.name update.old) whole) (sym test ∙ not_))

-- its names are names still
pub IsRefMap-replaced : (old new : References) (name : List ℕ) (id : Hash) → IsRefMap old
    → IsRefName name
    → new ≡ cond (is_some (ref_at old name)) (insert_entry name_cmp old name id) old → IsRefMap new
IsRefMap-replaced old new name id map named is =
    subst IsRefMap (sym is) (at (is_some (ref_at old name)))
  where
    at : (b : Bool) → IsRefMap (cond b (insert_entry name_cmp old name id) old)
    at true = IsRefMap-takes old (insert_entry name_cmp old name id) name (Some id)
        (λ q. ref_at-set name id old q) map named (ascends_set name id old map.ordered)
    at false = map

-- a list of which an update was done
pub listed : (updates : List Update) (i : ℕ) (update : Update) → i < length updates
    → update ≡ get_or updates i update → is_among update.name (names_of updates) ≡ true
listed [] i update within is = absurd (omega (arith, within))
listed (first ∷ updates) zero update within is =
    or_left _ _ (ap (λ (u : Update). is_name update.name u.name) (sym is)
    ∙ names_laws.refl update.name)
listed (first ∷ updates) (suc i) update within is =
    or_right _ _ (listed updates i update (omega (arith, within)) is)

-- one update more of a list
pub one_more : (step : References → List Update → References) (old new all : References)
    (updates : List Update) (i : ℕ) (update : Update) → i < length updates
    → update ≡ get_or updates i update
    → ((rest : List Update) → step old (update ∷ rest) ≡ step new rest)
    → step old (drop i updates) ≡ all → step new (drop (i + 1) updates) ≡ all
one_more step old new all updates i update within is steps done =
    let after_ : suc i ≡ i + 1 = omega arith in
    let next : drop i updates ≡ update ∷ drop (i + 1) updates =
    drop-cons updates i update within
    ∙ ap (λ (u : Update). u ∷ drop (suc i) updates) (sym is)
    ∙ ap (λ (n : ℕ). update ∷ drop n updates) after_ in
    sym (steps (drop (i + 1) updates)) ∙ sym (ap (step old) next) ∙ done

-- where none is left, all is done
pub all_done : (step : References → List Update → References) (now all : References)
    (updates : List Update) (i : ℕ) → length updates ≤ i
    → ((map : References) → step map [] ≡ map) → step now (drop i updates) ≡ all → now ≡ all
all_done step now all updates i past ends done =
    sym (ends now) ∙ ap (step now) (sym (drop-past updates i past)) ∙ done
  where
    drop-past : (others : List Update) (k : ℕ) → length others ≤ k → drop k others ≡ []
    drop-past [] zero over = refl
    drop-past [] (suc k) over = refl
    drop-past (first ∷ others) zero over = absurd (omega (arith, over))
    drop-past (first ∷ others) (suc k) over = drop-past others k (omega (arith, over))

-- the two stages, and back, as the loops leave them
pub both_stages : (refs old new : References) (updates : List Update) → IsRefList refs
    → Fits updates refs → old ≡ after refs (sets_of updates) → new ≡ after old (removals_of updates)
    → new ≡ after refs updates
both_stages refs old new updates list fits first second =
    second ∙ ap (λ (r : References). after r (removals_of updates)) first
    ∙ staged refs updates list.ordered fits

-- a name of the list was set, or memory wanted
pub set_way : (result : Result (Unit {0}) AllocError) (old new : References) (name : List ℕ)
    (id : Hash) → OnOk result (new ≡ insert_entry name_cmp old name id) → OnErr result (new ≡ old)
    → (refs : References) (updates : List Update) → is_among name (names_of updates) ≡ true
    → IsOnTheWay refs old updates → IsOnTheWay refs new updates
set_way (Ok done) old new name id is same refs updates among way =
    way_goes_on refs old updates name id new among
    (λ q. ap (λ (r : References). ref_at r q) is ∙ ref_at-set name id old q) way
set_way (Err e) old new name id is same refs updates among way =
    subst (λ (r : References). IsOnTheWay refs r updates) (sym same) way
