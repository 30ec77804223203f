-- Maps of references: how one more name, or one less, leaves them, and their least names.
use Rattle.std.proofs.Common.{◌≡◌, ℕ, List, [], ◌∷◌, ◌++◌, false, cond, Option, None, refl, sym, ap, ◌∙◌, subst, ⊎_elim, append_assoc}
use Rattle.std.specs.BTreeMap.{BTreeMap, insert_entry}
use Rattle.std.specs.BTreeMap.Range.{IsRangeOf}
use Rattle.std.specs.List.{AllByRecursion}
use Rattle.std.specs.List.Sorted.{IsStrictlySortedBy}
use Rattle.std.specs.Map.{keys_of}
use Rattle.std.specs.Option.{is_some}
use Rattle.std.specs.Ordering.{is_gt, ordering_reverse}
use Rattle.std.specs.declared.cmp.Ordering.TheVariants.{Less, Greater}
use Rattle.std.specs.declared.ops.Bound.TheVariants.{Included, Unbounded}
use Rattle.std.proofs.lemmas.Bool.{cases_Bool, cond-false}
use Rattle.px_base.specs.RefList.{References, is_name, name_cmp, ref_at}
use Rattle.px_base.specs.RefName.{IsRefName}
use Rattle.px_base.specs.declared.hash.Hash.{Hash}
use Rattle.refstore.proofs.Names.{less_from_gt, names_total, one_name}
use Rattle.refstore.specs.RefMap.{AllBelow, IsLeastFrom, IsRefMap}

-- the new references have this under the name, and all else as before
abbrev pub Takes : References → References → List ℕ → Option Hash → Type 0
Takes old new name given = (q : List ℕ) → ref_at new q ≡ cond (is_name name q) given (ref_at old q)

-- a name is set, or taken away: each name is one
pub IsRefMap-takes : (old new : References) (name : List ℕ) (given : Option Hash)
    → Takes old new name given → IsRefMap old → IsRefName name
    → IsStrictlySortedBy name_cmp (keys_of new) → IsRefMap new
IsRefMap-takes old new name given takes map named ordered = record {
  ordered = ordered;
  named = λ q there. ⊎_elim
      (λ t. subst IsRefName (one_name name q t) named)
      (λ f. map.named q (sym (ap is_some (takes q
      ∙ cond-false (is_name name q) given (ref_at old q) f)) ∙ there))
      (cases_Bool (is_name name q));
}

-- what holds of all names holds of one in their midst
midst : (P : List ℕ → Type 0) (refs : References) (name : List ℕ) (id : Hash) (rest : References)
    → AllByRecursion P (keys_of (refs ++ (name, id) ∷ rest)) → P name
midst P [] name id rest all = all.0
midst P (ref ∷ refs) name id rest all = midst P refs name id rest all.1

-- a name that is above all others is put to the end
pub insert_entry-last : (refs : References) (name : List ℕ) (id : Hash) (rest : References)
    → IsStrictlySortedBy name_cmp (keys_of (refs ++ (name, id) ∷ rest))
    → insert_entry name_cmp refs name id ≡ refs ++ (name, id) ∷ []
unfolding IsStrictlySortedBy
insert_entry-last [] name id rest sorted = refl
insert_entry-last (ref ∷ refs) name id rest sorted =
    let below : name_cmp ref.0 name ≡ Less =
    midst (λ (q : List ℕ). name_cmp ref.0 q ≡ Less) refs name id rest sorted.0 in
    let above : name_cmp name ref.0 ≡ Greater =
    names_total.antisymm name ref.0 ∙ ap ordering_reverse below in
    rw above (ap (λ (r : References). ref ∷ r) (insert_entry-last refs name id rest sorted.1))

-- so a copy that takes one name more, in their order, still makes the whole with what is left
pub copies_more : (so_far rest all made : References) (copied name : List ℕ) (id : Hash)
    → so_far ++ (name, id) ∷ rest ≡ all → IsStrictlySortedBy name_cmp (keys_of all)
    → copied ≡ name → made ≡ insert_entry name_cmp so_far copied id → made ++ rest ≡ all
copies_more so_far rest all made copied name id whole sorted same put =
    let here : IsStrictlySortedBy name_cmp (keys_of (so_far ++ (name, id) ∷ rest)) =
    subst (λ (r : References). IsStrictlySortedBy name_cmp (keys_of r)) (sym whole) sorted in
    let made_is : made ≡ so_far ++ (name, id) ∷ [] =
    put ∙ ap (λ (n : List ℕ). insert_entry name_cmp so_far n id) same
    ∙ insert_entry-last so_far name id rest here in
    ap (λ (r : References). r ++ rest) made_is ∙ append_assoc so_far ((name, id) ∷ []) rest ∙ whole

-- the first of those that are not below the bytes is the least of them
pub first_is_least : (m : BTreeMap (List ℕ) Hash) (bytes : List ℕ) (first : List ℕ × Hash)
    (rest : References) → IsRefMap m.entries
    → IsRangeOf name_cmp (Included bytes) Unbounded m (first ∷ rest)
    → IsLeastFrom m.entries bytes first.0
first_is_least m bytes first rest map range = record {
  there = ap is_some range.1.1;
  named = map.named first.0 (ap is_some range.1.1);
  behind = range.1.0.0;
  least = λ other there behind. range.2 other (behind, tt) there;
}

-- where none is there, all are below
pub none_is_behind : (m : BTreeMap (List ℕ) Hash) (bytes : List ℕ)
    → IsRangeOf name_cmp (Included bytes) Unbounded m [] → AllBelow m.entries bytes
none_is_behind m bytes range name there = ⊎_elim
    (λ t. less_from_gt bytes name t)
    (λ f. absurd (let none : ref_at m.entries name ≡ None = range.5 refl name (f, tt) in
    let gone : is_some (ref_at m.entries name) ≡ false = ap is_some none in cc))
    (cases_Bool (is_gt (name_cmp bytes name)))
