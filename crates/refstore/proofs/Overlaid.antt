-- References with changes over them: what each name has, and the first name from some bytes on.
use denote.Ref.{Bor}
use Rattle.std.proofs.Common.{◌≡◌, ◌+◌, ◌≤◌, ℕ, List, [], ◌∷◌, true, false, not, Bool, cond, Option, Some, None, refl, sym, ap, ◌∙◌, subst, ⊎_elim, inl, inr, ◌⊎◌, length, arith}
use Rattle.std.specs.BTreeMap.{insert_entry, is_at}
use Rattle.std.specs.Map.{remove_entry, values_of}
use Rattle.std.specs.Prelude.{MatchOption}
use Rattle.std.specs.List.{fold, sum_by}
use Rattle.std.specs.Option.{IsSome, is_some, option_map, unwrap_or}
use Rattle.std.specs.Ordering.{is_gt, is_lt, ordering_reverse}
use Rattle.std.specs.declared.cmp.Ordering.{Ordering}
use Rattle.std.specs.declared.cmp.Ordering.TheVariants.{Less, Equal, Greater}
use Rattle.std.proofs.lemmas.Cmp.{upto}
use Rattle.std.proofs.lemmas.Map.Entries.{sum_by-insert_entry, sum_by-remove_entry}
use Rattle.px_base.specs.Hash.{is_zero}
use Rattle.px_base.specs.RefList.{References, is_name, name_cmp, ref_at}
use Rattle.px_base.specs.RefName.{IsRefName}
use Rattle.px_base.specs.declared.hash.Hash.{Hash}
use Rattle.px_base.specs.declared.push.Update.{Update}
use Rattle.refstore.proofs.After.{Ascends, ascends-updated, ref_at-set, ref_at-updated}
use Rattle.refstore.proofs.Alike.{one_map}
use Rattle.refstore.proofs.Names.{names_laws, names_total}
use Rattle.refstore.proofs.RefLists.{some_of}
use Rattle.refstore.specs.Planned.{overlaid}
use Rattle.refstore.specs.RefMap.{AllBelow, IsLeastFrom, IsLeastPassing, IsRefMap, NonePasses, is_outside, is_set}
use Rattle.refstore.specs.Updates.{creation, given, updated}

-- ---- what each name has

-- a change decides; where there is none, it is as it was
abbrev pub decided : Option Hash → Option Hash → Option Hash
decided None was = was
decided (Some id) was = cond (is_zero id) None (Some id)

pub ascends-overlaid : (refs changes : References) → Ascends refs → Ascends (overlaid refs changes)
ascends-overlaid refs [] ascends = ascends
ascends-overlaid refs (change ∷ changes) ascends =
    ascends-updated (overlaid refs changes) (creation change.0 change.1)
    (ascends-overlaid refs changes ascends)

pub ref_at-overlaid : (refs changes : References) → Ascends refs → (q : List ℕ)
    → ref_at (overlaid refs changes) q ≡ decided (ref_at changes q) (ref_at refs q)
ref_at-overlaid refs [] ascends q = refl
ref_at-overlaid refs (change ∷ changes) ascends q =
    ref_at-updated (overlaid refs changes) (creation change.0 change.1)
    (ascends-overlaid refs changes ascends) q
    ∙ ap (λ (o : Option Hash). cond (is_name change.0 q) (given (creation change.0 change.1)) o)
    (ref_at-overlaid refs changes ascends q)
    ∙ ap (λ (b : Bool). cond {A = Option Hash} b (given (creation change.0 change.1))
    (decided (ref_at changes q) (ref_at refs q))) (names_laws.symm change.0 q)
    ∙ at (is_name q change.0)
  where
    at : (b : Bool) → cond b (given (creation change.0 change.1))
        (decided (ref_at changes q) (ref_at refs q))
        ≡ decided (cond b (Some change.1) (ref_at changes q)) (ref_at refs q)
    at true = refl
    at false = refl

-- one change more is an update more
pub overlaid-set : (refs changes : References) (update : Update) → Ascends refs → Ascends changes
    → overlaid refs (insert_entry name_cmp changes update.name update.new)
    ≡ updated (overlaid refs changes) update
overlaid-set refs changes update ascends sorted =
    one_map (overlaid refs (insert_entry name_cmp changes update.name update.new))
    (updated (overlaid refs changes) update)
    (ascends-overlaid refs (insert_entry name_cmp changes update.name update.new) ascends)
    (ascends-updated (overlaid refs changes) update (ascends-overlaid refs changes ascends))
    (λ q. ref_at-overlaid refs (insert_entry name_cmp changes update.name update.new) ascends q
    ∙ ap (λ (o : Option Hash). decided o (ref_at refs q))
    (ref_at-set update.name update.new changes q)
    ∙ at q (is_name update.name q)
    ∙ ap (λ (o : Option Hash). cond (is_name update.name q) (given update) o)
    (sym (ref_at-overlaid refs changes ascends q))
    ∙ sym (ref_at-updated (overlaid refs changes) update (ascends-overlaid refs changes ascends) q))
  where
    at : (q : List ℕ) (b : Bool) → decided (cond b (Some update.new) (ref_at changes q)) (ref_at refs q)
        ≡ cond b (given update) (decided (ref_at changes q) (ref_at refs q))
    at q true = refl
    at q false = refl

-- each name is one, where those of both are
pub IsRefMap-overlaid : (refs changes : References) → IsRefMap refs → IsRefMap changes
    → IsRefMap (overlaid refs changes)
IsRefMap-overlaid refs changes map more = record {
  ordered = ascends-overlaid refs changes map.ordered;
  named = λ name there. at name (ref_at changes name) refl
      (sym (ap is_some (ref_at-overlaid refs changes map.ordered name)) ∙ there);
}
  where
    at : (name : List ℕ) (o : Option Hash) → ref_at changes name ≡ o
        → is_some (decided o (ref_at refs name)) ≡ true → IsRefName name
    at name None is there = map.named name there
    at name (Some id) is there = more.named name (ap is_some is)

-- ---- how many there are

abbrev one : Hash → ℕ
one id = 1

counted_on : (refs : References) (n : ℕ)
    → fold (λ (so_far : ℕ) (id : Hash). so_far + one id) n (values_of refs) ≡ n + length refs
counted_on [] n = omega arith
counted_on (ref ∷ refs) n = counted_on refs (n + 1) ∙ omega arith

length_is_sum : (refs : References) → length refs ≡ sum_by one (values_of refs)
length_is_sum refs =
    let none : 0 + length refs ≡ length refs = omega arith in
    sym (counted_on refs 0 ∙ none)

weight : (o : Option Hash) → unwrap_or (option_map one o) 0 ≡ cond (is_some o) 1 0
weight None = refl
weight (Some id) = refl

pub length-updated : (refs : References) (update : Update) → Ascends refs
    → length (updated refs update) + cond (is_some (ref_at refs update.name)) 1 0
    ≡ length refs + cond (is_zero update.new) 0 1
length-updated refs update ascends = at (is_zero update.new)
  where
    at : (b : Bool) → length (cond b (remove_entry (is_at (name_cmp update.name)) refs)
        (insert_entry name_cmp refs update.name update.new))
        + cond (is_some (ref_at refs update.name)) 1 0 ≡ length refs + cond b 0 1
    at true = omega (
      arith,
      length_is_sum (remove_entry (is_at (name_cmp update.name)) refs),
      length_is_sum refs,
      weight (ref_at refs update.name),
      sum_by-remove_entry one (is_at (name_cmp update.name)) refs,
    )
    at false = omega (
      arith,
      length_is_sum (insert_entry name_cmp refs update.name update.new),
      length_is_sum refs,
      weight (ref_at refs update.name),
      sum_by-insert_entry one names_total refs update.name update.new ascends,
    )

turned : (b : Bool) → cond {A = ℕ} (not b) 1 0 ≡ cond b 0 1
turned true = refl
turned false = refl

at_most_one : (b : Bool) → cond {A = ℕ} b 0 1 ≤ 1
at_most_one true = omega arith
at_most_one false = omega arith

module _ (refs changes more whole : References) (update : Update) (ascends : Ascends refs)
    (sorted : Ascends changes) (view : overlaid refs changes ≡ whole)
    (sets : more ≡ insert_entry name_cmp changes update.name update.new) where
  same_as : overlaid refs more ≡ updated (overlaid refs changes) update
  same_as = ap (overlaid refs) sets ∙ overlaid-set refs changes update ascends sorted

  pub update_is : overlaid refs more ≡ updated whole update
  update_is = same_as ∙ ap (λ (r : References). updated r update) view

  size : length (overlaid refs more) + cond (is_some (ref_at (overlaid refs changes) update.name)) 1 0
      ≡ length (overlaid refs changes) + cond (is_zero update.new) 0 1
  size =
      ap (λ (r : References).
      length r + cond (is_some (ref_at (overlaid refs changes) update.name)) 1 0) same_as
      ∙ length-updated (overlaid refs changes) update (ascends-overlaid refs changes ascends)

  -- it is one reference more at most
  pub one_at_most : length (overlaid refs more) ≤ length whole + 1
  one_at_most = omega (arith, size, at_most_one (is_zero update.new), ap length view)

  -- and as many as were counted
  pub counted_is : (count result : ℕ) (had zero_ : Bool) → count ≡ length (overlaid refs changes)
      → had ≡ is_some (ref_at whole update.name) → zero_ ≡ is_zero update.new
      → result + cond had 1 0 ≡ count + cond (not zero_) 1 0 → result ≡ length (overlaid refs more)
  counted_is count result had zero_ counts has test adds =
      let there : cond {A = ℕ} had 1 0
      ≡ cond (is_some (ref_at (overlaid refs changes) update.name)) 1 0 =
      ap (λ (b : Bool). cond {A = ℕ} b 1 0)
      (has ∙ ap (λ (r : References). is_some (ref_at r update.name)) (sym view)) in
      let gives : cond {A = ℕ} (not zero_) 1 0 ≡ cond (is_zero update.new) 0 1 =
      turned zero_ ∙ ap (λ (b : Bool). cond {A = ℕ} b 0 1) test in
      omega (arith, size, there, gives, counts, adds)

-- ---- the first name from some bytes on

module _ (refs changes : References) (bytes : List ℕ) (map : IsRefMap refs) (more : IsRefMap changes)
  where
    abbrev done : References
    done = overlaid refs changes

    outside_none : (o : Option Hash) → not (is_some o) ≡ true → o ≡ None
    outside_none None e = refl
    outside_none (Some id) e = absurd (cc)

    kept_there : (q : List ℕ) (id : Hash) → ref_at refs q ≡ Some id → is_outside changes q id ≡ true
        → IsSome (ref_at done q)
    kept_there q id has outside =
        ap is_some (ref_at-overlaid refs changes map.ordered q
        ∙ ap (λ (o : Option Hash). decided o (ref_at refs q)) (outside_none (ref_at changes q) outside)
        ∙ has)

    set_some : (b : Bool) (id : Hash) → not b ≡ true → is_some (cond b None (Some id)) ≡ true
    set_some true id e = absurd (cc)
    set_some false id e = refl

    set_there : (q : List ℕ) (id : Hash) → ref_at changes q ≡ Some id → is_set q id ≡ true
        → IsSome (ref_at done q)
    set_there q id has set =
        ap is_some (ref_at-overlaid refs changes map.ordered q
        ∙ ap (λ (o : Option Hash). decided o (ref_at refs q)) has)
        ∙ set_some (is_zero id) id set

    -- what is there was kept, or was set
    record WasKept (q : List ℕ) : Type 0 where
      id : Hash
      has : ref_at refs q ≡ Some id
      outside : is_outside changes q id ≡ true

    record IsSetAt (q : List ℕ) : Type 0 where
      id : Hash
      has : ref_at changes q ≡ Some id
      set : is_set q id ≡ true

    not_zero : (b : Bool) (id : Hash) → is_some (cond b None (Some id)) ≡ true → not b ≡ true
    not_zero true id e = absurd (cc)
    not_zero false id e = refl

    which : (q : List ℕ) → IsSome (ref_at done q) → WasKept q ⊎ IsSetAt q
    which q there =
        at (ref_at changes q) refl (sym (ap is_some (ref_at-overlaid refs changes map.ordered q)) ∙ there)
      where
        at : (o : Option Hash) → ref_at changes q ≡ o → is_some (decided o (ref_at refs q)) ≡ true
            → WasKept q ⊎ IsSetAt q
        at None is there_ =
            let some = some_of (ref_at refs q) there_ in
            inl (record { id = some.0; has = some.1; outside = rw is refl })
        at (Some id) is there_ =
            inr (record { id = id; has = is; set = not_zero (is_zero id) id there_ })

    abbrev Behind : List ℕ → Type 0
    Behind q = is_gt (name_cmp bytes q) ≡ false

    -- what is below the bytes is not behind them
    not_below : (q : List ℕ) → name_cmp q bytes ≡ Less → Behind q → ⊥
    not_below q below behind =
        let above : is_gt (name_cmp bytes q) ≡ true =
        ap is_gt (names_total.antisymm bytes q ∙ ap ordering_reverse below) in
        absurd (cc)

    -- the least of all is no greater than any that was kept, nor any that was set
    least_of : (name : List ℕ) → IsSome (ref_at done name) → Behind name
        → ((q : List ℕ) → WasKept q → Behind q → is_gt (name_cmp name q) ≡ false)
        → ((q : List ℕ) → IsSetAt q → Behind q → is_gt (name_cmp name q) ≡ false)
        → IsLeastFrom done bytes name
    least_of name there behind kept set = record {
      there = there;
      named = (IsRefMap-overlaid refs changes map more).named name there;
      behind = behind;
      least = λ other is behind_. ⊎_elim
          (λ k. kept other k behind_)
          (λ s. set other s behind_)
          (which other is);
    }

    abbrev LeastKept : List ℕ → Type 0
    LeastKept name = IsLeastPassing refs (is_outside changes) bytes name

    abbrev LeastSet : List ℕ → Type 0
    LeastSet name = IsLeastPassing changes is_set bytes name

    pub least_kept : (kept set : List ℕ) → LeastKept kept → LeastSet set
        → is_gt (name_cmp kept set) ≡ false → IsLeastFrom done bytes kept
    least_kept kept set k s below =
        least_of kept (kept_there kept k.id k.has k.passes) k.behind
        (λ q was behind. k.least q was.id was.has was.outside behind)
        (λ q is behind. upto names_total kept set q below (s.least q is.id is.has is.set behind))

    pub least_set : (kept set : List ℕ) → LeastKept kept → LeastSet set
        → is_gt (name_cmp set kept) ≡ false → IsLeastFrom done bytes set
    least_set kept set k s below =
        least_of set (set_there set s.id s.has s.passes) s.behind
        (λ q was behind. upto names_total set kept q below (k.least q was.id was.has was.outside behind))
        (λ q is behind. s.least q is.id is.has is.set behind)

    pub least_kept_alone : (kept : List ℕ) → LeastKept kept → NonePasses changes is_set bytes
        → IsLeastFrom done bytes kept
    least_kept_alone kept k none =
        least_of kept (kept_there kept k.id k.has k.passes) k.behind
        (λ q was behind. k.least q was.id was.has was.outside behind)
        (λ q is behind. absurd (not_below q (none q is.id is.has is.set) behind))

    pub least_set_alone : (set : List ℕ) → NonePasses refs (is_outside changes) bytes → LeastSet set
        → IsLeastFrom done bytes set
    least_set_alone set none s =
        least_of set (set_there set s.id s.has s.passes) s.behind
        (λ q was behind. absurd (not_below q (none q was.id was.has was.outside) behind))
        (λ q is behind. s.least q is.id is.has is.set behind)

    pub all_below : NonePasses refs (is_outside changes) bytes → NonePasses changes is_set bytes
        → AllBelow done bytes
    all_below none_kept none_set q there = ⊎_elim
        (λ k. none_kept q k.id k.has k.outside)
        (λ s. none_set q s.id s.has s.set)
        (which q there)

-- ---- what the readers of the code tell

shown : (b : Bool) (id : Hash) → not b ≡ is_some (cond b None (Some id))
shown true id = refl
shown false id = refl

module _ (refs changes whole : References) (ascends : Ascends refs)
    (is : overlaid refs changes ≡ whole) (q : List ℕ) (found : Option Hash)
    (reads : found ≡ ref_at changes q) where
  has_then : decided found (ref_at refs q) ≡ ref_at whole q
  has_then =
      ap (λ (o : Option Hash). decided o (ref_at refs q)) reads
      ∙ sym (ref_at-overlaid refs changes ascends q)
      ∙ ap (λ (r : References). ref_at r q) is

  -- a name that is changed is there where it is set
  pub told_changed : (id : Hash) → found ≡ Some id → (zero : Bool) → zero ≡ is_zero id
      → not zero ≡ is_some (ref_at whole q)
  told_changed id some zero test =
      ap not test ∙ shown (is_zero id) id
      ∙ ap (λ (o : Option Hash). is_some (decided o (ref_at refs q))) (sym some)
      ∙ ap is_some has_then

  -- and another one where it was
  pub told_unchanged : found ≡ None → (there : Bool) → there ≡ is_some (ref_at refs q)
      → there ≡ is_some (ref_at whole q)
  told_unchanged none there test =
      test ∙ ap (λ (o : Option Hash). is_some (decided o (ref_at refs q))) (sym none)
      ∙ ap is_some has_then

-- the first is before the second, or it is not
before : (o : Ordering) → is_lt o ≡ true → is_gt o ≡ false
before Less e = refl
before Equal e = absurd (cc)
before Greater e = absurd (cc)

not_before : (o : Ordering) → is_lt o ≡ false → is_gt (ordering_reverse o) ≡ false
not_before Less e = absurd (cc)
not_before Equal e = refl
not_before Greater e = refl

module _ (refs changes whole : References) (bytes : List ℕ) (map : IsRefMap refs)
    (more : IsRefMap changes) (is : overlaid refs changes ≡ whole)
    (kept set : Option (Bor (List ℕ)))
    (told_kept : MatchOption kept (NonePasses refs (is_outside changes) bytes)
    (λ name. IsLeastPassing refs (is_outside changes) bytes name.now))
    (told_set : MatchOption set (NonePasses changes is_set bytes)
    (λ name. IsLeastPassing changes is_set bytes name.now)) where
  abbrev Kept : Option (Bor (List ℕ)) → Type 0
  Kept found = MatchOption found (NonePasses refs (is_outside changes) bytes)
      (λ name. IsLeastPassing refs (is_outside changes) bytes name.now)

  abbrev IsSet : Option (Bor (List ℕ)) → Type 0
  IsSet found = MatchOption found (NonePasses changes is_set bytes)
      (λ name. IsLeastPassing changes is_set bytes name.now)

  of_whole : (name : List ℕ) → IsLeastFrom (overlaid refs changes) bytes name
      → IsLeastFrom whole bytes name
  of_whole name least = subst (λ (r : References). IsLeastFrom r bytes name) is least

  -- of both, the one that was set is before
  pub first_set_is : (k s : Bor (List ℕ)) → kept ≡ Some k → set ≡ Some s
      → is_lt (name_cmp s.now k.now) ≡ true → IsLeastFrom whole bytes s.now
  first_set_is k s is_k is_s below =
      of_whole s.now (least_set refs changes bytes map more k.now s.now
      (subst Kept is_k told_kept) (subst IsSet is_s told_set) (before (name_cmp s.now k.now) below))

  -- or it is not
  pub first_kept_is : (k s : Bor (List ℕ)) → kept ≡ Some k → set ≡ Some s
      → is_lt (name_cmp s.now k.now) ≡ false → IsLeastFrom whole bytes k.now
  first_kept_is k s is_k is_s above =
      of_whole k.now (least_kept refs changes bytes map more k.now s.now
      (subst Kept is_k told_kept) (subst IsSet is_s told_set)
      (ap is_gt (names_total.antisymm k.now s.now) ∙ not_before (name_cmp s.now k.now) above))

  -- only one was kept
  pub only_kept_is : (k : Bor (List ℕ)) → kept ≡ Some k → set ≡ None → IsLeastFrom whole bytes k.now
  only_kept_is k is_k is_s =
      of_whole k.now (least_kept_alone refs changes bytes map more k.now
      (subst Kept is_k told_kept) (subst IsSet is_s told_set))

  -- none was kept
  pub only_set_is : kept ≡ None
      → MatchOption set (AllBelow whole bytes) (λ name. IsLeastFrom whole bytes name.now)
  only_set_is is_k = at set told_set
    where
      at : (found : Option (Bor (List ℕ))) → IsSet found
          → MatchOption found (AllBelow whole bytes) (λ name. IsLeastFrom whole bytes name.now)
      at None none =
          subst (λ (r : References). AllBelow r bytes) is
          (all_below refs changes bytes map more (subst Kept is_k told_kept) none)
      at (Some s) least =
          of_whole s.now (least_set_alone refs changes bytes map more s.now
          (subst Kept is_k told_kept) least)
