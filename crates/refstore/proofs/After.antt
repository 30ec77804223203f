-- References after some updates: what each name has then.
use Rattle.std.proofs.Common.{◌≡◌, ◌||◌, suc, zero, slice_get, ℕ, List, [], ◌∷◌, ◌++◌, true, false, cond, Bool, Option, Some, None, refl, sym, ap, ◌∙◌, subst, ◌⊎◌, ⊎_elim, inl, inr}
use Rattle.std.specs.BTreeMap.{insert_entry, is_at}
use Rattle.std.specs.List.{AllByRecursion}
use Rattle.std.specs.List.Sorted.{IsStrictlySortedBy}
use Rattle.std.specs.Map.{keys_of, lookup, remove_entry}
use Rattle.std.specs.Ordering.{is_eq, match_ordering, ordering_reverse}
use Rattle.std.specs.declared.cmp.Ordering.{Ordering}
use Rattle.std.specs.declared.cmp.Ordering.TheVariants.{Less, Equal, Greater}
use Rattle.std.proofs.lemmas.Bool.{cond-false, cond-true, false_from_ne_true, or_left, or_right}
use Rattle.std.proofs.lemmas.List.Folds.{list_any-append}
use Rattle.std.proofs.lemmas.Map.{lookup-remove_entry}
use Rattle.std.proofs.lemmas.Map.Keys.{IsDistinct-from_sorted}
use Rattle.std.proofs.lemmas.Map.Steps.{list_any_congr}
use Rattle.std.specs.Option.{option_or}
use Rattle.px_base.specs.Hash.{is_zero}
use Rattle.px_base.specs.RefList.{References, is_name, name_cmp, ref_at}
use Rattle.px_base.specs.declared.hash.Hash.{Hash}
use Rattle.px_base.specs.declared.push.Update.{Update}
use Rattle.refstore.proofs.Names.{names_laws, names_total, one_name}
use Rattle.refstore.specs.declared.prepared.RefRefusal.{RefRefusal}
use Rattle.refstore.specs.declared.prepared.RefRefusal.TheVariants.{Void, Twice, Stale}
use Rattle.refstore.specs.Updates.{Fits, after, first_fault, given, is_among, names_of, update_fault, updated}

-- the names ascend
abbrev pub Ascends : References → Type 0
Ascends refs = IsStrictlySortedBy name_cmp (keys_of refs)

-- where neither of two is, the first is not, and the second is not
pub or_first : (a b : Bool) → (a || b) ≡ false → a ≡ false
or_first false b e = refl
or_first true b e = e

pub or_second : (a b : Bool) → (a || b) ≡ false → b ≡ false
or_second false b e = e
or_second true b e = absurd (cc)

pub or_both : (a b : Bool) → a ≡ false → b ≡ false → (a || b) ≡ false
or_both a b f g = rw (f, g) refl

-- a choice made again is made alike, and two that exclude each other may change places
cond_again : (b : Bool) (x y z : Option Hash) → cond b x z ≡ cond b x (cond b y z)
cond_again true x y z = refl
cond_again false x y z = refl

pub cond_swap : (b d : Bool) (x y z : Option Hash) → (b ≡ true → d ≡ true → ⊥)
    → cond b x (cond d y z) ≡ cond d y (cond b x z)
cond_swap true true x y z apart = absurd (apart refl refl)
cond_swap true false x y z apart = refl
cond_swap false true x y z apart = refl
cond_swap false false x y z apart = refl

module _ (name : List ℕ) (id : Hash) where
  -- ---- a name is set

  -- what holds of all names, and of this one, holds of all names then
  all_set : (P : List ℕ → Type 0) (refs : References) → AllByRecursion P (keys_of refs) → P name
      → AllByRecursion P (keys_of (insert_entry name_cmp refs name id))
  all_set P [] all here = (here, tt)
  all_set P (ref ∷ refs) all here = at (all_set P refs all.1 here) (name_cmp name ref.0)
    where
      at : AllByRecursion P (keys_of (insert_entry name_cmp refs name id)) → (o : Ordering)
          → AllByRecursion P (keys_of (match_ordering o ((name, id) ∷ ref ∷ refs)
          ((ref.0, id) ∷ refs) (ref ∷ insert_entry name_cmp refs name id)))
      at rest Less = (here, all)
      at rest Equal = all
      at rest Greater = (all.0, rest)

  -- each that is above the one is above what is below that
  all_above : (least : List ℕ) (names : List (List ℕ)) → name_cmp name least ≡ Less
      → AllByRecursion (λ (q : List ℕ). name_cmp least q ≡ Less) names
      → AllByRecursion (λ (q : List ℕ). name_cmp name q ≡ Less) names
  all_above least [] below all = tt
  all_above least (q ∷ names) below all =
      (names_total.trans name least q below all.0, all_above least names below all.1)

  pub ascends_set : (refs : References) → Ascends refs → Ascends (insert_entry name_cmp refs name id)
  unfolding IsStrictlySortedBy
  ascends_set [] ascends = (tt, tt)
  ascends_set (ref ∷ refs) ascends = at (ascends_set refs ascends.1) (name_cmp name ref.0) refl
    where
      at : Ascends (insert_entry name_cmp refs name id) → (o : Ordering) → name_cmp name ref.0 ≡ o
          → IsStrictlySortedBy name_cmp (keys_of (match_ordering o ((name, id) ∷ ref ∷ refs)
          ((ref.0, id) ∷ refs) (ref ∷ insert_entry name_cmp refs name id)))
      at rest Less is = ((is, all_above ref.0 (keys_of refs) is ascends.0), ascends)
      at rest Equal is = ascends
      at rest Greater is = (
        all_set (λ (q : List ℕ). name_cmp ref.0 q ≡ Less) refs ascends.0
            (names_total.antisymm ref.0 name ∙ ap ordering_reverse is),
        rest,
      )

  -- it has the object then, and each other name what it had
  pub ref_at-set : (refs : References) (q : List ℕ)
      → ref_at (insert_entry name_cmp refs name id) q ≡ cond (is_name name q) (Some id) (ref_at refs q)
  ref_at-set [] q = ap (λ (b : Bool). cond {A = Option Hash} b (Some id) None) (names_laws.symm q name)
  ref_at-set (ref ∷ refs) q = at (ref_at-set refs q) (name_cmp name ref.0) refl
    where
      at : ref_at (insert_entry name_cmp refs name id) q
          ≡ cond (is_name name q) (Some id) (ref_at refs q)
          → (o : Ordering) → name_cmp name ref.0 ≡ o
          → lookup (is_name q) (match_ordering o ((name, id) ∷ ref ∷ refs)
          ((ref.0, id) ∷ refs) (ref ∷ insert_entry name_cmp refs name id))
          ≡ cond (is_name name q) (Some id) (lookup (is_name q) (ref ∷ refs))
      at rest Less is =
          ap (λ (b : Bool). cond {A = Option Hash} b (Some id) (lookup (is_name q) (ref ∷ refs)))
          (names_laws.symm q name)
      at rest Equal is =
          let same : is_name q ref.0 ≡ is_name name q =
          names_laws.symm q ref.0 ∙ sym (names_laws.congr name ref.0 q (ap is_eq is)) in
          ap (λ (b : Bool). cond {A = Option Hash} b (Some id) (lookup (is_name q) refs)) same
          ∙ cond_again (is_name name q) (Some id) (Some ref.1) (lookup (is_name q) refs)
          ∙ ap (λ (b : Bool). cond {A = Option Hash} (is_name name q) (Some id)
          (cond {A = Option Hash} b (Some ref.1) (lookup (is_name q) refs))) (sym same)
      at rest Greater is =
          ap (λ (o : Option Hash). cond {A = Option Hash} (is_name q ref.0) (Some ref.1) o) rest
          ∙ cond_swap (is_name q ref.0) (is_name name q) (Some ref.1) (Some id)
          (lookup (is_name q) refs)
          (λ here there. absurd (
          let one : is_name name ref.0 ≡ true =
          names_laws.congr name q ref.0 there ∙ here in
          let apart : is_name name ref.0 ≡ false = ap is_eq is in
          cc))

  -- ---- a name is taken away

  all_gone : (P : List ℕ → Type 0) (refs : References) → AllByRecursion P (keys_of refs)
      → AllByRecursion P (keys_of (remove_entry (is_at (name_cmp name)) refs))
  all_gone P [] all = tt
  all_gone P (ref ∷ refs) all = at (all_gone P refs all.1) (is_at (name_cmp name) ref.0)
    where
      at : AllByRecursion P (keys_of (remove_entry (is_at (name_cmp name)) refs)) → (b : Bool)
          → AllByRecursion P (keys_of (cond b refs
          (ref ∷ remove_entry (is_at (name_cmp name)) refs)))
      at rest true = all.1
      at rest false = (all.0, rest)

  pub ascends_gone : (refs : References) → Ascends refs
      → Ascends (remove_entry (is_at (name_cmp name)) refs)
  unfolding IsStrictlySortedBy
  ascends_gone [] ascends = tt
  ascends_gone (ref ∷ refs) ascends =
      at (ascends_gone refs ascends.1) (is_at (name_cmp name) ref.0)
    where
      at : Ascends (remove_entry (is_at (name_cmp name)) refs) → (b : Bool) → IsStrictlySortedBy name_cmp (keys_of (cond b refs
          (ref ∷ remove_entry (is_at (name_cmp name)) refs)))
      at rest true = ascends.1
      at rest false = (all_gone (λ (q : List ℕ). name_cmp ref.0 q ≡ Less) refs ascends.0, rest)

  pub ref_at-gone : (refs : References) → Ascends refs → (q : List ℕ)
      → ref_at (remove_entry (is_at (name_cmp name)) refs) q ≡ cond (is_name name q) None (ref_at refs q)
  ref_at-gone refs ascends q =
      lookup-remove_entry names_laws (is_at (name_cmp name))
      (λ x y t. names_laws.congr name x y t) q refs
      (IsDistinct-from_sorted name_cmp (keys_of refs) ascends)

-- ---- an update is done, and a list of them

pub ascends-updated : (refs : References) (update : Update) → Ascends refs → Ascends (updated refs update)
ascends-updated refs update ascends = at (is_zero update.new)
  where
    at : (b : Bool) → Ascends (cond b (remove_entry (is_at (name_cmp update.name)) refs)
        (insert_entry name_cmp refs update.name update.new))
    at true = ascends_gone update.name update.new refs ascends
    at false = ascends_set update.name update.new refs ascends

pub ref_at-updated : (refs : References) (update : Update) → Ascends refs → (q : List ℕ)
    → ref_at (updated refs update) q ≡ cond (is_name update.name q) (given update) (ref_at refs q)
ref_at-updated refs update ascends q = at (is_zero update.new)
  where
    at : (b : Bool) → ref_at (cond b (remove_entry (is_at (name_cmp update.name)) refs)
        (insert_entry name_cmp refs update.name update.new)) q
        ≡ cond (is_name update.name q) (cond b None (Some update.new)) (ref_at refs q)
    at true = ref_at-gone update.name update.new refs ascends q
    at false = ref_at-set update.name update.new refs q

pub ascends-after : (refs : References) (updates : List Update) → Ascends refs
    → Ascends (after refs updates)
ascends-after refs [] ascends = ascends
ascends-after refs (update ∷ updates) ascends =
    ascends-after (updated refs update) updates (ascends-updated refs update ascends)

-- the update is one of the list
abbrev pub Stands : List Update → Update → Type 0
Stands [] update = ⊥
Stands (first ∷ updates) update = (first ≡ update) ⊎ Stands updates update

-- one of the updates sets the name to this object, which is not the zero name
pub record Sets (updates : List Update) (name : List ℕ) (id : Hash) : Type 0 where
  pub update : Update
  pub stands : Stands updates update
  pub named : update.name ≡ name
  pub gives : update.new ≡ id
  pub some : is_zero update.new ≡ false

-- what a name has after the updates it had before them, or one of them set it
pub after_cases : (refs : References) (updates : List Update) → Ascends refs → (q : List ℕ)
    (id : Hash) → ref_at (after refs updates) q ≡ Some id
    → (ref_at refs q ≡ Some id) ⊎ Sets updates q id
after_cases refs [] ascends q id has = inl has
after_cases refs (update ∷ updates) ascends q id has =
    ⊎_elim (λ before. first before) (λ (s : Sets updates q id). inr (record {
      update = s.update;
      stands = inr s.stands;
      named = s.named;
      gives = s.gives;
      some = s.some;
    }))
    (after_cases (updated refs update) updates (ascends-updated refs update ascends) q id has)
  where
    set_here : (b : Bool) → is_zero update.new ≡ b → update.name ≡ q
        → cond {A = Option Hash} b None (Some update.new) ≡ Some id
        → (ref_at refs q ≡ Some id) ⊎ Sets (update ∷ updates) q id
    set_here true gone named is = absurd (cc)
    set_here false some named is = inr (record {
      update = update;
      stands = inl refl;
      named = named;
      gives = cc;
      some = some;
    })

    by_name : (b : Bool) → is_name update.name q ≡ b
        → cond {A = Option Hash} b (given update) (ref_at refs q) ≡ Some id
        → (ref_at refs q ≡ Some id) ⊎ Sets (update ∷ updates) q id
    by_name true same is = set_here (is_zero update.new) refl (one_name update.name q same) is
    by_name false apart is = inl is

    first : ref_at (updated refs update) q ≡ Some id
        → (ref_at refs q ≡ Some id) ⊎ Sets (update ∷ updates) q id
    first before =
        by_name (is_name update.name q) refl (sym (ref_at-updated refs update ascends q) ∙ before)

-- ---- each name has what the list gives it

-- what no update names stays
pub after_others : (refs : References) (updates : List Update) → Ascends refs → (q : List ℕ)
    → is_among q (names_of updates) ≡ false → ref_at (after refs updates) q ≡ ref_at refs q
after_others refs [] ascends q apart = refl
after_others refs (update ∷ updates) ascends q apart =
    let here : is_name update.name q ≡ false =
    names_laws.symm update.name q ∙ or_first (is_name q update.name) _ apart in
    after_others (updated refs update) updates (ascends-updated refs update ascends) q
    (or_second (is_name q update.name) _ apart)
    ∙ ref_at-updated refs update ascends q
    ∙ cond-false (is_name update.name q) (given update) (ref_at refs q) here

-- an update whose name no later one has gives it what it has
after_first : (refs : References) (update : Update) (updates : List Update) → Ascends refs
    → is_among update.name (names_of updates) ≡ false
    → ref_at (after (updated refs update) updates) update.name ≡ given update
after_first refs update updates ascends apart =
    after_others (updated refs update) updates (ascends-updated refs update ascends) update.name apart
    ∙ ref_at-updated refs update ascends update.name
    ∙ cond-true (is_name update.name update.name) (given update) (ref_at refs update.name)
    (names_laws.refl update.name)

-- where no update is at fault, none names what stood before
pub none_first : (a b : Option RefRefusal) → option_or a b ≡ None → a ≡ None
none_first None b is = refl
none_first (Some e) b is = absurd (cc)

pub none_second : (a b : Option RefRefusal) → option_or a b ≡ None → b ≡ None
none_second None b is = is
none_second (Some e) b is = absurd (cc)

pub not_twice : (void twice same : Bool) (name : List ℕ) (have : Hash)
    → cond void (Some (Void name)) (cond twice (Some (Twice name))
    (cond same None (Some (Stale name have)))) ≡ None → twice ≡ false
not_twice true twice same name have is = absurd (cc)
not_twice false true same name have is = absurd (cc)
not_twice false false same name have is = refl

pub apart_from_before : (refs : References) (before : List (List ℕ)) (updates : List Update) (q : List ℕ)
    → first_fault refs before updates ≡ None → is_among q before ≡ true
    → is_among q (names_of updates) ≡ false
apart_from_before refs before [] q none among = refl
apart_from_before refs before (update ∷ updates) q none among =
    let first = none_first (update_fault refs before update) _ none in
    let fresh : is_among update.name before ≡ false =
    not_twice _ (is_among update.name before) _ update.name _ first in
    let here : is_name q update.name ≡ false = false_from_ne_true _ (λ same. absurd (
    let stood : is_among update.name before ≡ true =
    sym (list_any_congr names_laws q update.name before same) ∙ among in
    cc)) in
    let later = apart_from_before refs (before ++ update.name ∷ []) updates q
    (none_second (update_fault refs before update) _ none)
    (list_any-append (is_name q) before (update.name ∷ []) ∙ or_left _ _ among) in
    or_both (is_name q update.name) _ here later

pub after_listed : (refs : References) (before : List (List ℕ)) (updates : List Update)
    → Ascends refs → (kept : References) → first_fault kept before updates ≡ None → (at : ℕ)
    (update : Update) → slice_get updates at ≡ Some update
    → ref_at (after refs updates) update.name ≡ given update
after_listed refs before [] ascends kept none at update stands = absurd (cc)
after_listed refs before (first ∷ updates) ascends kept none zero update stands =
    let same : first ≡ update = cc in
    subst (λ (u : Update). ref_at (after refs (first ∷ updates)) u.name ≡ given u) same
    (after_first refs first updates ascends
    (apart_from_before kept (before ++ first.name ∷ []) updates first.name
    (none_second (update_fault kept before first) _ none)
    (list_any-append (is_name first.name) before (first.name ∷ [])
    ∙ or_right _ _ (or_left _ _ (names_laws.refl first.name)))))
after_listed refs before (first ∷ updates) ascends kept none (suc at) update stands =
    after_listed (updated refs first) (before ++ first.name ∷ []) updates
    (ascends-updated refs first ascends) kept
    (none_second (update_fault kept before first) _ none) at update stands

pub after_fits : (refs : References) (updates : List Update) → Ascends refs → Fits updates refs
    → (at : ℕ) (update : Update) → slice_get updates at ≡ Some update
    → ref_at (after refs updates) update.name ≡ given update
after_fits refs [] ascends fits at update stands = absurd (cc)
after_fits refs (first ∷ updates) ascends fits at update stands =
    after_listed refs [] (first ∷ updates) ascends refs
    (none_first (first_fault refs [] (first ∷ updates)) _ fits) at update stands
