-- The rows of references: what the changes of an effect say of them, and which they name.
use Rattle.std.proofs.Common.{◌≡◌, ◌&&◌, ◌||◌, ℕ, zero, suc, slice_get, List, [], ◌∷◌, ◌++◌, true, false, cond, Bool, Option, Some, None, refl, sym, ap, ◌∙◌, subst, ◌⊎◌, ⊎_elim, inl, inr}
use Rattle.std.specs.List.{AllByRecursion}
use Rattle.std.specs.List.Sorted.{IsStrictlySortedBy}
use Rattle.std.specs.Map.{keys_of}
use Rattle.std.specs.Option.{IsSome, is_some, unwrap_or}
use Rattle.std.specs.Ordering.{is_eq}
use Rattle.std.specs.declared.cmp.Ordering.TheVariants.{Less}
use Rattle.std.proofs.lemmas.Bool.{and_from, cases_Bool, cond-true, cond-false, false_from_ne_true}
use Rattle.px_base.specs.Hash.{is_zero, same_hash, same_hash-Decides, zero_hash}
use Rattle.px_base.specs.RefList.{References, is_name, name_cmp, ref_at}
use Rattle.px_base.specs.RepoPath.{IsRepoPath}
use Rattle.px_base.specs.declared.hash.Hash.{Hash}
use Rattle.px_base.specs.declared.push.Update.{Update}
use Rattle.refstore.proofs.After.{Ascends, after_fits, after_others}
use Rattle.refstore.specs.declared.prepared.RefRefusal.{RefRefusal}
use Rattle.refstore.specs.declared.prepared.RefRefusal.TheVariants.{Void, Twice, Stale}
use Rattle.refstore.specs.Updates.{Fits, after, first_fault, given, have, is_among, names_of, update_fault}
use Rattle.px_keeper.specs.Change.{Names, row_in}
use Rattle.px_keeper.specs.Row.{row_key}
use Rattle.node_calls.proofs.OptionLemmas.{no_first, no_second}
use Rattle.node_rows.proofs.RowLemmas.{Names-back, Names-front, Says, Says-ref, all_append}
use Rattle.node_calls.specs.ReplicaState.{NodeState}
use Rattle.node_rows.specs.Rows.{under}
use Rattle.node_rows.specs.Writes.{gone_changes, names, put_changes, ref_change, refs_changes, update_changes}
use Rattle.refstore.proofs.Names.{one_name, names_laws}

none_of : {A : Type 0} (o : Option A) → is_some o ≡ false → o ≡ None
none_of None t = refl
none_of (Some x) t = absurd (cc)

row_in-ref : (path name : List ℕ) (id : Option Hash)
    → row_in (ref_change path name id) ≡ row_key 7 (under path name)
row_in-ref path name None = refl
row_in-ref path name (Some id) = refl

-- ---- updates that are done

-- what is not nothing, and has this object where the zero name stands for nothing, has it
given_from_have : (update : Update) (o : Option Hash) → unwrap_or o zero_hash ≡ update.new
    → is_zero update.new ≡ false → o ≡ given update
given_from_have update None is some = absurd (
    let zero_ : is_zero update.new ≡ true =
    (same_hash-Decides update.new zero_hash).1 (sym is) in
    cc)
given_from_have update (Some id) is some =
    ap Some is ∙ sym (cond-false (is_zero update.new) None (Some update.new) some)

-- where an update is not at fault, and gives its name the object that it had, the name has it
kept_one : (refs : References) (before : List (List ℕ)) (update : Update)
    → update_fault refs before update ≡ None → same_hash update.new update.old ≡ true
    → ref_at refs update.name ≡ given update
kept_one refs before update none same =
    at (is_zero update.old && is_zero update.new) refl (is_among update.name before)
    (same_hash (have refs update.name) update.old) refl none
  where
    is : update.new ≡ update.old
    is = (same_hash-Decides update.new update.old).0 same

    some : (is_zero update.old && is_zero update.new) ≡ false → is_zero update.new ≡ false
    some not_void = false_from_ne_true (is_zero update.new) (λ t. absurd (
        let old_zero : is_zero update.old ≡ true = ap is_zero (sym is) ∙ t in
        let both : (is_zero update.old && is_zero update.new) ≡ true =
        and_from (is_zero update.old) (is_zero update.new) old_zero t in
        cc))

    at : (void : Bool) → (is_zero update.old && is_zero update.new) ≡ void → (twice alike : Bool)
        → same_hash (have refs update.name) update.old ≡ alike
        → cond {A = Option RefRefusal} void (Some (Void update.name))
        (cond twice (Some (Twice update.name))
        (cond alike None (Some (Stale update.name (have refs update.name))))) ≡ None
        → ref_at refs update.name ≡ given update
    at true v twice alike a none = absurd (cc)
    at false v true alike a none = absurd (cc)
    at false v false false a none = absurd (cc)
    at false v false true a none =
        given_from_have update (ref_at refs update.name)
        ((same_hash-Decides (have refs update.name) update.old).0 a ∙ sym is) (some v)

kept_each : (refs : References) (before : List (List ℕ)) (updates : List Update)
    → first_fault refs before updates ≡ None → (at : ℕ) (update : Update)
    → slice_get updates at ≡ Some update → same_hash update.new update.old ≡ true
    → ref_at refs update.name ≡ given update
kept_each refs before [] none at update stands same = absurd (cc)
kept_each refs before (first ∷ updates) none zero update stands same =
    let is : first ≡ update = cc in
    subst (λ (u : Update). same_hash u.new u.old ≡ true → ref_at refs u.name ≡ given u) is
    (kept_one refs before first (no_first (update_fault refs before first) _ none)) same
kept_each refs before (first ∷ updates) none (suc at) update stands same =
    kept_each refs (before ++ first.name ∷ []) updates
    (no_second (update_fault refs before first) _ none) at update stands same

kept_fits : (refs : References) (updates : List Update) → Fits updates refs → (at : ℕ)
    (update : Update) → slice_get updates at ≡ Some update
    → same_hash update.new update.old ≡ true → ref_at refs update.name ≡ given update
kept_fits refs [] fits at update stands = absurd (cc)
kept_fits refs (first ∷ updates) fits at update stands =
    kept_each refs [] (first ∷ updates)
    (no_first (first_fault refs [] (first ∷ updates)) _ fits) at update stands

-- each update that changes a reference names its row; one that changes none leaves it as it is
updates_rest : (path : List ℕ) (Same : List ℕ → Type 0) (updates : List Update) (name : List ℕ)
    → ((at : ℕ) (update : Update) → slice_get updates at ≡ Some update
    → same_hash update.new update.old ≡ true → Same update.name)
    → is_among name (names_of updates) ≡ true
    → Names (update_changes path updates) (row_key 7 (under path name)) ⊎ Same name
updates_rest path Same [] name kept among = absurd (cc)
updates_rest path Same (update ∷ updates) name kept among =
    at (is_name name update.name) refl (same_hash update.new update.old) refl among
    (updates_rest path Same updates name (λ i u is. kept (suc i) u is))
  where
    at : (b : Bool) → is_name name update.name ≡ b → (c : Bool)
        → same_hash update.new update.old ≡ c → (b || is_among name (names_of updates)) ≡ true
        → (is_among name (names_of updates) ≡ true
        → Names (update_changes path updates) (row_key 7 (under path name)) ⊎ Same name)
        → Names (cond c (update_changes path updates)
        (ref_change path update.name (given update) ∷ update_changes path updates))
        (row_key 7 (under path name)) ⊎ Same name
    at true here true same among rest =
        inr (subst Same (sym (one_name name update.name here)) (kept zero update refl same))
    at true here false apart among rest =
        inl (inl (row_in-ref path update.name (given update)
        ∙ ap (λ (q : List ℕ). row_key 7 (under path q)) (sym (one_name name update.name here))))
    at false there true same among rest = rest among
    at false there false apart among rest =
        ⊎_elim (λ named. inl (inr named)) (λ same. inr same) (rest among)

pub updates_name : (path : List ℕ) (refs : References) (updates : List Update) → Ascends refs
    → Fits updates refs → (name : List ℕ)
    → Names (update_changes path updates) (row_key 7 (under path name))
    ⊎ (ref_at (after refs updates) name ≡ ref_at refs name)
updates_name path refs updates ascends fits name =
    ⊎_elim
    (λ among. updates_rest path
    (λ (q : List ℕ). ref_at (after refs updates) q ≡ ref_at refs q) updates name
    (λ at update stands same. after_fits refs updates ascends fits at update stands
    ∙ sym (kept_fits refs updates fits at update stands same)) among)
    (λ apart. inr (after_others refs updates ascends name apart))
    (cases_Bool (is_among name (names_of updates)))

-- ---- references that take the place of others

-- a name of a list whose names ascend has what stands with it
later_at : (first : List ℕ × Hash) (rest some : References)
    → AllByRecursion (λ (ref : List ℕ × Hash). ref_at rest ref.0 ≡ Some ref.1) some
    → AllByRecursion (λ (q : List ℕ). name_cmp first.0 q ≡ Less) (keys_of some)
    → AllByRecursion (λ (ref : List ℕ × Hash). ref_at (first ∷ rest) ref.0 ≡ Some ref.1) some
later_at first rest [] all above = tt
later_at first rest (ref ∷ some) all above = (
  cond-false (is_name ref.0 first.0) (Some first.1) (ref_at rest ref.0)
      (names_laws.symm ref.0 first.0 ∙ ap is_eq above.0) ∙ all.0,
  later_at first rest some all.1 above.1,
)

each_at : (refs : References) → Ascends refs
    → AllByRecursion (λ (ref : List ℕ × Hash). ref_at refs ref.0 ≡ Some ref.1) refs
unfolding IsStrictlySortedBy
each_at [] ascends = tt
each_at (ref ∷ refs) ascends = (
  cond-true (is_name ref.0 ref.0) (Some ref.1) (ref_at refs ref.0) (names_laws.refl ref.0),
  later_at ref refs refs (each_at refs ascends.1) ascends.0,
)

-- a name that has this object
names_is : (o : Option Hash) (id : Hash) → names o id ≡ true → o ≡ Some id
names_is None id is = absurd (cc)
names_is (Some other) id is = ap Some ((same_hash-Decides other id).0 is)

module _ (path : List ℕ) where
  -- a name that goes is named
  gone_named : (refs old : References) (name : List ℕ) → IsSome (ref_at old name)
      → is_some (ref_at refs name) ≡ false
      → Names (gone_changes path refs old) (row_key 7 (under path name))
  gone_named refs [] name there none = absurd (cc)
  gone_named refs (ref ∷ old) name there none =
      at (is_name name ref.0) refl (is_some (ref_at refs ref.0)) refl there
      (λ later. gone_named refs old name later none)
    where
      at : (b : Bool) → is_name name ref.0 ≡ b → (c : Bool) → is_some (ref_at refs ref.0) ≡ c
          → IsSome (cond b (Some ref.1) (ref_at old name))
          → (IsSome (ref_at old name)
          → Names (gone_changes path refs old) (row_key 7 (under path name)))
          → Names (cond c (gone_changes path refs old)
          (ref_change path ref.0 None ∷ gone_changes path refs old)) (row_key 7 (under path name))
      at true here true stays there rest = absurd (
          let still : is_some (ref_at refs name) ≡ true =
          ap (λ (q : List ℕ). is_some (ref_at refs q)) (one_name name ref.0 here) ∙ stays in
          cc)
      at true here false goes there rest =
          inl (ap (λ (q : List ℕ). row_key 7 (under path q)) (sym (one_name name ref.0 here)))
      at false other true stays there rest = rest there
      at false other false goes there rest = inr (rest there)

  -- and so is one that comes to name another object
  put_named : (old some : References) (name : List ℕ) (id : Hash) → ref_at some name ≡ Some id
      → names (ref_at old name) id ≡ false
      → Names (put_changes path old some) (row_key 7 (under path name))
  put_named old [] name id has differs = absurd (cc)
  put_named old (ref ∷ some) name id has differs =
      at (is_name name ref.0) refl (names (ref_at old ref.0) ref.1) refl has
      (λ later. put_named old some name id later differs)
    where
      at : (b : Bool) → is_name name ref.0 ≡ b → (c : Bool) → names (ref_at old ref.0) ref.1 ≡ c
          → cond b (Some ref.1) (ref_at some name) ≡ Some id
          → (ref_at some name ≡ Some id
          → Names (put_changes path old some) (row_key 7 (under path name)))
          → Names (cond c (put_changes path old some)
          (ref_change path ref.0 (Some ref.1) ∷ put_changes path old some))
          (row_key 7 (under path name))
      at true here true same has rest = absurd (
          let one : ref.1 ≡ id = cc in
          let still : names (ref_at old name) id ≡ true =
          ap (names (ref_at old name)) (sym one)
          ∙ ap (λ (q : List ℕ). names (ref_at old q) ref.1) (one_name name ref.0 here) ∙ same in
          cc)
      at true here false differs has rest =
          inl (ap (λ (q : List ℕ). row_key 7 (under path q)) (sym (one_name name ref.0 here)))
      at false other true same has rest = rest has
      at false other false differs has rest = inr (rest has)

  -- so each name is named, or has what it had
  pub refs_name : (old refs : References) (name : List ℕ)
      → Names (refs_changes path old refs) (row_key 7 (under path name))
      ⊎ (ref_at refs name ≡ ref_at old name)
  refs_name old refs name = at (ref_at refs name) refl
    where
      at : (o : Option Hash) → ref_at refs name ≡ o
          → Names (refs_changes path old refs) (row_key 7 (under path name))
          ⊎ (ref_at refs name ≡ ref_at old name)
      at None none = ⊎_elim
          (λ there. inl (Names-front (gone_changes path refs old) (put_changes path old refs)
          (row_key 7 (under path name)) (gone_named refs old name there (ap is_some none))))
          (λ apart. inr (none ∙ sym (none_of (ref_at old name) apart)))
          (cases_Bool (is_some (ref_at old name)))
      at (Some id) has = ⊎_elim
          (λ same. inr (has ∙ sym (names_is (ref_at old name) id same)))
          (λ differs. inl (Names-back (gone_changes path refs old) (put_changes path old refs)
          (row_key 7 (under path name)) (put_named old refs name id has differs)))
          (cases_Bool (names (ref_at old name) id))

-- ---- what the changes say

module _ (node : NodeState) (path : List ℕ) (lawful : IsRepoPath path) where
  updates_each : (updates : List Update)
      → ((at : ℕ) (update : Update) → slice_get updates at ≡ Some update
      → ref_at (node path).refs update.name ≡ given update)
      → AllByRecursion (Says node) (update_changes path updates)
  updates_each [] gives = tt
  updates_each (update ∷ updates) gives =
      at (same_hash update.new update.old) (updates_each updates (λ i u is. gives (suc i) u is))
    where
      at : (b : Bool) → AllByRecursion (Says node) (update_changes path updates)
          → AllByRecursion (Says node) (cond b (update_changes path updates)
          (ref_change path update.name (given update) ∷ update_changes path updates))
      at true rest = rest
      at false rest = (
        Says-ref node path lawful update.name (given update) (sym (gives zero update refl)),
        rest,
      )

  pub updates_say : (refs : References) (updates : List Update) → Ascends refs → Fits updates refs
      → (node path).refs ≡ after refs updates
      → AllByRecursion (Says node) (update_changes path updates)
  updates_say refs updates ascends fits is =
      updates_each updates (λ at update stands.
      ap (λ (r : References). ref_at r update.name) is
      ∙ after_fits refs updates ascends fits at update stands)

  gone_say : (old : References)
      → AllByRecursion (Says node) (gone_changes path (node path).refs old)
  gone_say [] = tt
  gone_say (ref ∷ old) = at (is_some (ref_at (node path).refs ref.0)) refl (gone_say old)
    where
      at : (b : Bool) → is_some (ref_at (node path).refs ref.0) ≡ b
          → AllByRecursion (Says node) (gone_changes path (node path).refs old)
          → AllByRecursion (Says node) (cond b (gone_changes path (node path).refs old)
          (ref_change path ref.0 None ∷ gone_changes path (node path).refs old))
      at true stays rest = rest
      at false goes rest = (
        Says-ref node path lawful ref.0 None (sym (none_of (ref_at (node path).refs ref.0) goes)),
        rest,
      )

  put_say : (old some : References)
      → AllByRecursion (λ (ref : List ℕ × Hash). ref_at (node path).refs ref.0 ≡ Some ref.1) some
      → AllByRecursion (Says node) (put_changes path old some)
  put_say old [] all = tt
  put_say old (ref ∷ some) all = at (names (ref_at old ref.0) ref.1) (put_say old some all.1)
    where
      at : (b : Bool) → AllByRecursion (Says node) (put_changes path old some)
          → AllByRecursion (Says node) (cond b (put_changes path old some)
          (ref_change path ref.0 (Some ref.1) ∷ put_changes path old some))
      at true rest = rest
      at false rest = (Says-ref node path lawful ref.0 (Some ref.1) (sym all.0), rest)

  pub refs_say : (old refs : References) → Ascends refs → (node path).refs ≡ refs
      → AllByRecursion (Says node) (refs_changes path old refs)
  refs_say old refs ascends is =
      let here : Ascends (node path).refs = subst Ascends (sym is) ascends in
      subst (λ (r : References). AllByRecursion (Says node) (refs_changes path old r)) is
      (all_append (Says node) (gone_changes path (node path).refs old)
      (put_changes path old (node path).refs) (gone_say old)
      (put_say old (node path).refs (each_at (node path).refs here)))
