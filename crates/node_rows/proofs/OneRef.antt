-- A reference that is created: when it may be, and which references there are then.
use Rattle.std.proofs.Common.{◌&&◌, ◌≡◌, ◌≤◌, ◌<◌, ℕ, List, [], ◌∷◌, ◌++◌, length, true, false, cond, Bool, Option, Some, None, IsSome, is_some, refl, sym, ap, ◌∙◌, subst, ◌⊎◌, ⊎_elim, inl, inr, arith, length-append}
use Rattle.std.specs.List.{AllByRecursion}
use Rattle.std.specs.List.Sorted.{IsStrictlySortedBy}
use Rattle.std.specs.Map.{keys_of}
use Rattle.std.specs.Option.{option_map, option_or, unwrap_or}
use Rattle.std.specs.Prelude.{nat_lt}
use Rattle.std.proofs.lemmas.Bool.{and_cases, and_right, cond-false, cond-true, false_from_ne_true, false≢true, le-ltb, or_cases, or_from}
use Rattle.std.proofs.lemmas.Map.Entries.{length-keys_of}
use Rattle.std.proofs.lemmas.Map.Keys.{IsDistinct-cons, IsDistinct-from_sorted}
use Rattle.std.proofs.lemmas.Map.Steps.{length-le_from_keys}
use Rattle.px_base.specs.Hash.{is_zero, same_hash, same_hash-Decides, zero_hash}
use Rattle.px_base.specs.RefList.{IsRefList, References, is_in_conflict, is_name, is_under, name_cmp, ref_at}
use Rattle.px_base.specs.RefName.{IsRefName}
use Rattle.px_base.specs.declared.hash.Hash.{Hash}
use Rattle.px_base.specs.declared.push.Update.{Update}
use Rattle.refstore.proofs.After.{ascends-after, ref_at-updated}
use Rattle.refstore.proofs.Least.{find-none, there_from_among}
use Rattle.refstore.proofs.Names.{names_laws, one_name}
use Rattle.refstore.proofs.Under.{Begins-from_test}
use Rattle.refstore.specs.Updates.{Fits, after, creation, first_fault, have, is_among, least_conflict, too_many, update_conflict, update_fault}
use Rattle.refstore.specs.declared.prepared.RefRefusal.{RefRefusal}
use Rattle.refstore.specs.declared.prepared.RefRefusal.TheVariants.{Conflict, Stale, TooManyRefs, Twice, Void}
use Rattle.node_calls.proofs.OptionLemmas.{no_first}
use Rattle.node_calls.proofs.UpdateLemmas.{IsRefList-fits}

-- ---- names

-- no name is under itself
not_under : (name : List ℕ) → is_under name name ≡ false
not_under name = false_from_ne_true (is_under name name) (λ t.
    let begins = Begins-from_test name (name ++ 47 ∷ []) t in
    absurd (omega (arith, length-append {A = ℕ}, ap length begins.is)))

-- and so none is in conflict with itself
not_with_itself : (name : List ℕ) → is_in_conflict name name ≡ false
not_with_itself name = or_from _ _ (not_under name) (not_under name)

-- ---- refusals

-- where none of three causes holds, there is none
no_cause : (a b c : Option RefRefusal) → a ≡ None → b ≡ None → c ≡ None
    → option_or (option_or a None) (option_or (option_or b None) c) ≡ None
no_cause a b c first second third = rw (first, second) third

-- and where there is none, the update is not void, and not stale
not_at_fault : (void twice alike : Bool) (a b c : RefRefusal)
    → cond void (Some a) (cond twice (Some b) (cond alike None (Some c))) ≡ None
    → (void ≡ false) × (alike ≡ true)
not_at_fault true twice alike a b c none = absurd (cc)
not_at_fault false true alike a b c none = absurd (cc)
not_at_fault false false true a b c none = (refl, refl)
not_at_fault false false false a b c none = absurd (cc)

-- the zero name is the zero name
zero_is_zero : is_zero zero_hash ≡ true
zero_is_zero = (same_hash-Decides zero_hash zero_hash).1 refl

module _ (refs : References) (name : List ℕ) (id : Hash) (lawful : IsRefList refs) where
  -- the references afterwards
  abbrev pub done : References
  done = after refs (creation name id ∷ [])

  -- ---- what is there then

  -- the name has the object, and each other what it had
  pub ref_at-created : is_zero id ≡ false → (q : List ℕ)
      → ref_at done q ≡ cond (is_name name q) (Some id) (ref_at refs q)
  ref_at-created some q = ref_at-updated refs (creation name id) lawful.ordered q
      ∙ ap (λ (o : Option Hash). cond (is_name name q) o (ref_at refs q))
      (cond-false (is_zero id) None (Some id) some)

  -- ---- when it may be created

  module _ (some : is_zero id ≡ false) (absent : ref_at refs name ≡ None)
      (apart : (q : List ℕ) → IsSome (ref_at refs q) → is_in_conflict name q ≡ false)
      (few : length refs < 32768) where
    -- the update is not at fault
    no_fault : update_fault refs [] (creation name id) ≡ None
    no_fault =
        cond-false (is_zero zero_hash && is_zero id) (Some (Void name))
        (cond (same_hash (have refs name) zero_hash) None (Some (Stale name (have refs name))))
        (and_right (is_zero zero_hash) (is_zero id) some)
        ∙ cond-true (same_hash (have refs name) zero_hash) None
        (Some (Stale name (have refs name)))
        ((same_hash-Decides (have refs name) zero_hash).1
        (ap (λ (o : Option Hash). unwrap_or o zero_hash) absent))

    -- the name is in conflict with none that is there then
    apart_then : (q : List ℕ) → IsSome (ref_at done q) → is_in_conflict name q ≡ false
    apart_then q there =
        at (is_name name q) refl (sym (ap is_some (ref_at-created some q)) ∙ there)
      where
        at : (b : Bool) → is_name name q ≡ b → IsSome (cond b (Some id) (ref_at refs q))
            → is_in_conflict name q ≡ false
        at true same there = subst (λ (n : List ℕ). is_in_conflict name n ≡ false)
            (one_name name q same) (not_with_itself name)
        at false differs there = apart q there

    -- so neither is the update
    no_conflict : update_conflict done (creation name id) ≡ None
    no_conflict = at (is_some (ref_at done name)) (least_conflict done name)
        (find-none (is_in_conflict name) (keys_of done)
        (λ q among. apart_then q (there_from_among done q among)))
      where
        at : (b : Bool) (least : Option (List ℕ)) → least ≡ None
            → cond b (option_map (Conflict name) least) None ≡ None
        at true least none = ap (option_map (Conflict name)) none
        at false least none = refl

    -- and the references are not too many
    not_too_many : length done ≤ 32768
    not_too_many = omega (
      arith,
      few,
      length-keys_of done,
      length-le_from_keys names_laws (keys_of done) ((name, id) ∷ refs)
          (IsDistinct-from_sorted name_cmp (keys_of done)
          (ascends-after refs (creation name id ∷ []) lawful.ordered))
          (λ q among.
          ap (λ (b : Bool). is_some (cond b (Some id) (ref_at refs q))) (names_laws.symm q name)
          ∙ sym (ap is_some (ref_at-created some q)) ∙ there_from_among done q among),
    )

    -- so it may be created
    pub Fits-creation : Fits (creation name id ∷ []) refs
    Fits-creation = no_cause (update_fault refs [] (creation name id))
        (update_conflict done (creation name id)) (too_many done) no_fault no_conflict
        (cond-false (nat_lt 32768 (length done)) (Some TooManyRefs) None
        (le-ltb 32768 (length done) not_too_many))

  -- ---- where it may be

  module _ (fits : Fits (creation name id ∷ []) refs) where
    -- the update is not void, and the name has no object
    fault_parts : ((is_zero zero_hash && is_zero id) ≡ false)
        × (same_hash (have refs name) zero_hash ≡ true)
    fault_parts = not_at_fault (is_zero zero_hash && is_zero id) (is_among name [])
        (same_hash (have refs name) zero_hash) (Void name) (Twice name)
        (Stale name (have refs name))
        (no_first (update_fault refs [] (creation name id)) _
        (no_first (first_fault refs [] (creation name id ∷ [])) _ fits))

    -- it does not name the zero name
    pub fits_some : is_zero id ≡ false
    fits_some = ⊎_elim (λ no. absurd (false≢true (sym no ∙ zero_is_zero))) (λ some. some)
        (and_cases (is_zero zero_hash) (is_zero id) fault_parts.0)

    module _ (named : IsRefName name) where
      -- a repository may have what there is then
      pub IsRefList-created : IsRefList done
      IsRefList-created = IsRefList-fits refs (creation name id ∷ []) lawful
          (λ update stands. ⊎_elim (λ same. subst (λ (u : Update). IsRefName u.name) same named)
          (λ none. absurd none) stands)
          fits

      -- the name is there then, and so is each that was
      there_then : (q : List ℕ) → (is_name name q ≡ true) ⊎ IsSome (ref_at refs q)
          → IsSome (ref_at done q)
      there_then q either = ap is_some (ref_at-created fits_some q) ∙ at (is_name name q) either
        where
          at : (b : Bool) → (b ≡ true) ⊎ IsSome (ref_at refs q)
              → is_some (cond b (Some id) (ref_at refs q)) ≡ true
          at true either = refl
          at false (inl same) = absurd (false≢true same)
          at false (inr there) = there

      -- the name is in conflict with none
      pub fits_apart : (q : List ℕ) → IsSome (ref_at refs q) → is_in_conflict name q ≡ false
      fits_apart q there = IsRefList-created.apart name q
          (there_then name (inl (names_laws.refl name))) (there_then q (inr there))

      -- and other names that are there are fewer than a repository may have
      pub fits_few : (others : List (List ℕ)) → IsStrictlySortedBy name_cmp others
          → AllByRecursion (λ q. is_name name q ≡ false) others
          → ((q : List ℕ) → is_among q others ≡ true → IsSome (ref_at refs q))
          → length others < 32768
      fits_few others sorted differ there = omega (
        arith,
        IsRefList-created.few,
        length-le_from_keys names_laws (name ∷ others) done
            (IsDistinct-cons is_name name others differ
            (IsDistinct-from_sorted name_cmp others sorted))
            (λ q among. there_then q (⊎_elim
            (λ same. inl (names_laws.symm name q ∙ same))
            (λ later. inr (there q later))
            (or_cases (is_name q name) (is_among q others) among))),
      )
