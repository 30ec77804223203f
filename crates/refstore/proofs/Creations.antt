-- The creation of one reference: why it is refused, and what it leaves.
use Rattle.std.proofs.Common.{◌≡◌, ◌+◌, ◌<◌, ◌≤◌, ℕ, List, [], ◌∷◌, ◌++◌, true, false, Bool, cond, Option, Some, None, refl, sym, ap, ◌∙◌, subst, length, length-append, arith}
use Rattle.std.specs.BTreeMap.{insert_entry, is_at}
use Rattle.std.specs.List.{find}
use Rattle.std.specs.Map.{keys_of, remove_entry}
use Rattle.std.specs.Option.{is_some, option_map, option_or}
use Rattle.std.specs.Ordering.{is_eq, match_ordering}
use Rattle.std.specs.Prelude.{nat_lt}
use Rattle.std.specs.declared.cmp.Ordering.{Ordering}
use Rattle.std.specs.declared.cmp.Ordering.TheVariants.{Less, Equal, Greater}
use Rattle.std.proofs.lemmas.Bool.{cond-false, cond-true, false_from_ne_true, lt-ltb, le-ltb}
use Rattle.px_base.specs.Hash.{is_zero}
use Rattle.px_base.specs.RefList.{References, IsRefList, is_in_conflict, is_name, is_under, name_cmp, ref_at}
use Rattle.px_base.specs.declared.hash.Hash.{Hash}
use Rattle.px_base.specs.declared.push.Update.{Update}
use Rattle.refstore.proofs.After.{ref_at-set}
use Rattle.refstore.proofs.Names.{names_laws}
use Rattle.refstore.proofs.RefLists.{IsRefList-after}
use Rattle.refstore.proofs.Under.{Begins-from_test}
use Rattle.refstore.specs.RefMap.{IsRefMap}
use Rattle.refstore.specs.Updates.{Fits, after, creation, least_conflict, refusal_of, too_many, update_conflict, update_fault}
use Rattle.refstore.specs.declared.prepared.RefRefusal.{RefRefusal}
use Rattle.refstore.specs.declared.prepared.RefRefusal.TheVariants.{Conflict, TooManyRefs}

-- ---- a name that is set

-- where it does not pass, the first name that passes stays
find-set : (test : List ℕ → Bool) (refs : References) (name : List ℕ) (id : Hash)
    → test name ≡ false
    → find test (keys_of (insert_entry name_cmp refs name id)) ≡ find test (keys_of refs)
find-set test [] name id fails = rw fails refl
find-set test (ref ∷ refs) name id fails =
    at (find-set test refs name id fails) (name_cmp name ref.0)
  where
    at : find test (keys_of (insert_entry name_cmp refs name id)) ≡ find test (keys_of refs)
        → (o : Ordering) → find test (keys_of (match_ordering o ((name, id) ∷ ref ∷ refs)
        ((ref.0, id) ∷ refs) (ref ∷ insert_entry name_cmp refs name id)))
        ≡ find test (keys_of (ref ∷ refs))
    at rest Less = rw fails refl
    at rest Equal = refl
    at rest Greater = ap (λ (found : Option (List ℕ)). cond (test ref.0) (Some ref.0) found) rest

-- where it was not there, that is one more
length-set : (refs : References) (name : List ℕ) (id : Hash) → ref_at refs name ≡ None
    → length (insert_entry name_cmp refs name id) ≡ length refs + 1
length-set [] name id absent = refl
length-set (ref ∷ refs) name id absent = at (length-set refs name id) (name_cmp name ref.0) absent
  where
    at : (ref_at refs name ≡ None
        → length (insert_entry name_cmp refs name id) ≡ length refs + 1)
        → (o : Ordering) → cond (is_eq o) (Some ref.1) (ref_at refs name) ≡ None
        → length (match_ordering o ((name, id) ∷ ref ∷ refs) ((ref.0, id) ∷ refs)
        (ref ∷ insert_entry name_cmp refs name id)) ≡ length (ref ∷ refs) + 1
    at rest Less none = omega arith
    at rest Equal none = absurd (cc)
    at rest Greater none = omega (arith, rest none)

-- no name is in conflict with itself: with a slash behind it, it is longer
itself_apart : (name : List ℕ) → is_in_conflict name name ≡ false
itself_apart name =
    let apart : is_under name name ≡ false =
    false_from_ne_true _ (λ under. absurd (
    let b = Begins-from_test name (name ++ 47 ∷ []) under in
    omega (
      arith,
      ap length b.is,
      length-append (name ++ 47 ∷ []) b.rest,
      length-append name (47 ∷ []),
    ))) in
    rw apart refl

-- nothing comes in the place of nothing
option_or-none : (o : Option RefRefusal) → option_or o None ≡ o
option_or-none None = refl
option_or-none (Some e) = refl

module _ (refs : References) (name : List ℕ) (id : Hash) (some : is_zero id ≡ false) where
  -- the references with the one more
  abbrev done : References
  done = insert_entry name_cmp refs name id

  -- its creation is to set it
  pub after-creation : after refs (creation name id ∷ []) ≡ done
  after-creation = cond-false (is_zero id) (remove_entry (is_at (name_cmp name)) refs) done some

  -- it is there then
  there : is_some (ref_at done name) ≡ true
  there = ap is_some (ref_at-set name id refs name
      ∙ cond-true (is_name name name) (Some id) (ref_at refs name) (names_laws.refl name))

  -- the least name that it is in conflict with is that of before
  update_conflict-creation : update_conflict done (creation name id)
      ≡ option_map (Conflict name) (least_conflict refs name)
  update_conflict-creation =
      cond-true _ (option_map (Conflict name) (least_conflict done name)) None there
      ∙ ap (option_map (Conflict name)) (find-set (is_in_conflict name) refs name id (itself_apart name))

  module _ (absent : ref_at refs name ≡ None) where
    -- where it was not there, the update by itself has no fault
    update_fault-creation : update_fault refs [] (creation name id) ≡ None
    update_fault-creation = rw (some, absent) refl

    -- so it is refused for a conflict, or as one too many
    refusal_of-creation : refusal_of refs (creation name id ∷ [])
        ≡ option_or (option_map (Conflict name) (least_conflict refs name)) (too_many done)
    refusal_of-creation =
        let update : Update = creation name id in
        ap (λ (r : References). option_or (option_or (update_fault refs [] update) None)
        (option_or (option_or (update_conflict r update) None) (too_many r))) after-creation
        ∙ ap (λ (o : Option RefRefusal). option_or (option_or o None)
        (option_or (option_or (update_conflict done update) None) (too_many done)))
        update_fault-creation
        ∙ ap (λ (o : Option RefRefusal). option_or o (too_many done))
        (option_or-none (update_conflict done update) ∙ update_conflict-creation)

    -- the least name that it is in conflict with is told
    pub refusal_of-conflict : (with_ : List ℕ) → least_conflict refs name ≡ Some with_
        → refusal_of refs (creation name id ∷ []) ≡ Some (Conflict name with_)
    refusal_of-conflict with_ is =
        refusal_of-creation
        ∙ ap (λ (o : Option (List ℕ)). option_or (option_map (Conflict name) o) (too_many done)) is

    module _ (apart : least_conflict refs name ≡ None) where
      -- where it is in conflict with none, the number decides
      refusal_of-apart : refusal_of refs (creation name id ∷ [])
          ≡ cond (nat_lt 32768 (length refs + 1)) (Some TooManyRefs) None
      refusal_of-apart =
          refusal_of-creation
          ∙ ap (λ (o : Option (List ℕ)). option_or (option_map (Conflict name) o) (too_many done))
          apart
          ∙ ap (λ (n : ℕ). cond (nat_lt 32768 n) (Some TooManyRefs) None)
          (length-set refs name id absent)

      -- where there are all that there may be, it is one too many
      pub refusal_of-many : 32768 ≤ length refs
          → refusal_of refs (creation name id ∷ []) ≡ Some TooManyRefs
      refusal_of-many full =
          refusal_of-apart
          ∙ cond-true _ (Some TooManyRefs) None (lt-ltb 32768 (length refs + 1) (omega arith))

      module _ (room : length refs < 32768) where
        -- where there is room, it may be done
        pub Fits-creation : Fits (creation name id ∷ []) refs
        Fits-creation =
            refusal_of-apart
            ∙ cond-false _ (Some TooManyRefs) None (le-ltb 32768 (length refs + 1) (omega arith))

        -- and the references stay such as a repository may have
        pub IsRefList-creation : IsRefList refs → IsRefMap done → IsRefList done
        IsRefList-creation lawful map =
            let update : Update = creation name id in
            let none : update_conflict done update ≡ None =
            update_conflict-creation ∙ ap (option_map (Conflict name)) apart in
            subst IsRefList after-creation
            (IsRefList-after refs (update ∷ []) lawful
            (subst IsRefMap (sym after-creation) map)
            (subst (λ (r : References). option_or (update_conflict r update) None ≡ None)
            (sym after-creation) (ap (λ (o : Option RefRefusal). option_or o None) none))
            (subst (λ (r : References). length r ≤ 32768) (sym after-creation)
            (omega (arith, length-set refs name id absent))))
