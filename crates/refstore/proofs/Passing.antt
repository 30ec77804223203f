-- The first name of a part of a map that passes a test with its object.
use Rattle.std.proofs.Common.{◌≡◌, ◌&&◌, ◌⊎◌, inl, inr, ℕ, List, [], ◌∷◌, true, false, Bool, cond, Option, Some, None, refl, sym, ap, ◌∙◌, subst, ⊎_elim}
use Rattle.std.specs.BTreeMap.Range.{range_contains}
use Rattle.std.specs.List.{filter, find}
use Rattle.std.specs.List.Sorted.{IsStrictlySortedBy}
use Rattle.std.specs.Map.{keys_of}
use Rattle.std.specs.Option.{is_some}
use Rattle.std.specs.Ordering.{is_eq, is_gt, is_le}
use Rattle.std.specs.declared.cmp.Ordering.{Ordering}
use Rattle.std.specs.declared.cmp.Ordering.TheVariants.{Less, Equal, Greater}
use Rattle.std.specs.declared.ops.Bound.TheVariants.{Included, Unbounded}
use Rattle.std.proofs.lemmas.Bool.{cases_Bool}
use Rattle.std.proofs.lemmas.Cmp.{tied_itself}
use Rattle.px_base.specs.RefList.{References, is_name, name_cmp, ref_at}
use Rattle.px_base.specs.declared.hash.Hash.{Hash}
use Rattle.refstore.proofs.Least.{all_among, among_from_there}
use Rattle.refstore.proofs.Names.{less_from_gt, names_laws, names_total, one_name}
use Rattle.refstore.specs.RefMap.{IsLeastPassing, NonePasses}

not_gt : (o : Ordering) → (is_le o && true) ≡ true → is_gt o ≡ false
not_gt Less e = refl
not_gt Equal e = refl
not_gt Greater e = absurd (cc)

is_above : (o : Ordering) → (is_le o && true) ≡ false → is_gt o ≡ true
is_above Less e = absurd (cc)
is_above Equal e = absurd (cc)
is_above Greater e = refl

not_above : (o : Ordering) → o ≡ Less → is_gt o ≡ false
not_above o e = ap is_gt e

module _ (test : List ℕ → Hash → Bool) (bytes : List ℕ) where
  -- an entry passes
  abbrev pub passes : List ℕ × Hash → Bool
  passes ref = test ref.0 ref.1

  -- its name is not below the bytes
  abbrev pub within : List ℕ × Hash → Bool
  within ref = range_contains name_cmp (Included bytes) Unbounded ref.0

  -- the part of a map from the bytes on
  abbrev pub part : References → References
  part refs = filter within refs

  -- where the first is not one that counts, the others decide
  skips : (ref : List ℕ × Hash) (refs : References)
      → ((within ref ≡ true) → passes ref ≡ false)
      → find passes (part (ref ∷ refs)) ≡ find passes (part refs)
  skips ref refs fails = ⊎_elim
      (λ t. let f : passes ref ≡ false = fails t in rw (t, f) refl)
      (λ f. rw f refl)
      (cases_Bool (within ref))

  takes : (ref : List ℕ × Hash) (refs : References) → within ref ≡ true → passes ref ≡ true
      → find passes (part (ref ∷ refs)) ≡ Some ref
  takes ref refs t p = rw (t, p) refl

  -- an entry counts, or it does not
  counts : (ref : List ℕ × Hash)
      → ((within ref ≡ true) × (passes ref ≡ true)) ⊎ ((within ref ≡ true) → passes ref ≡ false)
  counts ref = ⊎_elim
      (λ t. ⊎_elim (λ p. inl (t, p)) (λ f. inr (λ _. f)) (cases_Bool (passes ref)))
      (λ f. inr (λ t. absurd (cc)))
      (cases_Bool (within ref))

  -- where none is found, each that passes is below the bytes
  pub none_passes : (refs : References) → find passes (part refs) ≡ None → NonePasses refs test bytes
  none_passes [] none name id has passes_ = absurd (cc)
  none_passes (ref ∷ refs) none name id has passes_ = ⊎_elim
      (λ both. absurd (let some = takes ref refs both.0 both.1 in cc))
      (λ fails. at fails
      (λ is. none_passes refs (sym (skips ref refs fails) ∙ none) name id is passes_)
      (is_name name ref.0) refl has)
      (counts ref)
    where
      at : ((within ref ≡ true) → passes ref ≡ false)
          → (ref_at refs name ≡ Some id → name_cmp name bytes ≡ Less) → (b : Bool)
          → is_name name ref.0 ≡ b → cond b (Some ref.1) (ref_at refs name) ≡ Some id
          → name_cmp name bytes ≡ Less
      at fails later true same is =
          let here : name ≡ ref.0 = one_name name ref.0 same in
          let object : ref.1 ≡ id = cc in
          let passed : passes ref ≡ true =
          ap (λ (n : List ℕ). test n ref.1) (sym here) ∙ ap (test name) object ∙ passes_ in
          ⊎_elim
          (λ t. absurd (let f = fails t in cc))
          (λ f. less_from_gt bytes name
          (ap (λ (n : List ℕ). is_gt (name_cmp bytes n)) here ∙ is_above (name_cmp bytes ref.0) f))
          (cases_Bool (within ref))
      at fails later false apart is = later is

  -- a first entry that does not count leaves the least that was found behind it
  behind_first : (ref found : List ℕ × Hash) (refs : References)
      → IsStrictlySortedBy name_cmp (keys_of (ref ∷ refs))
      → ((within ref ≡ true) → passes ref ≡ false) → IsLeastPassing refs test bytes found.0
      → IsLeastPassing (ref ∷ refs) test bytes found.0
  unfolding IsStrictlySortedBy
  behind_first ref found refs sorted fails is = record {
    id = is.id;
    has = (
        let below : name_cmp ref.0 found.0 ≡ Less =
        all_among (λ (q : List ℕ). name_cmp ref.0 q ≡ Less) (keys_of refs) found.0 sorted.0
        (among_from_there refs found.0 (ap is_some is.has)) in
        let apart : is_name found.0 ref.0 ≡ false =
        names_laws.symm found.0 ref.0 ∙ ap is_eq below in
        ap (λ (b : Bool). cond {A = Option Hash} b (Some ref.1) (ref_at refs found.0)) apart ∙ is.has);
    passes = is.passes;
    behind = is.behind;
    least = λ other id has passes_ behind. at other id passes_ behind (is_name other ref.0) refl has;
  }
    where
      at : (other : List ℕ) (id : Hash) → test other id ≡ true → is_gt (name_cmp bytes other) ≡ false
          → (b : Bool) → is_name other ref.0 ≡ b
          → cond b (Some ref.1) (ref_at refs other) ≡ Some id → is_gt (name_cmp found.0 other) ≡ false
      at other id passes_ behind true same has =
          let here : other ≡ ref.0 = one_name other ref.0 same in
          let object : ref.1 ≡ id = cc in
          let passed : passes ref ≡ true =
          ap (λ (n : List ℕ). test n ref.1) (sym here) ∙ ap (test other) object ∙ passes_ in
          ⊎_elim
          (λ t. absurd (let f = fails t in cc))
          (λ f. absurd (let above : is_gt (name_cmp bytes other) ≡ true =
          ap (λ (n : List ℕ). is_gt (name_cmp bytes n)) here ∙ is_above (name_cmp bytes ref.0) f in cc))
          (cases_Bool (within ref))
      at other id passes_ behind false apart has = is.least other id has passes_ behind

  -- the one that is found is the least that passes
  pub found_least : (refs : References) (found : List ℕ × Hash)
      → IsStrictlySortedBy name_cmp (keys_of refs) → find passes (part refs) ≡ Some found
      → IsLeastPassing refs test bytes found.0
  unfolding IsStrictlySortedBy
  found_least [] found sorted is = absurd (cc)
  found_least (ref ∷ refs) found sorted is = ⊎_elim
      (λ both.
      let same : ref ≡ found = (let some = takes ref refs both.0 both.1 in cc) in
      subst (λ (f : List ℕ × Hash). IsLeastPassing (ref ∷ refs) test bytes f.0) same
      (first both.0 both.1))
      (λ fails. behind_first ref found refs sorted fails
      (found_least refs found sorted.1 (sym (skips ref refs fails) ∙ is)))
      (counts ref)
    where
      first : within ref ≡ true → passes ref ≡ true → IsLeastPassing (ref ∷ refs) test bytes ref.0
      first t p = record {
        id = ref.1;
        has = rw (names_laws.refl ref.0) refl;
        passes = p;
        behind = not_gt (name_cmp bytes ref.0) t;
        least = λ other id has passes_ behind. at other id (is_name other ref.0) refl has;
      }
        where
          at : (other : List ℕ) (id : Hash) → (b : Bool) → is_name other ref.0 ≡ b
              → cond b (Some ref.1) (ref_at refs other) ≡ Some id
              → is_gt (name_cmp ref.0 other) ≡ false
          at other id true same has =
              ap (λ (n : List ℕ). is_gt (name_cmp ref.0 n)) (one_name other ref.0 same)
              ∙ ap is_gt (tied_itself names_total ref.0)
          at other id false apart has =
              not_above (name_cmp ref.0 other)
              (all_among (λ (q : List ℕ). name_cmp ref.0 q ≡ Less) (keys_of refs) other sorted.0
              (among_from_there refs other (ap is_some has)))

-- ---- what a walk over a part of a map tells

module _ (test : List ℕ → Hash → Bool) (bytes : List ℕ) (refs whole all rest : References)
    (sorted : IsStrictlySortedBy name_cmp (keys_of refs)) (is : refs ≡ whole)
    (all_is : all ≡ part test bytes refs)
    (same : find (passes test bytes) rest ≡ find (passes test bytes) all) where
  -- the one at hand that passes is the least
  pub told_first : (ref : List ℕ × Hash) (more : References) → rest ≡ ref ∷ more
      → test ref.0 ref.1 ≡ true → IsLeastPassing whole test bytes ref.0
  told_first ref more here passes_ =
      subst (λ (r : References). IsLeastPassing r test bytes ref.0) is
      (found_least test bytes refs ref sorted
      (sym (ap (find (passes test bytes)) all_is) ∙ sym same ∙ ap (find (passes test bytes)) here
      ∙ ap (λ (b : Bool). cond {A = Option (List ℕ × Hash)} b (Some ref)
      (find (passes test bytes) more)) passes_))

  -- where no one is left, none passes
  pub told_none_passes : rest ≡ [] → NonePasses whole test bytes
  told_none_passes here =
      subst (λ (r : References). NonePasses r test bytes) is
      (none_passes test bytes refs
      (sym (ap (find (passes test bytes)) all_is) ∙ sym same ∙ ap (find (passes test bytes)) here))
