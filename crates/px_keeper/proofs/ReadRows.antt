-- The next row of a table: what was read before it, and what is read with it.
use Rattle.std.proofs.Common.{◌≡◌, ◌==◌, ◌&&◌, ◌||◌, ℕ, List, true, false, not, cond, Bool, Option, Some, None, IsSome, is_some, refl, sym, ap, ◌∙◌, subst, ⊎_elim, arith}
use Rattle.std.specs.Cmp.{IsEquivalence, IsTotalOrder, Equal-is, eq_by_cmp_equiv}
use Rattle.std.specs.Cmp.Lexicographic.{slice_cmp, nat_list_cmp_total}
use Rattle.std.specs.FinMap.{get}
use Rattle.std.specs.Prelude.{nat_lt}
use Rattle.std.specs.Ordering.{eq_by_cmp, is_eq, is_gt, nat_cmp, ordering_reverse, ordering_then}
use Rattle.std.specs.declared.cmp.Ordering.{Ordering}
use Rattle.std.specs.declared.cmp.Ordering.TheVariants.{Less, Equal, Greater}
use Rattle.std.proofs.lemmas.Bool.{and_from, and_right, cases_Bool, cond-false, cond-true, eq-eqb, eqb-true, false_from_ne_true, false≢true, le-ltb, not-false, or_from, or_right}
use Rattle.std.proofs.lemmas.Cmp.{tied_itself}
use Rattle.std.proofs.lemmas.Map.Lookups.{exact_bytes}
use Rattle.px_keeper.proofs.Rows.{one_row, rows_laws}
use Rattle.px_keeper.specs.FirstBad.{FirstBad}
use Rattle.px_keeper.specs.Keeper.{IsAbove, IsNext}
use Rattle.px_keeper.specs.Reading.{ReadTo, is_read, is_up_to, read_so_far}
use Rattle.px_keeper.specs.Row.{Rows, is_row, row_at, row_cmp, row_key}
use Rattle.px_keeper.specs.declared.row_key.RowKey.{RowKey}

-- ---- keys

-- the order of keys
abbrev key_cmp : List ℕ → List ℕ → Ordering
key_cmp = slice_cmp nat_cmp

-- it is total
keys_total : IsTotalOrder key_cmp
keys_total = nat_list_cmp_total

-- the two are one key
abbrev is_key : List ℕ → List ℕ → Bool
is_key = eq_by_cmp key_cmp

-- the test of keys is an equivalence
keys_laws : IsEquivalence is_key
keys_laws = eq_by_cmp_equiv keys_total

-- keys that pass it are one
one_key : (a b : List ℕ) → is_key a b ≡ true → a ≡ b
one_key a b same = exact_bytes a b ((Equal-is (key_cmp a b)).0 same)

-- what is above is not below
greater : (o : Ordering) → is_gt o ≡ true → ordering_reverse o ≡ Less
greater Less e = absurd (cc)
greater Equal e = absurd (cc)
greater Greater e = refl

-- a key that is not up to the last one is above it
pub above_from_not : (last : Option (List ℕ)) (key : List ℕ) → is_up_to last key ≡ false
    → IsAbove last key
above_from_not None key not_up = tt
above_from_not (Some last) key not_up =
    keys_total.antisymm last key ∙ greater (key_cmp key last) (not-false _ not_up)

-- and one above it is not up to it
pub not_up_to : (last : Option (List ℕ)) (key : List ℕ) → IsAbove last key
    → is_up_to last key ≡ false
not_up_to None key above = refl
not_up_to (Some last) key above = ap (λ (o : Ordering). not (is_gt o))
    (keys_total.antisymm key last ∙ ap ordering_reverse above)

-- what is above a key above the last one is above that
above_more : (last : Option (List ℕ)) (key other : List ℕ) → IsAbove last key
    → key_cmp key other ≡ Less → IsAbove last other
above_more None key other above more = tt
above_more (Some last) key other above more = keys_total.trans last key other above more

-- a key that is up to the last one is below one above that
pub below_next : (last : Option (List ℕ)) (other key : List ℕ) → is_up_to last other ≡ true
    → IsAbove last key → key_cmp other key ≡ Less
below_next None other key up_to above = absurd (false≢true up_to)
below_next (Some last) other key up_to above = at (key_cmp other last) refl up_to
  where
    at : (o : Ordering) → key_cmp other last ≡ o → not (is_gt o) ≡ true
        → key_cmp other key ≡ Less
    at Less less up_to = keys_total.trans other last key less above
    at Equal same up_to = keys_total.congr other last key same ∙ above
    at Greater greater up_to = absurd (false≢true up_to)

-- what is found where a test passes is found, and the test passes
pub found_where : (test : Bool) (there : Option (List ℕ)) (found : List ℕ)
    → cond test there None ≡ Some found → (test ≡ true) × (there ≡ Some found)
found_where true there found is = (refl, is)
found_where false there found is = absurd (cc)

-- a row is itself
pub is_same_row : (row other : RowKey) → row ≡ other → is_row row other ≡ true
is_same_row row other same = ap (is_row row) (sym same) ∙ rows_laws.refl row

-- ---- the rows before the next one

module _ (rows : Rows) (table : ℕ) (last : Option (List ℕ)) (key value : List ℕ)
    (next : IsNext rows table last key value) where
  -- a row of the table before it was read
  pub below_is_read : (other : List ℕ) → IsSome (row_at rows table other)
      → key_cmp other key ≡ Less → is_up_to last other ≡ true
  below_is_read other there below = ⊎_elim (λ t. t)
      (λ f. absurd (next.least other (above_from_not last other f) there
      (keys_total.antisymm key other ∙ ap ordering_reverse below)))
      (cases_Bool (is_up_to last other))

  -- and so was each row before it
  before_is_read : (other : RowKey) → row_cmp other (row_key table key) ≡ Less
      → IsSome (get rows other) → is_read table last other ≡ true
  before_is_read other before there =
      at (nat_lt other.table table) (other.table == table) refl before
    where
      at : (earlier same : Bool) → (other.table == table) ≡ same
          → ordering_then (cond earlier Less (cond same Equal Greater)) (key_cmp other.key key)
          ≡ Less → (earlier || (same && is_up_to last other.key)) ≡ true
      at true same is before = refl
      at false true is before = below_is_read other.key
          (subst (λ (t : ℕ). IsSome (row_at rows t other.key)) (eqb-true other.table table is) there)
          before
      at false false is before = absurd (cc)

  -- it was not read itself
  pub next_is_unread : read_so_far rows table last (row_key table key) ≡ None
  next_is_unread = cond-false (is_read table last (row_key table key)) (row_at rows table key) None
      (or_from _ _ (le-ltb table table (omega arith))
      (and_right _ _ (not_up_to last key next.above)))

  -- ---- the rows up to it

  -- it is read then
  pub here_is_read : is_read table (Some key) (row_key table key) ≡ true
  here_is_read = or_right _ _ (and_from _ _ (eq-eqb table table refl)
      (ap (λ (o : Ordering). not (is_gt o)) (tied_itself keys_total key)))

  read_here : read_so_far rows table (Some key) (row_key table key) ≡ Some value
  read_here = cond-true (is_read table (Some key) (row_key table key)) (row_at rows table key) None
      here_is_read ∙ next.here

  -- each other row of the table was read if it is read then
  key_step : (other : List ℕ) → is_key key other ≡ false
      → cond (is_up_to (Some key) other) (row_at rows table other) None
      ≡ cond (is_up_to last other) (row_at rows table other) None
  key_step other differs = at (key_cmp other key) refl
    where
      below : key_cmp other key ≡ Less → (there : Option (List ℕ))
          → row_at rows table other ≡ there → there ≡ cond (is_up_to last other) there None
      below less None is = sym (cond_none (is_up_to last other))
        where
          cond_none : (b : Bool) → cond {A = Option (List ℕ)} b None None ≡ None
          cond_none true = refl
          cond_none false = refl
      below less (Some found) is = sym (cond-true (is_up_to last other) (Some found) None
          (below_is_read other (ap is_some is) less))

      at : (o : Ordering) → key_cmp other key ≡ o
          → cond (not (is_gt o)) (row_at rows table other) None
          ≡ cond (is_up_to last other) (row_at rows table other) None
      at Less less = below less (row_at rows table other) refl
      at Equal same = absurd (
          let is : is_key key other ≡ true = keys_laws.symm key other ∙ ap is_eq same in
          cc)
      at Greater greater = sym (cond-false (is_up_to last other) (row_at rows table other) None
          (not_up_to last other (above_more last key other next.above
          (keys_total.antisymm key other ∙ ap ordering_reverse greater))))

  -- so what is read then is what was read, and this row
  pub read_step : (row : RowKey) → read_so_far rows table (Some key) row
      ≡ cond (is_row (row_key table key) row) (Some value) (read_so_far rows table last row)
  read_step row = at (is_row (row_key table key) row) refl
    where
      elsewhere : is_row (row_key table key) row ≡ false → (earlier same : Bool)
          → (row.table == table) ≡ same
          → cond (earlier || (same && is_up_to (Some key) row.key)) (get rows row) None
          ≡ cond (earlier || (same && is_up_to last row.key)) (get rows row) None
      elsewhere differs true same is = refl
      elsewhere differs false false is = refl
      elsewhere differs false true is =
          let here : table ≡ row.table = sym (eqb-true row.table table is) in
          subst (λ (t : ℕ). cond (is_up_to (Some key) row.key) (row_at rows t row.key) None
          ≡ cond (is_up_to last row.key) (row_at rows t row.key) None) here
          (key_step row.key (false_from_ne_true (is_key key row.key) (λ same. absurd (
          let one : row_key table key ≡ row =
          ap (λ (k : List ℕ). row_key table k) (one_key key row.key same)
          ∙ ap (λ (t : ℕ). row_key t row.key) here in
          false≢true (sym differs ∙ is_same_row (row_key table key) row one)))))

      at : (b : Bool) → is_row (row_key table key) row ≡ b → read_so_far rows table (Some key) row
          ≡ cond b (Some value) (read_so_far rows table last row)
      at true same =
          subst (λ (r : RowKey). read_so_far rows table (Some key) r ≡ Some value)
          (one_row (row_key table key) row same) read_here
      at false differs = elsewhere differs (nat_lt row.table table) (row.table == table) refl

  module _ (Good : Rows → RowKey → List ℕ → Type 0) (Has : (RowKey → Option (List ℕ)) → Type 0)
      (reads : ReadTo Good Has rows table last) where
    -- where it is bad, it is the first that is
    pub first_bad : ¬ (Good rows (row_key table key) value)
        → FirstBad Good rows (row_key table key)
    first_bad bad = record {
      value = value;
      there = next.here;
      bad = bad;
      first = λ other found before there.
          reads.good other found (before_is_read other before (ap is_some there)) there;
    }

    -- where it is good, all are that are read then
    pub good_more : Good rows (row_key table key) value → (row : RowKey) (found : List ℕ)
        → is_read table (Some key) row ≡ true → get rows row ≡ Some found → Good rows row found
    good_more good row found read there =
        at (is_row (row_key table key) row) refl (sym (read_step row)
        ∙ cond-true (is_read table (Some key) row) (get rows row) None read ∙ there)
      where
        at : (b : Bool) → is_row (row_key table key) row ≡ b
            → cond b (Some value) (read_so_far rows table last row) ≡ Some found
            → Good rows row found
        at true same is =
            let one : value ≡ found = cc in
            subst (Good rows row) one (subst (λ (r : RowKey). Good rows r value)
            (one_row (row_key table key) row same) good)
        at false differs is =
            let was = found_where (is_read table last row) (get rows row) found is in
            reads.good row found was.0 there
