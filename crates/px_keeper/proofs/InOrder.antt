-- Rows in their order, of which some were read and the others are left.
use Rattle.std.proofs.Common.{◌≡◌, ◌==◌, ◌&&◌, ◌||◌, ◌<◌, ◌≤◌, ℕ, List, [], ◌∷◌, true, false, not, cond, Bool, T, Option, Some, None, IsSome, refl, sym, ap, ◌∙◌, subst, ◌⊎◌, ⊎_elim, inl, inr, arith}
use Rattle.std.specs.Cmp.{nat_cmp_total}
use Rattle.std.specs.Cmp.Lexicographic.{slice_cmp, nat_list_cmp_total}
use Rattle.std.specs.FinMap.{get}
use Rattle.std.specs.FinMap.Entries.{below_all, find, is_sorted}
use Rattle.std.specs.Ordering.{is_gt, is_lt, nat_cmp, ordering_then}
use Rattle.std.specs.Prelude.{◌≢◌, nat_lt}
use Rattle.std.specs.declared.cmp.Ordering.{Ordering}
use Rattle.std.specs.declared.cmp.Ordering.TheVariants.{Less, Equal, Greater}
use Rattle.std.proofs.lemmas.Bool.{and_from, and_right, cases_Bool, cond-false, cond-true, eq-eqb, eqb-true, false≢true, le-ltb, lt-ltb, ltb-false, ltb-true, or_from, or_left, or_right}
use Rattle.std.proofs.lemmas.Cmp.{tied_itself}
use Rattle.px_keeper.proofs.ReadRows.{above_from_not, below_next, here_is_read, not_up_to}
use Rattle.px_keeper.proofs.Rows.{one_row, row_cmp_total, rows_laws}
use Rattle.px_keeper.specs.Keeper.{IsAbove, IsNext}
use Rattle.px_keeper.specs.Reading.{is_read, is_up_to}
use Rattle.px_keeper.specs.Row.{Rows, is_row, row_at, row_cmp, row_key}
use Rattle.px_keeper.specs.declared.row_key.RowKey.{RowKey}

-- rows in their order, with their values
abbrev pub Entries : Type 0
Entries = List (RowKey × List ℕ)

-- ---- sorted lists

T_first : (a b : Bool) → T (a && b) → T a
T_first true b is = tt
T_first false b is = absurd is

T_second : (a b : Bool) → T (a && b) → T b
T_second true b is = is
T_second false b is = absurd is

less_is : (o : Ordering) → T (is_lt o) → o ≡ Less
less_is Less is = refl
less_is Equal is = absurd is
less_is Greater is = absurd is

-- a row is not below itself
not_below : (row other : RowKey) → row_cmp row other ≡ Less → is_row other row ≡ false
not_below row other less = ⊎_elim
    (λ same. absurd (let equal : row_cmp row row ≡ Equal = tied_itself row_cmp_total row in
    let below : row_cmp row row ≡ Less =
    subst (λ (r : RowKey). row_cmp row r ≡ Less) (one_row other row same) less in
    cc))
    (λ f. f) (cases_Bool (is_row other row))

-- each row of a list that is above a row is above it
below_found : (row : RowKey) (rest : Entries) → T (below_all row_cmp row rest) → (q : RowKey)
    (value : List ℕ) → find row_cmp q rest ≡ Some value → row_cmp row q ≡ Less
below_found row [] all q value is = absurd (cc)
below_found row (e ∷ rest) all q value is =
    at (is_row q e.0) refl is (below_found row rest (T_second _ _ all) q value)
  where
    at : (b : Bool) → is_row q e.0 ≡ b → cond b (Some e.1) (find row_cmp q rest) ≡ Some value
        → (find row_cmp q rest ≡ Some value → row_cmp row q ≡ Less) → row_cmp row q ≡ Less
    at true same found later = subst (λ (r : RowKey). row_cmp row r ≡ Less)
        (sym (one_row q e.0 same)) (less_is _ (T_first _ _ all))
    at false differs found later = later found

-- the table of a row that is above one is not below its table
table_up : (row q : RowKey) → row_cmp row q ≡ Less → row.table ≤ q.table
table_up row q less = at (nat_lt row.table q.table) (row.table == q.table) refl refl less
  where
    at : (before same : Bool) → nat_lt row.table q.table ≡ before → (row.table == q.table) ≡ same
        → ordering_then (cond before Less (cond same Equal Greater))
        (slice_cmp nat_cmp row.key q.key) ≡ Less → row.table ≤ q.table
    at true same is eq less = let below = ltb-true row.table q.table is in omega (arith, below)
    at false true is eq less =
        let one : row.table ≡ q.table = eqb-true row.table q.table eq in omega (arith, one)
    at false false is eq less = absurd (cc)

-- ---- what was read, and what is left

-- these are the rows that are left: each row that is there was read or is one of them
pub record Left (rows : Rows) (table : ℕ) (last : Option (List ℕ)) (rest : Entries) : Type 0 where
  pub there : (q : RowKey) (value : List ℕ) → get rows q ≡ Some value
      → (is_read table last q ≡ true) ⊎ (find row_cmp q rest ≡ Some value)
  pub hits : (q : RowKey) (value : List ℕ) → find row_cmp q rest ≡ Some value
      → get rows q ≡ Some value
  pub unread : (q : RowKey) (value : List ℕ) → find row_cmp q rest ≡ Some value
      → is_read table last q ≡ false
  pub sorted : T (is_sorted row_cmp rest)

-- what is found in a list is its first row, or behind it
first_or_later : (row : RowKey) (value : List ℕ) (rest : Entries) (q : RowKey) (found : List ℕ)
    → find row_cmp q ((row, value) ∷ rest) ≡ Some found
    → (q ≡ row) ⊎ (find row_cmp q rest ≡ Some found)
first_or_later row value rest q found = at (is_row q row) refl
  where
    at : (b : Bool) → is_row q row ≡ b → cond b (Some value) (find row_cmp q rest) ≡ Some found
        → (q ≡ row) ⊎ (find row_cmp q rest ≡ Some found)
    at true same is = inl (one_row q row same)
    at false differs is = inr is

-- the table of a row that was read is not above the one that is read
pub read_table : (table : ℕ) (last : Option (List ℕ)) (q : RowKey) → is_read table last q ≡ true
    → q.table ≤ table
read_table table last q = at (nat_lt q.table table) (q.table == table) refl refl
  where
    at : (before same : Bool) → nat_lt q.table table ≡ before → (q.table == table) ≡ same
        → (before || (same && is_up_to last q.key)) ≡ true → q.table ≤ table
    at true same is eq read = let below = ltb-true q.table table is in omega (arith, below)
    at false true is eq read =
        let one : q.table ≡ table = eqb-true q.table table eq in omega (arith, one)
    at false false is eq read = absurd (false≢true read)

module _ (rows : Rows) (row : RowKey) (value : List ℕ) (rest : Entries) where
  -- each row that is left is in a table that is not before that of the first
  pub tables_up : T (is_sorted row_cmp ((row, value) ∷ rest)) → (q : RowKey) (found : List ℕ)
      → find row_cmp q ((row, value) ∷ rest) ≡ Some found → row.table ≤ q.table
  tables_up sorted q found is = ⊎_elim
      (λ same. let one : q.table ≡ row.table = ap (λ (r : RowKey). r.table) same in
      omega (arith, one))
      (λ later. table_up row q (below_found row rest (T_first _ _ sorted) q found later))
      (first_or_later row value rest q found is)

  module _ (table : ℕ) (last : Option (List ℕ))
      (left : Left rows table last ((row, value) ∷ rest)) where
    -- the first row that is left is there, and was not read
    itself : find row_cmp row ((row, value) ∷ rest) ≡ Some value
    itself = cond-true (is_row row row) (Some value) (find row_cmp row rest) (rows_laws.refl row)

    pub here : get rows row ≡ Some value
    here = left.hits row value itself

    -- its table is not before the one that is read
    pub table_of : table ≤ row.table
    table_of = ⊎_elim
        (λ before. absurd (false≢true (sym (left.unread row value itself)
        ∙ or_left (nat_lt row.table table) ((row.table == table) && is_up_to last row.key) before)))
        (λ f. ltb-false row.table table f)
        (cases_Bool (nat_lt row.table table))

    -- where it is in another table, the rows of the tables before that one are those that were read
    pub read_before : table < row.table → (q : RowKey) (found : List ℕ) → get rows q ≡ Some found
        → is_read row.table None q ≡ is_read table last q
    read_before before q found is = ⊎_elim
        (λ read. let up = read_table table last q read in
        or_left _ _ (lt-ltb q.table row.table (omega (arith, up, before))) ∙ sym read)
        (λ there. let up = tables_up left.sorted q found there in
        or_from _ _ (le-ltb q.table row.table up) (and_right _ _ refl)
        ∙ sym (left.unread q found there))
        (left.there q found is)

    pub left_before : table < row.table → Left rows row.table None ((row, value) ∷ rest)
    left_before before = record {
      there = λ q found is. ⊎_elim (λ read. inl (read_before before q found is ∙ read))
          (λ there. inr there) (left.there q found is);
      hits = left.hits;
      unread = λ q found there. read_before before q found (left.hits q found there)
          ∙ left.unread q found there;
      sorted = left.sorted;
    }

  -- ---- the table of the first row that is left

  module _ (last : Option (List ℕ)) (left : Left rows row.table last ((row, value) ∷ rest)) where
    -- its key is above the last one
    key_above : IsAbove last row.key
    key_above = above_from_not last row.key (⊎_elim
        (λ up. absurd (false≢true (sym (left.unread row value (itself row.table last left))
        ∙ or_right _ _ (and_from _ _ (eq-eqb row.table row.table refl) up))))
        (λ f. f) (cases_Bool (is_up_to last row.key)))

    -- so it is the next one
    pub is_next : IsNext rows row.table last row.key value
    is_next = record {
      here = here row.table last left;
      above = key_above;
      least = λ other above there. at other above (row_at rows row.table other) refl there;
    }
      where
        not_greater : (o : Ordering) → o ≡ Less → o ≢ Greater
        not_greater o less greater = absurd (cc)

        at : (other : List ℕ) → IsAbove last other → (o : Option (List ℕ))
            → row_at rows row.table other ≡ o → IsSome o
            → slice_cmp nat_cmp row.key other ≢ Greater
        at other above None is there = absurd (cc)
        at other above (Some found) is there = ⊎_elim
            (λ read. absurd (false≢true (sym (or_from _ _
            (le-ltb row.table row.table (omega arith))
            (and_right _ _ (not_up_to last other above))) ∙ read)))
            (λ left_there. ⊎_elim
            (λ same. let one : other ≡ row.key = ap (λ (r : RowKey). r.key) same in
            let tied : slice_cmp nat_cmp row.key other ≡ Equal =
            subst (λ (k : List ℕ). slice_cmp nat_cmp row.key k ≡ Equal) (sym one)
            (tied_itself nat_list_cmp_total row.key) in
            λ greater. absurd (cc))
            (λ later. not_greater _ (
            subst (λ (o : Ordering). ordering_then o (slice_cmp nat_cmp row.key other) ≡ Less)
            (tied_itself nat_cmp_total row.table)
            (below_found row rest (T_first _ _ left.sorted) (row_key row.table other) found later)))
            (first_or_later row value rest (row_key row.table other) found left_there))
            (left.there (row_key row.table other) found is)

    -- what was read before it is read with it
    still_read : (q : RowKey) → is_read row.table last q ≡ true
        → is_read row.table (Some row.key) q ≡ true
    still_read q = at (nat_lt q.table row.table) (q.table == row.table)
      where
        at : (before same : Bool) → (before || (same && is_up_to last q.key)) ≡ true
            → (before || (same && is_up_to (Some row.key) q.key)) ≡ true
        at true same read = refl
        at false true read = ap (λ (o : Ordering). not (is_gt o))
            (below_next last q.key row.key read key_above)
        at false false read = absurd (false≢true read)

    -- and what is above it is not
    unread_above : (q : RowKey) → row_cmp row q ≡ Less
        → is_read row.table (Some row.key) q ≡ false
    unread_above q less =
        at (nat_lt row.table q.table) (row.table == q.table) refl refl less
      where
        at : (before same : Bool) → nat_lt row.table q.table ≡ before
            → (row.table == q.table) ≡ same
            → ordering_then (cond before Less (cond same Equal Greater))
            (slice_cmp nat_cmp row.key q.key) ≡ Less
            → is_read row.table (Some row.key) q ≡ false
        at true same is eq less =
            let below = ltb-true row.table q.table is in
            or_from _ _ (le-ltb q.table row.table (omega (arith, below)))
            (⊎_elim (λ one. absurd (
            let tie : q.table ≡ row.table = eqb-true q.table row.table one in
            omega (arith, below, tie)))
            (λ f. ap (λ (b : Bool). b && is_up_to (Some row.key) q.key) f)
            (cases_Bool (q.table == row.table)))
        at false true is eq less =
            let one : row.table ≡ q.table = eqb-true row.table q.table eq in
            or_from _ _ (le-ltb q.table row.table (omega (arith, one)))
            (and_right _ _ (not_up_to (Some row.key) q.key less))
        at false false is eq less = absurd (cc)

    -- so the others are left then
    pub left_then : Left rows row.table (Some row.key) rest
    left_then = record {
      there = λ q found is. ⊎_elim (λ read. inl (still_read q read))
          (λ there. ⊎_elim
          (λ same. inl (subst (λ (r : RowKey). is_read row.table (Some row.key) r ≡ true) (sym same)
          (here_is_read rows row.table last row.key value is_next)))
          (λ later. inr later) (first_or_later row value rest q found there))
          (left.there q found is);
      hits = λ q found is. left.hits q found (cond-false (is_row q row) (Some value)
          (find row_cmp q rest)
          (not_below row q (below_found row rest (T_first _ _ left.sorted) q found is)) ∙ is);
      unread = λ q found is.
          unread_above q (below_found row rest (T_first _ _ left.sorted) q found is);
      sorted = T_second _ _ left.sorted;
    }
