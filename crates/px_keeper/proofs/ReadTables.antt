-- The start of the rows, the end of a table, and the end of all.
use Rattle.std.proofs.Common.{◌≡◌, ◌==◌, ◌&&◌, ◌||◌, ◌+◌, ◌<◌, ℕ, List, true, false, cond, Bool, Option, Some, None, refl, sym, ap, ◌∙◌, subst, arith}
use Rattle.std.proofs.Math.Path.{fun_ext}
use Rattle.std.specs.Option.{IfSome}
use Rattle.std.specs.Prelude.{nat_lt}
use Rattle.std.specs.FinMap.{get}
use Rattle.std.proofs.lemmas.Bool.{and_right, cond-false, cond-true, eqb-false, eqb-true, false≢true, le-ltb, lt-ltb, ltb-false, ltb-true, or_from, or_left}
use Rattle.px_keeper.proofs.ReadRows.{above_from_not, found_where}
use Rattle.px_keeper.specs.FirstBad.{AllGood, FirstBad}
use Rattle.px_keeper.specs.Keeper.{IsAbove, IsNext, ScanGives}
use Rattle.px_keeper.specs.Reading.{ReadTo, all_rows, is_read, is_up_to, no_rows, read_so_far}
use Rattle.px_keeper.specs.Row.{Rows, row_at, row_key}
use Rattle.px_keeper.specs.Unread.{IsUnread, ReadUpTo}
use Rattle.px_keeper.specs.declared.reading.Unread.{Unread}
use Rattle.px_keeper.specs.declared.reading.Unread.TheVariants.{BadRow}
use Rattle.px_keeper.specs.declared.row_key.RowKey.{RowKey}

-- before the first table no row was read
pub none_read : (row : RowKey) → is_read 0 None row ≡ false
none_read row = or_from _ _ (le-ltb row.table 0 (omega arith)) (and_right _ _ refl)

pub nothing_read : (rows : Rows) → no_rows ≡ read_so_far rows 0 None
nothing_read rows =
    fun_ext (λ (row : RowKey). sym (cond-false (is_read 0 None row) (get rows row) None
    (none_read row)))

-- ---- the end of a table

-- where no row of the table is above the last key, its end was reached
module _ (rows : Rows) (table : ℕ) (last : Option (List ℕ))
    (none : (key : List ℕ) → IsAbove last key → row_at rows table key ≡ None) where
  -- what was read up to here is all of the tables up to this one
  whole_step : (row : RowKey)
      → read_so_far rows (table + 1) None row ≡ read_so_far rows table last row
  whole_step row = at (nat_lt row.table table) refl (row.table == table) refl
    where
      whole : row.table < table + 1 → read_so_far rows (table + 1) None row ≡ get rows row
      whole within = cond-true (is_read (table + 1) None row) (get rows row) None
          (or_left _ _ (lt-ltb row.table (table + 1) within))

      up_to : row.table ≡ table → (b : Bool) → is_up_to last row.key ≡ b
          → get rows row ≡ cond b (get rows row) None
      up_to here true read = refl
      up_to here false unread = subst (λ (t : ℕ). row_at rows t row.key ≡ None) (sym here)
          (none row.key (above_from_not last row.key unread))

      at : (earlier : Bool) → nat_lt row.table table ≡ earlier → (same : Bool)
          → (row.table == table) ≡ same → read_so_far rows (table + 1) None row
          ≡ cond (earlier || (same && is_up_to last row.key)) (get rows row) None
      at true before same is = whole (omega (arith, ltb-true row.table table before))
      at false not_before true is =
          let here : row.table ≡ table = eqb-true row.table table is in
          whole (omega arith) ∙ up_to here (is_up_to last row.key) refl
      at false not_before false is = cond-false (is_read (table + 1) None row) (get rows row) None
          (or_from _ _ (le-ltb row.table (table + 1)
          (omega (arith, ltb-false row.table table not_before, eqb-false row.table table is)))
          (and_right _ _ refl))

-- ---- the end of all

-- each row of a table of one byte was read, and no other
all_read : (row : RowKey) → is_read 256 None row ≡ nat_lt row.table 256
all_read row = at (nat_lt row.table 256) refl
  where
    at : (b : Bool) → nat_lt row.table 256 ≡ b → is_read 256 None row ≡ b
    at true within = or_left _ _ within
    at false beyond = or_from _ _ beyond (and_right _ _ refl)

module _ (Good : Rows → RowKey → List ℕ → Type 0) (Has : (RowKey → Option (List ℕ)) → Type 0) where
  -- so each of them is good
  pub all_good : (rows : Rows) → ReadTo Good Has rows 256 None → AllGood Good rows
  all_good rows reads row value small there =
      reads.good row value (all_read row ∙ lt-ltb row.table 256 small) there

  -- and what all of them say is had
  pub all_had : (rows : Rows) → ReadTo Good Has rows 256 None → Has (all_rows rows)
  all_had rows reads =
      let same : read_so_far rows 256 None ≡ all_rows rows =
      fun_ext (λ (row : RowKey). ap (λ (b : Bool). cond b (get rows row) None) (all_read row)) in
      subst Has same reads.has

  -- ---- where the keeper tells its rows

  -- at first none was read
  pub at_first : (kept : Option Rows) → Has no_rows → ReadUpTo Good Has kept 0 None
  at_first kept none rows told = record {
    good = λ row value read there. absurd (false≢true (sym (none_read row) ∙ read));
    has = subst Has (nothing_read rows) none;
  }

  module _ (kept : Option Rows) (table : ℕ) (last after : Option (List ℕ))
      (found : Option (List ℕ × List ℕ)) (reads : ReadUpTo Good Has kept table last)
      (is : after ≡ last)
      (gives : IfSome kept (λ (rows : Rows). ScanGives rows table after found)) where
    gives_here : (rows : Rows) → kept ≡ Some rows → ScanGives rows table last found
    gives_here rows told =
        subst (λ (o : Option (List ℕ)). ScanGives rows table o found) is
        (subst (λ (o : Option Rows). IfSome o (λ (r : Rows). ScanGives r table after found)) told
        gives)

    -- no row is left in the table
    pub table_ends : found ≡ None → ReadUpTo Good Has kept (table + 1) None
    table_ends none rows told =
        let was = reads rows told in
        let step = whole_step rows table last
        (subst (ScanGives rows table last) none (gives_here rows told)) in
        record {
          good = λ row value read there.
              let at = found_where (is_read table last row) (get rows row) value
              (sym (step row)
              ∙ cond-true (is_read (table + 1) None row) (get rows row) None read ∙ there) in
              was.good row value at.0 there;
          has = subst Has (sym (fun_ext step)) was.has;
        }

    module _ (key value bytes content : List ℕ) (row : found ≡ Some (key, value))
        (same_key : bytes ≡ key) (same_value : content ≡ value) where
      next_is : (rows : Rows) → kept ≡ Some rows → IsNext rows table last bytes content
      next_is rows told =
          subst (λ (k : List ℕ). IsNext rows table last k content) (sym same_key)
          (subst (IsNext rows table last key) (sym same_value)
          (subst (ScanGives rows table last) row (gives_here rows told)))

      -- the next row was taken over
      pub next_reads : (Then : (RowKey → Option (List ℕ)) → Type 0)
          → ((rows : Rows) (l : Option (List ℕ)) → ReadTo Good Has rows table l
          → IsNext rows table l bytes content → ReadTo Good Then rows table (Some bytes))
          → ReadUpTo Good Then kept table (Some key)
      next_reads Then takes rows told =
          subst (λ (k : List ℕ). ReadTo Good Then rows table (Some k)) same_key
          (takes rows last (reads rows told) (next_is rows told))

      -- or it is the first bad one
      pub next_is_bad : ((rows : Rows) (l : Option (List ℕ)) → ReadTo Good Has rows table l
          → IsNext rows table l bytes content → FirstBad Good rows (row_key table bytes))
          → (rows : Rows) → kept ≡ Some rows → FirstBad Good rows (row_key table key)
      next_is_bad bad rows told =
          subst (λ (k : List ℕ). FirstBad Good rows (row_key table k)) same_key
          (bad rows last (reads rows told) (next_is rows told))

-- ---- no bad row

-- rows that are all good have no bad one
pub none_is_bad : (Good : Rows → RowKey → List ℕ → Type 0) (kept : Option Rows) (error : Unread)
    (table : ℕ) (key : List ℕ) → IsUnread Good kept error → error ≡ BadRow table key
    → (rows : Rows) → kept ≡ Some rows → AllGood Good rows → ⊥
none_is_bad Good kept error table key names is rows told all =
    let named : IsUnread Good kept (BadRow table key) = subst (IsUnread Good kept) is names in
    let bad : FirstBad Good rows (row_key table key) = named.1 rows told in
    bad.bad (all (row_key table key) bad.value named.0 bad.there)
