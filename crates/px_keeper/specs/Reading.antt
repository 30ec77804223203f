-- Rows that are read one after the other, in the order of tables and keys.
use Rattle.std.specs.Prelude.{◌≡◌, ◌==◌, ◌&&◌, ◌||◌, ℕ, Bool, true, false, not, nat_lt, List, if◌then◌else◌, Option, None, Some}
use Rattle.std.specs.Cmp.Lexicographic.{slice_cmp}
use Rattle.std.specs.FinMap.{get}
use Rattle.std.specs.Ordering.{is_gt, nat_cmp}
use Rattle.px_keeper.specs.Row.{Rows}
use Rattle.px_keeper.specs.declared.row_key.RowKey.{RowKey}

-- the key is the one that was read last, or stands before it
abbrev pub is_up_to : Option (List ℕ) → List ℕ → Bool
is_up_to None key = false
is_up_to (Some last) key = not (is_gt (slice_cmp nat_cmp key last))

-- the row is one of an earlier table, or one of this table up to the key that was read last
abbrev pub is_read : ℕ → Option (List ℕ) → RowKey → Bool
is_read table last row = nat_lt row.table table || ((row.table == table) && is_up_to last row.key)

-- what stands at the rows that were read
abbrev pub read_so_far : Rows → ℕ → Option (List ℕ) → RowKey → Option (List ℕ)
read_so_far rows table last row = if is_read table last row then get rows row else None

-- what stands at all rows; a table has a number of one byte
abbrev pub all_rows : Rows → RowKey → Option (List ℕ)
all_rows rows row = if nat_lt row.table 256 then get rows row else None

-- before the first row nothing was read
abbrev pub no_rows : RowKey → Option (List ℕ)
no_rows row = None

-- the rows that were read are good, and what they say is had
pub record ReadTo (Good : Rows → RowKey → List ℕ → Type 0)
    (Has : (RowKey → Option (List ℕ)) → Type 0) (rows : Rows) (table : ℕ) (last : Option (List ℕ))
    : Type 0 where
  pub good : (row : RowKey) (value : List ℕ) → is_read table last row ≡ true
      → get rows row ≡ Some value → Good rows row value
  pub has : Has (read_so_far rows table last)
