-- Rows of which a rule says which are good, and the first one that is not. The rule judges a row by its
-- value, and may look at all rows: where it looks only at those before, rows that contradict each
-- other have one that is bad, the last.
use Rattle.std.specs.Prelude.{◌≡◌, ◌<◌, ℕ, List, Some}
use Rattle.std.specs.FinMap.{get}
use Rattle.std.specs.declared.cmp.Ordering.TheVariants.{Less}
use Rattle.px_keeper.specs.Row.{Rows, row_cmp}
use Rattle.px_keeper.specs.declared.row_key.RowKey.{RowKey}

-- each of the rows is good; a table has a number of one byte
abbrev pub AllGood : (Rows → RowKey → List ℕ → Type 0) → Rows → Type 0
AllGood Good rows = (row : RowKey) (value : List ℕ) → row.table < 256 → get rows row ≡ Some value
    → Good rows row value

-- the row is there and is bad, and each row before it is good
pub record FirstBad (Good : Rows → RowKey → List ℕ → Type 0) (rows : Rows) (row : RowKey) : Type 0
  where
    pub value : List ℕ
    pub there : get rows row ≡ Some value
    pub bad : ¬ (Good rows row value)
    pub first : (other : RowKey) (found : List ℕ) → row_cmp other row ≡ Less
        → get rows other ≡ Some found → Good rows other found
