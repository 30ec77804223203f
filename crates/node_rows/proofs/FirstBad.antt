-- At most one row is the first bad one.
use Rattle.std.proofs.Common.{◌≡◌, refl, ap, ◌∙◌}
use Rattle.std.specs.Ordering.{ordering_reverse}
use Rattle.std.specs.declared.cmp.Ordering.{Ordering}
use Rattle.std.specs.declared.cmp.Ordering.TheVariants.{Less, Equal, Greater}
use Rattle.px_keeper.proofs.Rows.{exact_rows, row_cmp_total}
use Rattle.px_keeper.specs.Row.{Rows, row_cmp}
use Rattle.px_keeper.specs.declared.row_key.RowKey.{RowKey}
use Rattle.node_rows.specs.BadRow.{IsFirstBad}

-- of two rows that are each the first bad one, neither stands before the other
pub one_first_bad : (rows : Rows) (row other : RowKey) → IsFirstBad rows row
    → IsFirstBad rows other → row ≡ other
one_first_bad rows row other is also = at (row_cmp row other) refl
  where
    at : (o : Ordering) → row_cmp row other ≡ o → row ≡ other
    at Less before = absurd (is.bad (also.first row is.value before is.there))
    at Equal same = exact_rows row other same
    at Greater after = absurd (also.bad (is.first other also.value
        (row_cmp_total.antisymm other row ∙ ap ordering_reverse after) also.there))
