-- The next row of a table: what the node has before it, and what it has with it.
use Rattle.std.proofs.Common.{◌≡◌, ◌≢◌, ◌<◌, ℕ, List, true, false, cond, Bool, Option, Some, None, refl, sym, ◌∙◌, subst, ◌⊎◌, ⊎_elim}
use Rattle.std.proofs.lemmas.Bool.{false≢true}
use Rattle.px_keeper.proofs.ReadRows.{first_bad as is_first_bad, good_more, is_same_row, next_is_unread, read_step}
use Rattle.px_keeper.proofs.Rows.{one_row}
use Rattle.px_keeper.specs.Keeper.{IsNext}
use Rattle.px_keeper.specs.Reading.{read_so_far}
use Rattle.px_keeper.specs.Row.{Rows, is_row, row_key}
use Rattle.px_keeper.specs.declared.row_key.RowKey.{RowKey}
use Rattle.node_rows.specs.BadRow.{IsFirstBad, IsGood}
use Rattle.node_calls.specs.Lawful.{IsLawful}
use Rattle.node_calls.specs.ReplicaState.{NodeState}
use Rattle.node_rows.specs.Reading.{HasRows, IsReadTo}
use Rattle.node_rows.specs.Rows.{AreRowsOf, IsRow, row_of}

-- a row that is not there is wanted by none
none_wanted : (row : RowKey) (wanted : Option (List ℕ)) → IsRow row wanted None → wanted ≡ None
none_wanted row None is = refl
none_wanted row (Some bytes) is = absurd (cc)

-- outside table 6 what stands at a row is what is wanted there
pub row_exact : (row : RowKey) (wanted value : Option (List ℕ)) → row.table ≢ 6
    → IsRow row wanted value → value ≡ wanted
row_exact row None None other is = refl
row_exact row None (Some found) other blank = absurd (other blank.table)
row_exact row (Some bytes) value other is = is

module _ (rows : Rows) (table : ℕ) (last : Option (List ℕ)) (key value : List ℕ)
    (next : IsNext rows table last key value) where
  -- the node has nothing at the row
  pub next_has_none : (node : NodeState) → IsReadTo rows table last node → table < 256
      → row_of node (row_key table key) ≡ None
  next_has_none node reads small =
      none_wanted (row_key table key) (row_of node (row_key table key))
      (subst (IsRow (row_key table key) (row_of node (row_key table key)))
      (next_is_unread rows table last key value next) (reads.has.are (row_key table key) small))

  -- where it is bad, it is the first that is
  pub first_bad : (node : NodeState) → IsReadTo rows table last node
      → ¬ (IsGood rows (row_key table key) value) → IsFirstBad rows (row_key table key)
  first_bad node reads = is_first_bad rows table last key value next IsGood (HasRows node) reads

  -- ---- a node that has what the row says

  module _ (old new : NodeState) (reads : IsReadTo rows table last old)
      (here : IsRow (row_key table key) (row_of new (row_key table key)) (Some value))
      (rest : (row : RowKey) → (row_key table key ≡ row) ⊎ (row_of new row ≡ row_of old row))
    where
      -- its rows are those that were read, and this one
      rows_more : AreRowsOf new (read_so_far rows table (Some key))
      rows_more row small = subst (IsRow row (row_of new row))
          (sym (read_step rows table last key value next row))
          (at (is_row (row_key table key) row) refl)
        where
          at : (b : Bool) → is_row (row_key table key) row ≡ b
              → IsRow row (row_of new row) (cond b (Some value) (read_so_far rows table last row))
          at true same = subst (λ (r : RowKey). IsRow r (row_of new r) (Some value))
              (one_row (row_key table key) row same) here
          at false differs = ⊎_elim
              (λ same. absurd
              (false≢true (sym differs ∙ is_same_row (row_key table key) row same)))
              (λ alike. subst
              (λ (o : Option (List ℕ)). IsRow row o (read_so_far rows table last row)) (sym alike)
              (reads.has.are row small))
              (rest row)

      -- it has all that was read with the row
      pub read_more : IsGood rows (row_key table key) value → IsLawful new
          → ((path : List ℕ) → (new path).ready ≡ None) → IsReadTo rows table (Some key) new
      read_more good lawful unready = record {
        good = good_more rows table last key value next IsGood (HasRows old) reads good;
        has = record { are = rows_more; lawful = lawful; unready = unready };
      }
