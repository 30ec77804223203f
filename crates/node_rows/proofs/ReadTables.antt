-- The start of the rows and their end; and a table that no node has.
use Rattle.std.proofs.Common.{◌≡◌, ◌≢◌, ℕ, List, false, Option, None, sym, ap, subst, inr, arith}
use Rattle.std.specs.FinMap.{get, get-empty}
use Rattle.std.proofs.lemmas.Bool.{cond-true, lt-ltb}
use Rattle.px_keeper.specs.Keeper.{IsNext}
use Rattle.px_keeper.specs.Reading.{all_rows, no_rows}
use Rattle.px_keeper.specs.Row.{Rows, row_cmp, row_key}
use Rattle.node_rows.proofs.Alike.{rows_of_nothing}
use Rattle.node_rows.proofs.LawfulReplicas.{IsLawfulReplica-said}
use Rattle.node_rows.proofs.ReadRows.{first_bad}
use Rattle.node_rows.specs.BadRow.{IsFirstBad, IsGood, object, reference, replica}
use Rattle.node_calls.specs.Lawful.{IsLawfulReplica}
use Rattle.node_calls.specs.ReplicaState.{NodeState, ReplicaState, nothing}
use Rattle.node_rows.specs.Reading.{HasRows, IsReadTo}
use Rattle.node_rows.specs.Rows.{IsRow, StandFor, row_of}

-- a node that has nothing has no rows
pub nothing_has : (node : NodeState) → ((path : List ℕ) → node path ≡ nothing)
    → HasRows node no_rows
nothing_has node none = record {
  are = λ row small. subst (IsRow row (row_of node row)) (get-empty row_cmp row)
      (rows_of_nothing node none row small);
  lawful = record {
    places = λ path. subst IsLawfulReplica (sym (none path))
        (IsLawfulReplica-said 0 None false (omega arith) tt);
    paths = λ path. inr (none path);
  };
  unready = λ path. ap (λ (p : ReplicaState). p.ready) (none path);
}

-- rows that are all those of a node stand for it
pub all_stand : (rows : Rows) (node : NodeState) → HasRows node (all_rows rows)
    → StandFor rows node
all_stand rows node has row small = subst (IsRow row (row_of node row))
    (cond-true _ (get rows row) None (lt-ltb row.table 256 small)) (has.are row small)

-- ---- a table that no node has

-- its first row is the first bad one
pub bad_table : (rows : Rows) (table : ℕ) (last : Option (List ℕ)) (node : NodeState)
    (key value : List ℕ) → IsReadTo rows table last node → IsNext rows table last key value
    → table ≢ 6 → table ≢ 7 → table ≢ 8 → IsFirstBad rows (row_key table key)
bad_table rows table last node key value reads next six seven eight =
    first_bad rows table last key value next node reads bad
  where
    bad : IsGood rows (row_key table key) value → ⊥
    bad (replica is good) = six is
    bad (reference is good) = seven is
    bad (object is good) = eight is
