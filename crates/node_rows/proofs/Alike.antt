-- Rows that stand for a node: at its start, and where none of them changes.
use Rattle.std.proofs.Common.{◌≡◌, ◌==◌, ℕ, List, true, false, cond, Bool, Option, Some, None, refl, sym, ap, ◌∙◌, subst}
use Rattle.std.specs.FinMap.{empty, get, get-empty}
use Rattle.std.specs.Option.{option_map}
use Rattle.px_base.specs.RefList.{References, ref_at}
use Rattle.px_base.specs.declared.hash.Hash.{Hash}
use Rattle.objstore.specs.Entries.{Entries, object_at}
use Rattle.px_keeper.specs.Row.{Rows, row_cmp}
use Rattle.px_keeper.specs.declared.row_key.RowKey.{RowKey}
use Rattle.node_rows.proofs.RowLemmas.{IsRow-same}
use Rattle.node_calls.specs.ReplicaState.{NodeState, ReplicaState, Same, nothing}
use Rattle.node_rows.specs.Rows.{IsRow, StandFor, cut, object_bytes, object_row, ref_row, replica_row, row_of}

-- the two places are one but for the push that is ready
pub record IsAlike (old new : ReplicaState) : Type 0 where
  pub held : new.held ≡ old.held
  pub refs : new.refs ≡ old.refs
  pub objects : new.objects ≡ old.objects
  pub fence : new.fence ≡ old.fence
  pub last : new.last ≡ old.last

pub alike_same : (old new : ReplicaState) → new ≡ old → IsAlike old new
alike_same old new same = record {
  held = ap (λ (p : ReplicaState). p.held) same;
  refs = ap (λ (p : ReplicaState). p.refs) same;
  objects = ap (λ (p : ReplicaState). p.objects) same;
  fence = ap (λ (p : ReplicaState). p.fence) same;
  last = ap (λ (p : ReplicaState). p.last) same;
}

replica_alike : (old new : ReplicaState) → IsAlike old new → replica_row new ≡ replica_row old
replica_alike old new alike =
    ap (λ (f : ℕ). replica_row (record new { fence = f })) alike.fence
    ∙ ap (λ (l : Option ℕ). replica_row (record new { fence = old.fence; last = l })) alike.last
    ∙ ap (λ (h : Bool). replica_row (record old { held = h })) alike.held

module _ (old new : NodeState) (alike : (path : List ℕ) → IsAlike (old path) (new path)) where
  refs_alike : (parts : Option (List ℕ × List ℕ)) → ref_row new parts ≡ ref_row old parts
  refs_alike None = refl
  refs_alike (Some parts) =
      ap (λ (r : References). option_map (λ (h : Hash). h.0) (ref_at r parts.1))
      (alike parts.0).refs

  objects_alike : (parts : Option (List ℕ × List ℕ)) → object_row new parts ≡ object_row old parts
  objects_alike None = refl
  objects_alike (Some parts) =
      ap (λ (s : Entries). option_map object_bytes (object_at s (record { 0 = parts.1 })))
      (alike parts.0).objects

  pub rows_alike : (row : RowKey) → row_of new row ≡ row_of old row
  rows_alike row =
      ap (λ (o : Option (List ℕ)). cond (row.table == 6) o (cond (row.table == 7)
      (ref_row new (cut row.key)) (cond (row.table == 8) (object_row new (cut row.key)) None)))
      (replica_alike (old row.key) (new row.key) (alike row.key))
      ∙ ap (λ (o : Option (List ℕ)). cond (row.table == 6) (replica_row (old row.key))
      (cond (row.table == 7) o (cond (row.table == 8) (object_row new (cut row.key)) None)))
      (refs_alike (cut row.key))
      ∙ ap (λ (o : Option (List ℕ)). cond (row.table == 6) (replica_row (old row.key))
      (cond (row.table == 7) (ref_row old (cut row.key)) (cond (row.table == 8) o None)))
      (objects_alike (cut row.key))

  -- so the rows stand for both nodes
  pub stand_alike : (rows : Rows) → StandFor rows old → StandFor rows new
  stand_alike rows stand row small =
      subst (λ (o : Option (List ℕ)). IsRow row o (get rows row)) (sym (rows_alike row))
      (stand row small)

pub stand_same : (rows : Rows) (old new : NodeState) → Same old new → StandFor rows old
    → StandFor rows new
stand_same rows old new same =
    stand_alike old new (λ path. alike_same (old path) (new path) (same path)) rows

-- ---- the start

-- no rows stand for the node that has nothing
pub rows_of_nothing : (node : NodeState) → ((path : List ℕ) → node path ≡ nothing)
    → StandFor empty node
rows_of_nothing node none =
    stand_same empty (λ path. nothing) node none
    (λ row small. IsRow-same row (row_of (λ path. nothing) row) (get empty row)
    (get-empty row_cmp row
    ∙ sym (at (row.table == 6) (row.table == 7) (row.table == 8) (cut row.key))))
  where
    at : (six seven eight : Bool) (parts : Option (List ℕ × List ℕ))
        → cond {A = Option (List ℕ)} six None (cond seven (ref_row (λ path. nothing) parts)
        (cond eight (object_row (λ path. nothing) parts) None)) ≡ None
    at true seven eight parts = refl
    at false true eight None = refl
    at false true eight (Some parts) = refl
    at false false true None = refl
    at false false true (Some parts) = refl
    at false false false parts = refl
