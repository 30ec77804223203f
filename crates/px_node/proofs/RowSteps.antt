-- One row more is read, of whichever table, or it is the first bad one.
use Rattle.std.proofs.Common.{◌≡◌, ℕ, List, Option, Some, sym, subst}
use Rattle.px_base.specs.Object.{GitObject}
use Rattle.px_base.specs.declared.hash.Hash.{Hash}
use Rattle.px_keeper.specs.Keeper.{IsNext}
use Rattle.px_keeper.specs.Row.{Rows, row_key}
use Rattle.node_rows.proofs.ReadObject.{bad_object, read_object}
use Rattle.node_rows.proofs.ReadRef.{bad_ref, read_ref}
use Rattle.node_rows.proofs.ReadReplica.{bad_replica, read_replica}
use Rattle.node_rows.specs.BadRow.{IsFirstBad, IsReplicaRow}
use Rattle.node_calls.specs.ReplicaState.{NodeState}
use Rattle.node_rows.specs.Reading.{IsReadTo, ObjectComes, RefComes}
use Rattle.px_node.specs.Opening.{TakesObject, TakesRef, TakesReplica}

module _ (table : ℕ) (rows : Rows) (last : Option (List ℕ)) (old new : NodeState)
    (key value : List ℕ) (reads : IsReadTo rows table last old)
    (next : IsNext rows table last key value) where
  reads_at : (n : ℕ) → table ≡ n → IsReadTo rows n last old
  reads_at n is = subst (λ (t : ℕ). IsReadTo rows t last old) is reads

  next_at : (n : ℕ) → table ≡ n → IsNext rows n last key value
  next_at n is = subst (λ (t : ℕ). IsNext rows t last key value) is next

  read_back : (n : ℕ) → table ≡ n → IsReadTo rows n (Some key) new
      → IsReadTo rows table (Some key) new
  read_back n is = subst (λ (t : ℕ). IsReadTo rows t (Some key) new) (sym is)

  bad_back : (n : ℕ) → table ≡ n → IsFirstBad rows (row_key n key)
      → IsFirstBad rows (row_key table key)
  bad_back n is = subst (λ (t : ℕ). IsFirstBad rows (row_key t key)) (sym is)

  pub row_of_replica : table ≡ 6 → TakesReplica old new key value
      → IsReadTo rows table (Some key) new
  row_of_replica is takes =
      read_back 6 is (read_replica rows last old key value (reads_at 6 is) (next_at 6 is) new
      takes.row takes.changes)

  pub bad_row_of_replica : table ≡ 6 → (IsReplicaRow key value → ⊥)
      → IsFirstBad rows (row_key table key)
  bad_row_of_replica is bad =
      bad_back 6 is (bad_replica rows last old key value (reads_at 6 is) (next_at 6 is) bad)

  pub row_of_ref : table ≡ 7 → TakesRef old new key value → IsReadTo rows table (Some key) new
  row_of_ref is takes =
      read_back 7 is (read_ref rows last old key value (reads_at 7 is) (next_at 7 is) new
      takes.path takes.name takes.id takes.comes takes.changes)

  pub bad_row_of_ref : table ≡ 7
      → ((path name : List ℕ) (id : Hash) → RefComes old key value path name id → ⊥)
      → IsFirstBad rows (row_key table key)
  bad_row_of_ref is bad =
      bad_back 7 is (bad_ref rows last old key value (reads_at 7 is) (next_at 7 is) bad)

  pub row_of_object : table ≡ 8 → TakesObject old new key value
      → IsReadTo rows table (Some key) new
  row_of_object is takes =
      read_back 8 is (read_object rows last old key value (reads_at 8 is) (next_at 8 is) new
      takes.path takes.id takes.object takes.comes takes.changes)

  pub bad_row_of_object : table ≡ 8
      → ((path : List ℕ) (id : Hash) (object : GitObject)
      → ObjectComes old key value path id object → ⊥)
      → IsFirstBad rows (row_key table key)
  bad_row_of_object is bad =
      bad_back 8 is (bad_object rows last old key value (reads_at 8 is) (next_at 8 is) bad)
