-- Rows that are all good stand for a node.
use Rattle.std.proofs.Common.{◌≡◌, ℕ, List, cond, Option, Some, refl, sym, subst}
use Rattle.std.proofs.lemmas.Bool.{cond-false, cond-true}
use Rattle.px_base.specs.RefList.{is_name}
use Rattle.refstore.proofs.Names.{names_laws, other_name}
use Rattle.px_keeper.proofs.AllRead.{all_taken}
use Rattle.px_keeper.specs.Keeper.{IsNext}
use Rattle.px_keeper.specs.Row.{Rows, row_key}
use Rattle.node_rows.proofs.ReadObject.{ObjectComes-row, read_object}
use Rattle.node_rows.proofs.ReadRef.{RefComes-row, read_ref}
use Rattle.node_rows.proofs.ReadReplica.{read_replica}
use Rattle.node_rows.proofs.ReadTables.{all_stand, nothing_has}
use Rattle.node_rows.specs.BadRow.{AreGood, IsGood, object, reference, replica}
use Rattle.node_calls.specs.Lawful.{IsLawful}
use Rattle.node_calls.specs.ReplicaState.{Changes, NodeState, ReplicaState, nothing}
use Rattle.node_rows.specs.Reading.{HasRows, IsReadTo, said, with_one, with_ref}
use Rattle.node_rows.specs.Rows.{StandFor}

-- a node that has this under a path, and elsewhere what another has
placed : NodeState → List ℕ → ReplicaState → NodeState
placed node path place q = cond (is_name path q) place (node q)

placed-changes : (node : NodeState) (path : List ℕ) (place : ReplicaState)
    → Changes node (placed node path place) path place
unfolding placed
placed-changes node path place = record {
  here = cond-true (is_name path path) place (node path) (names_laws.refl path);
  others = λ q differs. cond-false (is_name path q) place (node q) (other_name path q differs);
}

-- a node that has what was read can take over one good row more
module _ (rows : Rows) (node : NodeState) (table : ℕ) (last : Option (List ℕ))
    (key value : List ℕ) (reads : IsReadTo rows table last node)
    (next : IsNext rows table last key value) where
  reads_at : (n : ℕ) → table ≡ n → IsReadTo rows n last node
  reads_at n is = subst (λ (t : ℕ). IsReadTo rows t last node) is reads

  next_at : (n : ℕ) → table ≡ n → IsNext rows n last key value
  next_at n is = subst (λ (t : ℕ). IsNext rows t last key value) is next

  back : (n : ℕ) → table ≡ n → (new : NodeState) → IsReadTo rows n (Some key) new
      → (then_ : NodeState) × IsReadTo rows table (Some key) then_
  back n is new read = (new, subst (λ (t : ℕ). IsReadTo rows t (Some key) new) (sym is) read)

  good_taken : IsGood rows (row_key table key) value
      → (then_ : NodeState) × IsReadTo rows table (Some key) then_
  good_taken (replica is row) =
      let place : ReplicaState = said row.fence row.last row.held in
      back 6 is (placed node key place)
      (read_replica rows last node key value (reads_at 6 is) (next_at 6 is)
      (placed node key place) row (placed-changes node key place))
  good_taken (reference is row) =
      let place : ReplicaState = with_ref row.name row.id (node row.path) in
      back 7 is (placed node row.path place)
      (read_ref rows last node key value (reads_at 7 is) (next_at 7 is)
      (placed node row.path place) row.path row.name row.id
      (RefComes-row rows last node key value (reads_at 7 is) (next_at 7 is) row)
      (placed-changes node row.path place))
  good_taken (object is row) =
      let place : ReplicaState = with_one row.object (node row.path) in
      back 8 is (placed node row.path place)
      (read_object rows last node key value (reads_at 8 is) (next_at 8 is)
      (placed node row.path place) row.path row.id row.object
      (ObjectComes-row rows last node key value (reads_at 8 is) (next_at 8 is) row)
      (placed-changes node row.path place))

-- so from nothing on all of them are taken over, and the rows stand for what comes of it
pub good_rows_stand : (rows : Rows) → AreGood rows
    → (node : NodeState) × IsLawful node × StandFor rows node
good_rows_stand rows good =
    let read = all_taken IsGood NodeState HasRows rows good
    (λ node table last key value small reads next is.
    good_taken rows node table last key value reads next is)
    (λ path. nothing) (nothing_has (λ path. nothing) (λ path. refl)) in
    (read.0, read.1.lawful, all_stand rows read.0 read.1)
