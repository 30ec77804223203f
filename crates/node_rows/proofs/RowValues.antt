-- What stands at the rows of a repository, in rows that stand for a node.
use Rattle.std.proofs.Common.{◌≡◌, ◌≢◌, ◌==◌, ◌&&◌, not, ℕ, List, Bool, true, false, Option, None, Some, is_none, arith, refl, sym, ap, ◌∙◌, subst, ⊎_elim}
use Rattle.std.specs.Option.{option_map}
use Rattle.std.proofs.lemmas.Bool.{and_parts, and_right, cond-false, eqb-true, false≢true}
use Rattle.px_base.specs.RefList.{ref_at}
use Rattle.px_base.specs.RepoPath.{IsRepoPath}
use Rattle.px_base.specs.declared.hash.Hash.{Hash}
use Rattle.objstore.specs.Entries.{object_at}
use Rattle.px_keeper.specs.Row.{Rows, row_at, row_key}
use Rattle.px_keeper.specs.declared.row_key.RowKey.{RowKey}
use Rattle.node_rows.proofs.KeyLemmas.{cut_path}
use Rattle.node_calls.specs.Lawful.{IsLawful}
use Rattle.node_calls.specs.ReplicaState.{NodeState, ReplicaState}
use Rattle.node_rows.specs.Rows.{IsRow, StandFor, is_untouched, object_bytes, object_row, ref_row, replica_bytes, replica_row, under}

-- ---- places

-- what the row of a place says where nothing was ever done
pub record HasNothing (place : ReplicaState) : Type 0 where
  pub fence : place.fence ≡ 0
  pub last : place.last ≡ None
  pub held : place.held ≡ false

-- an option that has nothing is None
none_is : (o : Option ℕ) → is_none o ≡ true → o ≡ None
none_is None is = refl
none_is (Some n) is = absurd (cc)

-- what is not held is not
not_held : (held : Bool) → not held ≡ true → held ≡ false
not_held true is = absurd (cc)
not_held false is = refl

-- the row of a place of which the test holds says this
pub untouched_is : (place : ReplicaState) → is_untouched place ≡ true → HasNothing place
untouched_is place untouched =
    let both = and_parts ((place.fence == 0) && is_none place.last) (not place.held) untouched in
    let first = and_parts (place.fence == 0) (is_none place.last) both.0 in
    record {
      fence = eqb-true place.fence 0 first.0;
      last = none_is place.last first.1;
      held = not_held place.held both.1;
    }

-- where something was done, the path of the repository is one
pub touched_path : (node : NodeState) (path : List ℕ) → IsLawful node
    → is_untouched (node path) ≡ false → IsRepoPath path
touched_path node path lawful touched =
    ⊎_elim (λ is. is) (λ none. absurd (false≢true (sym touched ∙ ap is_untouched none)))
    (lawful.paths path)

-- as it was where the repository is held
held_touched : (place : ReplicaState) → place.held ≡ true → is_untouched place ≡ false
held_touched place held =
    and_right ((place.fence == 0) && is_none place.last) (not place.held) (ap not held)

-- so the path of a repository that is held is one
pub held_path : (node : NodeState) (path : List ℕ) → IsLawful node → (node path).held ≡ true
    → IsRepoPath path
held_path node path lawful held =
    touched_path node path lawful (held_touched (node path) held)

-- ---- rows

-- at a row of another table than that of fences stands what the node has there
pub value_is : (row : RowKey) (wanted value : Option (List ℕ)) → row.table ≢ 6
    → IsRow row wanted value → value ≡ wanted
value_is row None None other is = refl
value_is row None (Some bytes) other is = absurd (other is.table)
value_is row (Some bytes) value other is = is

module _ (rows : Rows) (node : NodeState) (stand : StandFor rows node) (path : List ℕ) where
  -- in table 6 stands the row of the repository, or one that says that nothing was done
  pub replica_stands : IsRow (row_key 6 path) (replica_row (node path)) (row_at rows 6 path)
  replica_stands = stand (row_key 6 path) (omega arith)

  -- the row of a repository that is held says so
  pub held_stands : (node path).held ≡ true
      → row_at rows 6 path ≡ Some (replica_bytes (node path).fence (node path).last true)
  held_stands held =
      subst (λ (wanted : Option (List ℕ)).
      IsRow (row_key 6 path) wanted (row_at rows 6 path)) wanted_is replica_stands
    where
      wanted_is : replica_row (node path)
          ≡ Some (replica_bytes (node path).fence (node path).last true)
      wanted_is =
          cond-false (is_untouched (node path)) None
          (Some (replica_bytes (node path).fence (node path).last (node path).held))
          (held_touched (node path) held)
          ∙ ap (λ (h : Bool). Some (replica_bytes (node path).fence (node path).last h)) held

  module _ (lawful : IsRepoPath path) where
    -- under a name stands the object that the reference has
    pub ref_stands : (name : List ℕ) → row_at rows 7 (under path name)
        ≡ option_map (λ (id : Hash). id.0) (ref_at (node path).refs name)
    ref_stands name =
        value_is (row_key 7 (under path name)) _ _ (omega arith)
        (stand (row_key 7 (under path name)) (omega arith))
        ∙ ap (ref_row node) (cut_path path name lawful)

    -- under an id stand the bytes of the object
    pub object_stands : (id : Hash) → row_at rows 8 (under path id.0)
        ≡ option_map object_bytes (object_at (node path).objects id)
    object_stands id =
        value_is (row_key 8 (under path id.0)) _ _ (omega arith)
        (stand (row_key 8 (under path id.0)) (omega arith))
        ∙ ap (object_row node) (cut_path path id.0 lawful)
