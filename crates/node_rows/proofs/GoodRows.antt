-- The rows of a lawful node are good.
use Rattle.std.proofs.Common.{◌≡◌, ◌<◌, ◌==◌, ℕ, List, Bool, true, false, cond, length, Option, None, Some, is_some, arith, refl, sym, ap, ◌∙◌, subst}
use Rattle.std.specs.List.{AllByRecursion}
use Rattle.std.specs.List.Sorted.{IsStrictlySortedBy}
use Rattle.std.specs.Option.{IsSome, option_map}
use Rattle.std.proofs.lemmas.Bool.{eqb-false, eqb-true}
use Rattle.std.proofs.lemmas.Option.{none-some, same_Some}
use Rattle.px_base.specs.Object.{GitObject}
use Rattle.px_base.specs.RefList.{References, name_cmp, ref_at}
use Rattle.px_base.specs.declared.hash.Hash.{Hash}
use Rattle.objstore.specs.Entries.{Entries, object_at}
use Rattle.px_keeper.specs.Row.{Rows}
use Rattle.px_keeper.specs.declared.row_key.RowKey.{RowKey}
use Rattle.node_rows.proofs.Before.{fewer_before}
use Rattle.node_rows.proofs.RowValues.{held_path, held_stands, ref_stands, touched_path, value_is}
use Rattle.node_rows.specs.BadRow.{AreGood, IsGood, IsHeldBy, IsObjectRow, IsRefRow, IsReplicaRow, StandsBefore, object, reference, replica}
use Rattle.node_calls.specs.Lawful.{IsLawful}
use Rattle.node_calls.specs.ReplicaState.{NodeState}
use Rattle.node_rows.specs.Rows.{IsRow, StandFor, cut, is_untouched, object_bytes, object_row, ref_row, replica_bytes, replica_row, row_of}

-- what is not there where the repository is not held, and is there, is in one that is held
held_where : {A : Type 0} (held : Bool) (o : Option A) (x : A) → (held ≡ false → o ≡ None)
    → o ≡ Some x → held ≡ true
held_where true o x none there = refl
held_where false o x none there = absurd (none-some x (sym (none refl) ∙ there))

-- what is there after a function was applied was there before
mapped_there : {A B : Type 0} (f : A → B) (o : Option A) → IsSome (option_map f o) → IsSome o
mapped_there f None there = there
mapped_there f (Some x) there = refl

module _ (rows : Rows) (node : NodeState) (lawful : IsLawful node) (stand : StandFor rows node) where
  -- ---- table 6

  -- the row tells of the place, or that nothing was ever done under the path
  good_replica : (row : RowKey) (value : List ℕ)
      → IsRow row (replica_row (node row.key)) (Some value) → IsReplicaRow row.key value
  good_replica row value is = at (is_untouched (node row.key)) refl is
    where
      at : (b : Bool) → is_untouched (node row.key) ≡ b → IsRow row (cond b None (Some
          (replica_bytes (node row.key).fence (node row.key).last (node row.key).held)))
          (Some value) → IsReplicaRow row.key value
      at true untouched is = record {
        lawful = is.path;
        fence = 0;
        last = None;
        held = false;
        is = is.blank;
        fence_fits = omega arith;
        last_fits = tt;
      }
      at false touched is = record {
        lawful = touched_path node row.key lawful touched;
        fence = (node row.key).fence;
        last = (node row.key).last;
        held = (node row.key).held;
        is = same_Some _ _ is;
        fence_fits = (lawful.places row.key).fence;
        last_fits = (lawful.places row.key).last;
      }

  -- ---- table 7

  -- the row of a repository that is held says so
  held_by : (path : List ℕ) → (node path).held ≡ true → IsHeldBy rows path
  held_by path held = record {
    fence = (node path).fence;
    last = (node path).last;
    row = held_stands rows node stand path held;
  }

  module _ (path name : List ℕ) (id : Hash) (has : ref_at (node path).refs name ≡ Some id) where
    -- a repository that has a reference is held
    ref_held : (node path).held ≡ true
    ref_held = held_where (node path).held (ref_at (node path).refs name) id
        (λ free. ap (λ (r : References). ref_at r name) ((lawful.places path).empty free).0) has

    -- what stands before is a reference
    ref_before : (other : List ℕ) → StandsBefore rows path name other
        → IsSome (ref_at (node path).refs other)
    ref_before other stands =
        mapped_there (λ (h : Hash). h.0) (ref_at (node path).refs other)
        (ap is_some (sym (ref_stands rows node stand path
        (held_path node path lawful ref_held) other)) ∙ stands.there)

    -- with this one they are no more than the references
    few_before : (others : List (List ℕ)) → IsStrictlySortedBy name_cmp others
        → AllByRecursion (StandsBefore rows path name) others → length others < 32768
    few_before others ascend all =
        omega (
          arith,
          (lawful.places path).refs.few,
          fewer_before (node path).refs name
              (StandsBefore rows path name) ref_before (λ other stands. stands.before)
              (ap is_some has) others ascend all,
        )

    -- so the row of a reference is good
    good_ref : (key value : List ℕ) → cut key ≡ Some (path, name) → value ≡ id.0
        → IsRefRow rows key value
    good_ref key value parts is = record {
      path = path;
      name = name;
      parts = parts;
      held = held_by path ref_held;
      named = ((lawful.places path).refs.lawful name id has).named;
      id = id;
      is = is;
      hash = (lawful.places path).ids name id has;
      some = ((lawful.places path).refs.lawful name id has).some;
      apart = λ other stands. (lawful.places path).refs.apart name other (ap is_some has)
          (ref_before other stands);
      few = few_before;
    }

  -- and each row of the table is that of one
  good_reference : (key value : List ℕ) → Some value ≡ ref_row node (cut key)
      → IsRefRow rows key value
  good_reference key value is = at (cut key) refl is
    where
      have : (path name : List ℕ) → cut key ≡ Some (path, name) → (o : Option Hash)
          → ref_at (node path).refs name ≡ o → Some value ≡ option_map (λ (h : Hash). h.0) o
          → IsRefRow rows key value
      have path name parts None none is = absurd (none-some value (sym is))
      have path name parts (Some id) has is =
          good_ref path name id has key value parts (same_Some value id.0 is)

      at : (o : Option (List ℕ × List ℕ)) → cut key ≡ o → Some value ≡ ref_row node o
          → IsRefRow rows key value
      at None uncut is = absurd (none-some value (sym is))
      at (Some parts) cuts is =
          have parts.0 parts.1 cuts (ref_at (node parts.0).refs parts.1) refl is

  -- ---- table 8

  -- a repository that has an object is held
  object_held : (path : List ℕ) (id : Hash) (found : GitObject)
      → object_at (node path).objects id ≡ Some found → (node path).held ≡ true
  object_held path id found has =
      held_where (node path).held (object_at (node path).objects id) found
      (λ free. ap (λ (s : Entries). object_at s id) ((lawful.places path).empty free).1) has

  -- each row of the table is that of an object, and good
  good_object : (key value : List ℕ) → Some value ≡ object_row node (cut key)
      → IsObjectRow rows key value
  good_object key value is = at (cut key) refl is
    where
      have : (path : List ℕ) (id : Hash) → cut key ≡ Some (path, id.0) → (o : Option GitObject)
          → object_at (node path).objects id ≡ o → Some value ≡ option_map object_bytes o
          → IsObjectRow rows key value
      have path id parts None none is = absurd (none-some value (sym is))
      have path id parts (Some found) has is = record {
        path = path;
        id = id;
        parts = parts;
        held = held_by path (object_held path id found has);
        object = found;
        is = same_Some value (object_bytes found) is;
        small = (lawful.places path).small id found has;
        named = (lawful.places path).store.named id found has;
      }

      at : (o : Option (List ℕ × List ℕ)) → cut key ≡ o → Some value ≡ object_row node o
          → IsObjectRow rows key value
      at None uncut is = absurd (none-some value (sym is))
      at (Some parts) cuts is =
          let id : Hash = record { 0 = parts.1 } in
          have parts.0 id cuts (object_at (node parts.0).objects id) refl is

  -- ---- all tables

  -- each row stands in one of them
  pub rows_are_good : AreGood rows
  rows_are_good row value small there =
      at (row.table == 6) refl (row.table == 7) refl (row.table == 8) refl
      (subst (IsRow row (row_of node row)) there (stand row small))
    where
      at : (six : Bool) → (row.table == 6) ≡ six → (seven : Bool) → (row.table == 7) ≡ seven
          → (eight : Bool) → (row.table == 8) ≡ eight → IsRow row (cond six
          (replica_row (node row.key)) (cond seven (ref_row node (cut row.key))
          (cond eight (object_row node (cut row.key)) None))) (Some value)
          → IsGood rows row value
      at true six seven _ eight _ is =
          replica (eqb-true row.table 6 six) (good_replica row value is)
      at false other true seven eight _ is =
          reference (eqb-true row.table 7 seven) (good_reference row.key value
          (value_is row (ref_row node (cut row.key)) (Some value)
          (eqb-false row.table 6 other) is))
      at false other false _ true eight is =
          object (eqb-true row.table 8 eight) (good_object row.key value
          (value_is row (object_row node (cut row.key)) (Some value)
          (eqb-false row.table 6 other) is))
      at false other false _ false _ is = absurd (eqb-false row.table 6 other is.table)
