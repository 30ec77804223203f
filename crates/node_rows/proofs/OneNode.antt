-- Rows stand for at most one node, but for the pushes that are ready.
use Rattle.std.proofs.Common.{◌≡◌, ◌⊎◌, ℕ, List, Bool, true, false, Option, None, Some, cond, inl, inr, refl, sym, ap, ◌∙◌}
use Rattle.std.specs.Cmp.Lexicographic.{nat_list_cmp_total}
use Rattle.std.specs.Option.{option_map}
use Rattle.std.proofs.lemmas.Bool.{cases_Bool}
use Rattle.std.proofs.lemmas.Map.Lookups.{exact_bytes}
use Rattle.std.proofs.lemmas.Option.{none-some, same_Some}
use Rattle.px_base.specs.RefList.{References, name_cmp, ref_at}
use Rattle.px_base.specs.RepoPath.{IsRepoPath}
use Rattle.px_base.specs.declared.hash.Hash.{Hash}
use Rattle.objstore.proofs.Changed.{one_store}
use Rattle.objstore.specs.Entries.{Entries, object_at}
use Rattle.px_keeper.specs.Row.{Rows, row_at, row_key}
use Rattle.node_rows.proofs.RowBytes.{OneReplica, one_object, one_replica}
use Rattle.node_rows.proofs.RowValues.{HasNothing, held_path, object_stands, ref_stands, replica_stands, untouched_is}
use Rattle.node_rows.proofs.SortedLists.{one_list}
use Rattle.node_rows.proofs.Alike.{IsAlike}
use Rattle.node_calls.specs.Lawful.{IsLawful, IsLawfulReplica}
use Rattle.node_calls.specs.ReplicaState.{NodeState, ReplicaState, without_ready}
use Rattle.node_rows.specs.Rows.{IsRow, StandFor, is_untouched, object_bytes, replica_bytes, replica_row}

-- ---- the row of table 6

-- the bytes of a place where nothing was ever done
nothing_bytes : (place : ReplicaState) → HasNothing place
    → replica_bytes 0 None false ≡ replica_bytes place.fence place.last place.held
nothing_bytes place has = sym (
    ap (λ (f : ℕ). replica_bytes f place.last place.held) has.fence
    ∙ ap (λ (l : Option ℕ). replica_bytes 0 l place.held) has.last
    ∙ ap (λ (h : Bool). replica_bytes 0 None h) has.held)

-- it is there and tells of the place, or it is not and nothing was ever done
tells : (path : List ℕ) (place : ReplicaState) (value : Option (List ℕ))
    → IsRow (row_key 6 path) (replica_row place) value
    → ((value ≡ None) × HasNothing place)
    ⊎ (value ≡ Some (replica_bytes place.fence place.last place.held))
tells path place value is = at (is_untouched place) refl value is
  where
    at : (b : Bool) → is_untouched place ≡ b → (v : Option (List ℕ))
        → IsRow (row_key 6 path)
        (cond b None (Some (replica_bytes place.fence place.last place.held))) v
        → ((v ≡ None) × HasNothing place)
        ⊎ (v ≡ Some (replica_bytes place.fence place.last place.held))
    at true untouched None is = inl (refl, untouched_is place untouched)
    at true untouched (Some bytes) is =
        inr (ap Some (is.blank ∙ nothing_bytes place (untouched_is place untouched)))
    at false touched v is = inr is

-- so it tells of one fence, one last lease and one flag
one_told : (place other : ReplicaState) → IsLawfulReplica place → IsLawfulReplica other → (path : List ℕ)
    (value : Option (List ℕ)) → IsRow (row_key 6 path) (replica_row place) value
    → IsRow (row_key 6 path) (replica_row other) value
    → OneReplica place.fence other.fence place.last other.last place.held other.held
one_told place other lawful also path value is too =
    at (tells path place value is) (tells path other value too)
  where
    at : ((value ≡ None) × HasNothing place)
        ⊎ (value ≡ Some (replica_bytes place.fence place.last place.held))
        → ((value ≡ None) × HasNothing other)
        ⊎ (value ≡ Some (replica_bytes other.fence other.last other.held))
        → OneReplica place.fence other.fence place.last other.last place.held other.held
    at (inl none) (inl neither) = record {
      same_fence = none.1.fence ∙ sym neither.1.fence;
      same_last = none.1.last ∙ sym neither.1.last;
      same_held = none.1.held ∙ sym neither.1.held;
    }
    at (inl none) (inr there) = absurd (none-some _ (sym none.0 ∙ there))
    at (inr there) (inl none) = absurd (none-some _ (sym none.0 ∙ there))
    at (inr there) (inr here) = one_replica place.fence other.fence place.last other.last
        place.held other.held lawful.fence also.fence lawful.last also.last
        (same_Some _ _ (sym there ∙ here))

-- ---- references and objects

-- what tells values apart tells apart whether they are there, and which
one_option : {A B : Type 0} (f : A → B) → ((x y : A) → f x ≡ f y → x ≡ y) → (a b : Option A)
    → option_map f a ≡ option_map f b → a ≡ b
one_option f exact None None same = refl
one_option f exact None (Some y) same = absurd (cc)
one_option f exact (Some x) None same = absurd (cc)
one_option f exact (Some x) (Some y) same = ap Some (exact x y (same_Some (f x) (f y) same))

-- ids of one text are one
one_id : (id other : Hash) → id.0 ≡ other.0 → id ≡ other
one_id id other same = ap (λ (b : List ℕ). let h : Hash = record { 0 = b } in h) same

-- ---- nodes

-- two places that are alike are one without the push that is ready
alike_one : (old new : ReplicaState) → IsAlike old new → without_ready new ≡ without_ready old
alike_one old new alike =
    ap (λ (h : Bool). without_ready (record new { held = h })) alike.held
    ∙ ap (λ (r : References). without_ready (record new { held = old.held; refs = r })) alike.refs
    ∙ ap (λ (s : Entries). without_ready (record old {
      objects = s;
      fence = new.fence;
      last = new.last;
    })) alike.objects
    ∙ ap (λ (f : ℕ). without_ready (record old { fence = f; last = new.last })) alike.fence
    ∙ ap (λ (l : Option ℕ). without_ready (record old { last = l })) alike.last

module _ (rows : Rows) (node other : NodeState) (lawful : IsLawful node) (also : IsLawful other)
    (stand : StandFor rows node) (too : StandFor rows other) (path : List ℕ) where
  -- the fence, the last lease and whether it is held are those of one
  told : OneReplica (node path).fence (other path).fence (node path).last (other path).last
      (node path).held (other path).held
  told = one_told (node path) (other path) (lawful.places path) (also.places path) path
      (row_at rows 6 path) (replica_stands rows node stand path)
      (replica_stands rows other too path)

  -- under a lawful path stand the references and the objects of one
  refs_told : IsRepoPath path → (node path).refs ≡ (other path).refs
  refs_told is =
      one_list name_cmp nat_list_cmp_total exact_bytes (node path).refs (other path).refs
      (lawful.places path).refs.ordered (also.places path).refs.ordered
      (λ name. one_option (λ (id : Hash). id.0) one_id (ref_at (node path).refs name)
      (ref_at (other path).refs name) (sym (ref_stands rows node stand path is name)
      ∙ ref_stands rows other too path is name))

  -- and so do its objects
  objects_told : IsRepoPath path → (node path).objects ≡ (other path).objects
  objects_told is =
      one_store (node path).objects (other path).objects
      (lawful.places path).store.ordered (also.places path).store.ordered
      (λ id. one_option object_bytes one_object (object_at (node path).objects id)
      (object_at (other path).objects id) (sym (object_stands rows node stand path is id)
      ∙ object_stands rows other too path is id))

  -- where the repository is held, its path is lawful; where it is not, it has neither
  all_told : ((node path).held ≡ true) ⊎ ((node path).held ≡ false)
      → IsAlike (other path) (node path)
  all_told (inl held) = record {
    held = told.same_held;
    refs = refs_told (held_path node path lawful held);
    objects = objects_told (held_path node path lawful held);
    fence = told.same_fence;
    last = told.same_last;
  }
  all_told (inr free) =
      let none = (lawful.places path).empty free in
      let neither = (also.places path).empty (sym told.same_held ∙ free) in
      record {
        held = told.same_held;
        refs = none.0 ∙ sym neither.0;
        objects = none.1 ∙ sym neither.1;
        fence = told.same_fence;
        last = told.same_last;
      }

  -- so the path has one place in both
  pub one_node : without_ready (node path) ≡ without_ready (other path)
  one_node = alike_one (other path) (node path) (all_told (cases_Bool (node path).held))
