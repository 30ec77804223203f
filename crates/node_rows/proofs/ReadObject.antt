-- One row of table 8 more: an object of a repository.
use Rattle.std.proofs.Common.{◌≡◌, ℕ, List, true, false, cond, Bool, Option, Some, refl, sym, ap, ◌∙◌, subst, ◌⊎◌, ⊎_elim, inl, inr, arith}
use Rattle.std.specs.Option.{option_map}
use Rattle.std.proofs.lemmas.Bool.{cases_Bool, cond-true, false≢true}
use Rattle.px_base.specs.Object.{GitObject, IsSmall}
use Rattle.px_base.specs.RefList.{ref_at}
use Rattle.px_base.specs.declared.hash.Hash.{Hash}
use Rattle.objstore.proofs.Changed.{ascends-set, object_at-set}
use Rattle.objstore.proofs.EntriesLemmas.{IsStore-more, Takes, stays}
use Rattle.objstore.proofs.Ids.{ids_laws, one_id}
use Rattle.objstore.specs.Bundle.{with_object}
use Rattle.objstore.specs.Entries.{Entries, is_id, object_at, own_name}
use Rattle.px_keeper.specs.Keeper.{IsNext}
use Rattle.px_keeper.specs.Row.{Rows, row_key}
use Rattle.px_keeper.specs.declared.row_key.RowKey.{RowKey}
use Rattle.node_rows.proofs.KeyLemmas.{IsCut-cut}
use Rattle.node_rows.proofs.LawfulReplicas.{IsLawful-changes, unready_changes}
use Rattle.node_calls.proofs.OptionLemmas.{none_mapped}
use Rattle.node_rows.proofs.ReadHeld.{IsHeldBy-held, held_by_row, held_path}
use Rattle.node_rows.proofs.ReadRows.{first_bad, next_has_none, read_more}
use Rattle.node_rows.proofs.RowLemmas.{IsRow-same, named_or_same}
use Rattle.node_rows.specs.BadRow.{IsFirstBad, IsGood, IsObjectRow, object, reference, replica}
use Rattle.node_calls.specs.Lawful.{IsLawfulReplica}
use Rattle.node_calls.specs.ReplicaState.{Changes, NodeState, ReplicaState}
use Rattle.node_rows.specs.Reading.{IsReadTo, ObjectComes, with_one}
use Rattle.node_rows.specs.Rows.{object_bytes, object_row, replica_row, row_of, under}

-- ---- a repository that has one object more

module _ (old : NodeState) (key value path : List ℕ) (id : Hash) (one : GitObject)
    (comes : ObjectComes old key value path id one) where
  -- the objects that it had
  abbrev store : Entries
  store = (old path).objects

  -- the id has the object then, and each other what it had
  takes : Takes store (with_object store one) id one
  takes q = object_at-set (own_name one) one store q
      ∙ ap (λ (h : Hash). cond (is_id h q) (Some one) (object_at store q)) comes.named.name

  -- so each is small
  small_more : (lawful : IsLawfulReplica (old path)) (q : Hash) (found : GitObject)
      → object_at (with_object store one) q ≡ Some found → IsSmall found.content
  small_more lawful q found is = at (is_id id q) (sym (takes q) ∙ is)
    where
      at : (b : Bool) → cond b (Some one) (object_at store q) ≡ Some found
          → IsSmall found.content
      at true is =
          let same : one ≡ found = cc in
          subst (λ (o : GitObject). IsSmall o.content) same comes.small
      at false is = lawful.small q found is

  -- it has what a repository may have
  IsLawfulReplica-object : IsLawfulReplica (old path) → IsLawfulReplica (with_one one (old path))
  IsLawfulReplica-object lawful = record {
    fence = lawful.fence;
    last = lawful.last;
    refs = lawful.refs;
    ids = lawful.ids;
    store = IsStore-more store (with_object store one) id one takes lawful.store comes.named
        (ascends-set (own_name one) one store lawful.store.ordered);
    small = small_more lawful;
    empty = λ free. absurd (false≢true (sym free ∙ comes.held));
  }

  module _ (new : NodeState) (changes : Changes old new path (with_one one (old path))) where
    -- the row is that of the object
    row_of_object : row_of new (row_key 8 key) ≡ Some value
    row_of_object = ap (object_row new) comes.parts
        ∙ ap (λ (p : ReplicaState). option_map object_bytes (object_at p.objects id)) changes.here
        ∙ ap (option_map object_bytes) (takes id
        ∙ cond-true (is_id id id) (Some one) (object_at store id) (ids_laws.refl id))
        ∙ sym (ap Some comes.is)

    -- and each other row is as it was
    rest_of_object : (row : RowKey) → (row_key 8 key ≡ row) ⊎ (row_of new row ≡ row_of old row)
    rest_of_object = named_or_same old new path changes.others (λ row. row_key 8 key ≡ row)
        (inr (ap replica_row changes.here))
        (λ name. inr (ap (λ (p : ReplicaState). ref_at p.refs name) changes.here))
        (λ q. ⊎_elim
        (λ same. inl (ap (row_key 8) ((IsCut-cut key (path, id.0) comes.parts).key_is
        ∙ ap (λ (h : Hash). under path h.0) (one_id id q same))))
        (λ differs. inr (ap (λ (p : ReplicaState). object_at p.objects q) changes.here
        ∙ stays store (with_object store one) id one takes q differs))
        (cases_Bool (is_id id q)))

-- ---- a row that is next

module _ (rows : Rows) (last : Option (List ℕ)) (old : NodeState) (key value : List ℕ)
    (reads : IsReadTo rows 8 last old) (next : IsNext rows 8 last key value) where
  -- the object comes, so the row is one that a node may have
  IsObjectRow-comes : (path : List ℕ) (id : Hash) (one : GitObject)
      → ObjectComes old key value path id one → IsObjectRow rows key value
  IsObjectRow-comes path id one comes = record {
    path = path;
    id = id;
    parts = comes.parts;
    held = IsHeldBy-held rows 8 last old reads (omega arith) path comes.held;
    object = one;
    is = comes.is;
    small = comes.small;
    named = comes.named;
  }

  -- a node may have the row, so its object comes
  pub ObjectComes-row : (is : IsObjectRow rows key value)
      → ObjectComes old key value is.path is.id is.object
  ObjectComes-row is = record {
    parts = is.parts;
    held = held_by_row rows 8 last old reads (omega arith) is.path is.held;
    absent = none_mapped object_bytes (object_at (old is.path).objects is.id)
        (sym (ap (object_row old) is.parts)
        ∙ next_has_none rows 8 last key value next old reads (omega arith));
    is = is.is;
    small = is.small;
    named = is.named;
  }

  -- with the object, the node has what was read
  pub read_object : (new : NodeState) (path : List ℕ) (id : Hash) (one : GitObject)
      → ObjectComes old key value path id one → Changes old new path (with_one one (old path))
      → IsReadTo rows 8 (Some key) new
  read_object new path id one comes changes =
      let place : ReplicaState = with_one one (old path) in
      read_more rows 8 last key value next old new reads
      (IsRow-same (row_key 8 key) (row_of new (row_key 8 key)) (Some value)
      (sym (row_of_object old key value path id one comes new changes)))
      (rest_of_object old key value path id one comes new changes)
      (object refl (IsObjectRow-comes path id one comes))
      (IsLawful-changes old new path place changes reads.has.lawful
      (held_path rows 8 last old reads (omega arith) path comes.held)
      (IsLawfulReplica-object old key value path id one comes (reads.has.lawful.places path)))
      (unready_changes old new path place changes reads.has.unready (reads.has.unready path))

  -- a row of which no object comes is the first bad one
  pub bad_object : ((path : List ℕ) (id : Hash) (one : GitObject)
      → ¬ (ObjectComes old key value path id one)) → IsFirstBad rows (row_key 8 key)
  bad_object none = first_bad rows 8 last key value next old reads bad
    where
      bad : IsGood rows (row_key 8 key) value → ⊥
      bad (replica is good) = absurd (omega arith)
      bad (reference is good) = absurd (omega arith)
      bad (object is good) = none good.path good.id good.object (ObjectComes-row good)
