-- One row more is taken over into replicas, or it is not.
use Rattle.std.proofs.Common.{◌≡◌, ℕ, List, [], true, length, Option, Some, None, refl, sym, ap, ◌∙◌, subst, ⊎_elim}
use Rattle.std.specs.Map.{lookup}
use Rattle.std.specs.Option.{is_some, unwrap_or}
use Rattle.std.specs.Prelude.{Result, Ok, Err, OnOk}
use Rattle.px_base.specs.Object.{GitObject}
use Rattle.px_base.specs.RefList.{is_name}
use Rattle.px_base.specs.RepoPath.{IsRepoPath}
use Rattle.px_base.specs.declared.hash.Hash.{Hash}
use Rattle.px_keeper.specs.Reading.{all_rows, no_rows}
use Rattle.px_keeper.specs.Row.{Rows}
use Rattle.node_rows.proofs.OneNode.{one_node}
use Rattle.node_rows.proofs.ReadTables.{all_stand, nothing_has}
use Rattle.node_rows.specs.BadRow.{AreGood}
use Rattle.node_rows.specs.Rows.{StandFor}
use Rattle.node_rows.proofs.RowBytes.{one_object}
use Rattle.node_calls.proofs.ReplicaLemmas.{this_or_other}
use Rattle.node_calls.specs.Lawful.{IsLawful, IsLawfulReplica}
use Rattle.node_calls.specs.ReplicaState.{Changes, NodeState, ReplicaState, ReadyPush, nothing, without_ready}
use Rattle.node_rows.specs.Reading.{HasRows, ObjectComes, RefComes, with_one, with_ref}
use Rattle.px_node.proofs.NameSize.{name_size}
use Rattle.px_node.proofs.LawfulLemmas.{AreLawful-put, lawful_at_first}
use Rattle.px_node.proofs.Places.{Changes-back, Changes-put, place_here}
use Rattle.px_node.specs.OpenEnds.{Opens}
use Rattle.px_node.specs.Opening.{AreTold, TakesObject, TakesRef}
use Rattle.px_node.specs.RowKeys.{TellsObject, TellsRef}
use Rattle.px_node.specs.Shelf.{AreLawful, Puts, Replicas, place_at}
use Rattle.node_replica.specs.Told.{MayHaveObject, MayHaveRef}
use Rattle.px_keeper.specs.declared.take_rows.NotTaken.{NotTaken}
use Rattle.px_keeper.specs.declared.take_rows.NotTaken.TheVariants.{BadRow}

-- an error of one call is that of another
pub as_err : {A B : Type 0} (e : NotTaken) → ◌≡◌ {A = Result A NotTaken} (Err e) (Err BadRow)
    → ◌≡◌ {A = Result B NotTaken} (Err e) (Err BadRow)
as_err {A} {B} e is =
    let same : e ≡ BadRow = cc in
    ap {B = Result B NotTaken} (λ (x : NotTaken). Err x) same

-- what is held stands under a path
pub held_is_path : (replicas : Replicas) → AreLawful replicas → (path : List ℕ)
    → (place_at replicas path).held ≡ true → IsRepoPath path
held_is_path replicas are path held = at (lookup (is_name path) replicas) refl
  where
    at : (found : Option ReplicaState) → lookup (is_name path) replicas ≡ found → IsRepoPath path
    at (Some place) is = are.paths path (ap is_some is)
    at None is = absurd (
        let none : place_at replicas path ≡ nothing =
        ap (λ (o : Option ReplicaState). unwrap_or o nothing) is in
        let not_held : (place_at replicas path).held ≡ nothing.held =
        ap (λ (p : ReplicaState). p.held) none in
        cc)

module _ (old new : Replicas) (path : List ℕ) (place : ReplicaState) (puts : Puts old new path place)
    (told : AreTold old) (lawful : IsLawfulReplica place) (unready : place.ready ≡ None) where
  changes : Changes (place_at old) (place_at new) path place
  changes = Changes-put old new path place puts

  -- replicas are as rows tell them, once such a one was put under a path
  pub told_put : IsRepoPath path → AreTold new
  told_put lawful_path = record {
    lawful = AreLawful-put old new path place puts lawful_path lawful told.lawful;
    unready = λ q. ⊎_elim
        (λ same. subst (λ (p : List ℕ). (place_at new p).ready ≡ None) same
        (ap (λ (p : ReplicaState). p.ready) changes.here ∙ unready))
        (λ same. ap (λ (p : ReplicaState). p.ready) same ∙ told.unready q)
        (this_or_other (place_at old) (place_at new) path changes.others q);
  }

  -- and once one that was there was changed to such a one
  pub told_back : (was : ReplicaState) → Some was ≡ lookup (is_name path) old → AreTold new
  told_back was found = told_put (told.lawful.paths path (sym (ap is_some found)))

-- what was found under a path has no push that is ready
pub found_unready : (replicas : Replicas) (path : List ℕ) (place : ReplicaState) → AreTold replicas
    → Some place ≡ lookup (is_name path) replicas → place.ready ≡ None
found_unready replicas path place told found =
    sym (ap (λ (p : ReplicaState). p.ready) (place_here replicas path path place refl found))
    ∙ told.unready path

-- ---- a reference

module _ (old : Replicas) (key value path name : List ℕ) (id : Hash) (lawful : AreLawful old) where
  -- a reference that comes is one that the row tells
  pub tells_ref : RefComes (place_at old) key value path name id → TellsRef key value path name id
  tells_ref comes = record {
    parts = comes.parts;
    lawful = held_is_path old lawful path comes.held;
    named = comes.named;
    is = comes.is;
    hash = comes.hash;
  }

module _ (old new : Replicas) (key value path name : List ℕ) (id : Hash) (was now_ : ReplicaState)
    (tells : TellsRef key value path name id) (found : Some was ≡ lookup (is_name path) old)
    (result : Result (Unit {0}) NotTaken) where
  here : place_at old path ≡ was
  here = place_here old path path was refl found

  -- it was taken over
  pub takes_ref : Puts old new path now_ → OnOk result (now_ ≡ with_ref name id was)
      → OnOk result (MayHaveRef was name id)
      → OnOk result (TakesRef (place_at old) (place_at new) key value)
  takes_ref puts = at result
    where
      at : (r : Result (Unit {0}) NotTaken) → OnOk r (now_ ≡ with_ref name id was)
          → OnOk r (MayHaveRef was name id)
          → OnOk r (TakesRef (place_at old) (place_at new) key value)
      at (Ok tt) is may = record {
        path = path;
        name = name;
        id = id;
        comes = record {
          parts = tells.parts;
          held = ap (λ (p : ReplicaState). p.held) here ∙ may.held;
          named = tells.named;
          is = tells.is;
          hash = tells.hash;
          fits = (subst (λ (p : ReplicaState). MayHaveRef p name id) (sym here) may).fits;
        };
        changes = Changes-back old new path path was now_ (with_ref name id) refl found is puts;
      }
      at (Err e) is may = tt

  -- where it was not, the row is that of no reference that comes
  pub no_ref : (result ≡ Err BadRow → MayHaveRef was name id → ⊥) → result ≡ Err BadRow
      → (q other : List ℕ) (h : Hash) → RefComes (place_at old) key value q other h → ⊥
  no_ref bad is q other h comes =
      let parts : ◌≡◌ {A = Option (List ℕ × List ℕ)} (Some (q, other)) (Some (path, name)) =
      sym comes.parts ∙ tells.parts in
      let both : ◌≡◌ {A = List ℕ × List ℕ} (q, other) (path, name) = cc in
      let bytes : h.0 ≡ id.0 = sym comes.is ∙ tells.is in
      let same : h ≡ id = ap (λ (b : List ℕ). let x : Hash = record { 0 = b } in x) bytes in
      bad is (subst (λ (p : ReplicaState). MayHaveRef p name id) here
      (subst (λ (x : Hash). MayHaveRef (place_at old path) name x) same
      (subst (λ (p : List ℕ × List ℕ). MayHaveRef (place_at old p.0) p.1 h) both
      (record { held = comes.held; fits = comes.fits }))))

  -- the replicas are as rows tell them still
  pub told_with_ref : Puts old new path now_ → AreTold old → IsLawfulReplica now_
      → OnOk result (now_ ≡ with_ref name id was) → OnOk result (AreTold new)
  told_with_ref puts told lawful_ = at result
    where
      at : (r : Result (Unit {0}) NotTaken) → OnOk r (now_ ≡ with_ref name id was)
          → OnOk r (AreTold new)
      at (Ok tt) is = told_back old new path now_ puts told lawful_
          (ap (λ (p : ReplicaState). p.ready) is ∙ found_unready old path was told found) was found
      at (Err e) is = tt

-- ---- an object

module _ (old new : Replicas) (key value path : List ℕ) (id : Hash) (object : GitObject)
    (was now_ : ReplicaState) (tells : TellsObject key value path id object)
    (found : Some was ≡ lookup (is_name path) old) (result : Result (Unit {0}) NotTaken) where
  stands : place_at old path ≡ was
  stands = place_here old path path was refl found

  -- it was taken over
  pub takes_object : Puts old new path now_ → OnOk result (now_ ≡ with_one object was)
      → OnOk result (MayHaveObject was id object)
      → OnOk result (TakesObject (place_at old) (place_at new) key value)
  takes_object puts = at result
    where
      at : (r : Result (Unit {0}) NotTaken) → OnOk r (now_ ≡ with_one object was)
          → OnOk r (MayHaveObject was id object)
          → OnOk r (TakesObject (place_at old) (place_at new) key value)
      at (Ok tt) is may =
          let may_there : MayHaveObject (place_at old path) id object =
          subst (λ (p : ReplicaState). MayHaveObject p id object) (sym stands) may in
          record {
            path = path;
            id = id;
            object = object;
            comes = record {
              parts = tells.parts;
              held = may_there.held;
              absent = may_there.absent;
              is = tells.is;
              small = tells.small;
              named = may_there.named;
            };
            changes = Changes-back old new path path was now_ (with_one object) refl found is puts;
          }
      at (Err e) is may = tt

  -- where it was not, the row is that of no object that comes
  pub no_object : (result ≡ Err BadRow → MayHaveObject was id object → ⊥) → result ≡ Err BadRow
      → (q : List ℕ) (h : Hash) (other : GitObject)
      → ObjectComes (place_at old) key value q h other → ⊥
  no_object bad is q h other comes =
      let parts : ◌≡◌ {A = Option (List ℕ × List ℕ)} (Some (q, h.0)) (Some (path, id.0)) =
      sym comes.parts ∙ tells.parts in
      let both : ◌≡◌ {A = List ℕ × List ℕ} (q, h.0) (path, id.0) = cc in
      let one : other ≡ object = one_object other object (sym comes.is ∙ tells.is) in
      bad is (subst (λ (p : ReplicaState). MayHaveObject p id object) stands
      (subst (λ (o : GitObject). MayHaveObject (place_at old path) id o) one
      (subst (λ (p : List ℕ × List ℕ). MayHaveObject (place_at old p.0) (record { 0 = p.1 }) other)
      both (record { held = comes.held; absent = comes.absent; named = comes.named }))))

  -- the replicas are as rows tell them still
  pub told_with_object : Puts old new path now_ → AreTold old → IsLawfulReplica now_
      → OnOk result (now_ ≡ with_one object was) → OnOk result (AreTold new)
  told_with_object puts told lawful_ = at result
    where
      at : (r : Result (Unit {0}) NotTaken) → OnOk r (now_ ≡ with_one object was)
          → OnOk r (AreTold new)
      at (Ok tt) is = told_back old new path now_ puts told lawful_
          (ap (λ (p : ReplicaState). p.ready) is ∙ found_unready old path was told found) was found
      at (Err e) is = tt

-- an object that comes is one that the row tells
pub tells_object : (old : Replicas) (key value path : List ℕ) (id : Hash) (object : GitObject)
    → AreLawful old → ObjectComes (place_at old) key value path id object
    → TellsObject key value path id object
tells_object old key value path id object lawful comes = record {
  parts = comes.parts;
  lawful = held_is_path old lawful path comes.held;
  size = ap (λ (h : Hash). length h.0) (sym comes.named.name) ∙ name_size object;
  is = comes.is;
  small = comes.small;
}

-- ---- before all rows, and after them

-- where there are no replicas, nothing was told yet
pub nothing_told : (replicas : Replicas) → replicas ≡ [] → AreTold replicas
nothing_told replicas none =
    subst AreTold (sym none) (record { lawful = lawful_at_first [] refl; unready = λ path. refl })

pub nothing_had : (replicas : Replicas) → replicas ≡ [] → HasRows (place_at replicas) no_rows
nothing_had replicas none =
    nothing_has (place_at replicas) (λ path. ap (λ (r : Replicas). place_at r path) none)

module _ (kept : Option Rows) (opened : NodeState)
    (reads : (rows : Rows) → kept ≡ Some rows → AreGood rows × HasRows opened (all_rows rows)) where
  -- rows that are told and were all read are good, and stand for the node
  pub all_opened : Opens kept opened
  all_opened rows told = ((reads rows told).0, all_stand rows opened (reads rows told).1)

  -- where they stood for a lawful node, they give it back
  pub found_again : (rows : Rows) (node : NodeState) → kept ≡ Some rows → IsLawful node
      → StandFor rows node → (path : List ℕ) → opened path ≡ without_ready (node path)
  found_again rows node told lawful stand path =
      let has : HasRows opened (all_rows rows) = (reads rows told).1 in
      ap (λ (r : Option ReadyPush). record (opened path) { ready = r }) (has.unready path)
      ∙ one_node rows opened node has.lawful lawful (all_stand rows opened has) stand path
