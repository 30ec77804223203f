-- After a batch, the rows stand for the node of which its changes say what it has.
use Rattle.std.proofs.Common.{◌≡◌, ◌==◌, ◌&&◌, ◌+◌, ◌<◌, ℕ, List, [], ◌∷◌, ◌++◌, true, false, not, Bool, Option, Some, None, refl, ap, ◌∙◌, ◌⊎◌, ⊎_elim, inl, inr, arith}
use Rattle.std.specs.List.{AllByRecursion}
use Rattle.std.specs.List.Sorted.{IsStrictlySortedBy}
use Rattle.std.specs.Map.{keys_of}
use Rattle.std.specs.Option.{is_none}
use Rattle.std.proofs.lemmas.Bool.{and_left, ne_eqb}
use Rattle.px_base.specs.Object.{GitObject}
use Rattle.px_base.specs.RefList.{References, ref_at}
use Rattle.px_base.specs.RepoPath.{IsRepoPath}
use Rattle.px_base.specs.declared.hash.Hash.{Hash}
use Rattle.objstore.specs.Bundle.{bundle_fault, with_objects}
use Rattle.objstore.specs.Entries.{Entries, object_at}
use Rattle.refstore.proofs.After.{Ascends}
use Rattle.refstore.specs.Updates.{Fits, after}
use Rattle.px_keeper.specs.Change.{Names, applied}
use Rattle.px_keeper.specs.Row.{Rows, row_key}
use Rattle.px_keeper.specs.declared.change.Change.{Change}
use Rattle.node_rows.proofs.ObjectRows.{coming_name, coming_say, gone_name, gone_say}
use Rattle.node_rows.proofs.RefRows.{refs_name, refs_say, updates_name, updates_say}
use Rattle.node_rows.proofs.RowLemmas.{Names-back, Names-front, Says, Says-replica, StandFor-applied, all_append, named_or_same}
use Rattle.node_calls.specs.ReplicaState.{Changes, NodeState, ReplicaState, ReadyPush}
use Rattle.node_rows.specs.Rows.{StandFor, is_untouched, under}
use Rattle.node_rows.specs.Writes.{applied_rows, coming_changes, committed_rows, emptied_rows, fenced_rows, objects_gone, refs_changes, replica_change, update_changes}

-- where the fence is above 0, something was done
pub touched_fence : (place : ReplicaState) (fence : ℕ) → place.fence ≡ fence → 0 < fence
    → is_untouched place ≡ false
touched_fence place fence is above =
    and_left ((place.fence == 0) && is_none place.last) (not place.held)
    (and_left (place.fence == 0) (is_none place.last)
    (ne_eqb place.fence 0 (λ e. absurd (omega (arith, e, is, above)))))

touched : (place : ReplicaState) (lease : ℕ) → place.fence ≡ lease + 1 → is_untouched place ≡ false
touched place lease is = touched_fence place (lease + 1) is (omega arith)

-- the names of no references ascend
none_ascend : Ascends []
unfolding IsStrictlySortedBy
none_ascend = tt

module _ (rows : Rows) (old new : NodeState) (path : List ℕ) (place : ReplicaState)
    (stand : StandFor rows old) (lawful : IsRepoPath path) (changes : Changes old new path place)
  where
    here_refs : (refs : References) → place.refs ≡ refs → (new path).refs ≡ refs
    here_refs refs is = ap (λ (p : ReplicaState). p.refs) changes.here ∙ is

    here_objects : (objects : Entries) → place.objects ≡ objects → (new path).objects ≡ objects
    here_objects objects is = ap (λ (p : ReplicaState). p.objects) changes.here ∙ is

    -- the row of the repository is put, and then come changes of references and of objects, which
    -- say what it has, where each that is not as before is named
    stand_after : (fence : ℕ) (last : Option ℕ) (held : Bool) (refs objects : List Change)
        → is_untouched place ≡ false → place.fence ≡ fence → place.last ≡ last → place.held ≡ held
        → AllByRecursion (Says new) refs → AllByRecursion (Says new) objects
        → ((name : List ℕ) → Names refs (row_key 7 (under path name))
        ⊎ (ref_at (new path).refs name ≡ ref_at (old path).refs name))
        → ((id : Hash) → Names objects (row_key 8 (under path id.0))
        ⊎ (object_at (new path).objects id ≡ object_at (old path).objects id))
        → StandFor (applied rows (replica_change path fence last held ∷ (refs ++ objects))) new
    stand_after fence last held refs objects touched_ same_fence same_last same_held refs_say_
        objects_say each_ref each_object =
        StandFor-applied rows (replica_change path fence last held ∷ (refs ++ objects)) old new stand (
          Says-replica new path lawful fence last held
              (ap is_untouched changes.here ∙ touched_)
              (ap (λ (p : ReplicaState). p.fence) changes.here ∙ same_fence)
              (ap (λ (p : ReplicaState). p.last) changes.here ∙ same_last)
              (ap (λ (p : ReplicaState). p.held) changes.here ∙ same_held),
          all_append (Says new) refs objects refs_say_ objects_say,
        )
        (named_or_same old new path changes.others
        (Names (replica_change path fence last held ∷ (refs ++ objects))) (inl (inl refl))
        (λ name. ⊎_elim
        (λ named. inl (inr (Names-front refs objects (row_key 7 (under path name)) named)))
        (λ same. inr same) (each_ref name))
        (λ id. ⊎_elim
        (λ named. inl (inr (Names-back refs objects (row_key 8 (under path id.0)) named)))
        (λ same. inr same) (each_object id)))

    -- the fence is this, and nothing else changes but the push that is ready
    pub stand_fenced : (fence : ℕ) → is_untouched place ≡ false → place.fence ≡ fence
        → place.last ≡ (old path).last → place.held ≡ (old path).held
        → place.refs ≡ (old path).refs → place.objects ≡ (old path).objects
        → StandFor (applied rows (fenced_rows path fence (old path))) new
    stand_fenced fence touched_ same_fence same_last same_held same_refs same_objects =
        stand_after fence (old path).last (old path).held [] [] touched_ same_fence same_last
        same_held tt tt
        (λ name. inr (ap (λ (r : References). ref_at r name)
        (here_refs (old path).refs same_refs)))
        (λ id. inr (ap (λ (s : Entries). object_at s id)
        (here_objects (old path).objects same_objects)))

    -- the references are these, in place of those that were there
    each_replaced : (refs : References) → place.refs ≡ refs → (name : List ℕ)
        → Names (refs_changes path (old path).refs refs) (row_key 7 (under path name))
        ⊎ (ref_at (new path).refs name ≡ ref_at (old path).refs name)
    each_replaced refs is name = ⊎_elim (λ named. inl named)
        (λ same. inr (ap (λ (r : References). ref_at r name) (here_refs refs is) ∙ same))
        (refs_name path (old path).refs refs name)

    -- these objects came to those that were there
    each_came : (objects : List GitObject) → bundle_fault (old path).objects 0 objects ≡ None
        → place.objects ≡ with_objects (old path).objects objects → (id : Hash)
        → Names (coming_changes path (old path).objects objects) (row_key 8 (under path id.0))
        ⊎ (object_at (new path).objects id ≡ object_at (old path).objects id)
    each_came objects comes is id = ⊎_elim (λ named. inl named)
        (λ same. inr (ap (λ (s : Entries). object_at s id)
        (here_objects (with_objects (old path).objects objects) is) ∙ same))
        (coming_name path (old path).objects 0 objects comes id)

    -- the repository is held or not, with no references and no objects
    pub stand_emptied : (lease : ℕ) (held : Bool) → place.fence ≡ lease + 1
        → place.last ≡ (old path).last → place.held ≡ held → place.refs ≡ [] → place.objects ≡ []
        → StandFor (applied rows (emptied_rows path lease held (old path))) new
    stand_emptied lease held same_fence same_last same_held no_refs no_objects =
        stand_after (lease + 1) (old path).last held (refs_changes path (old path).refs [])
        (objects_gone path (keys_of (old path).objects)) (touched place lease same_fence)
        same_fence same_last same_held
        (refs_say new path lawful (old path).refs [] none_ascend (here_refs [] no_refs))
        (gone_say new path lawful (keys_of (old path).objects) (here_objects [] no_objects))
        (each_replaced [] no_refs)
        (λ id. ⊎_elim (λ named. inl named)
        (λ same. inr (ap (λ (s : Entries). object_at s id) (here_objects [] no_objects) ∙ same))
        (gone_name path (old path).objects id))

    -- these references take the place of those that were there, and these objects come
    pub stand_applied : (lease : ℕ) (refs : References) (objects : List GitObject)
        → bundle_fault (old path).objects 0 objects ≡ None → Ascends refs
        → place.fence ≡ lease + 1 → place.last ≡ (old path).last → place.held ≡ true
        → place.refs ≡ refs → place.objects ≡ with_objects (old path).objects objects
        → StandFor (applied rows (applied_rows path lease refs objects (old path))) new
    stand_applied lease refs objects comes ascends same_fence same_last held is_refs is_objects =
        stand_after (lease + 1) (old path).last true (refs_changes path (old path).refs refs)
        (coming_changes path (old path).objects objects) (touched place lease same_fence)
        same_fence same_last held
        (refs_say new path lawful (old path).refs refs ascends (here_refs refs is_refs))
        (coming_say new path lawful (old path).objects 0 objects comes
        (here_objects (with_objects (old path).objects objects) is_objects))
        (each_replaced refs is_refs) (each_came objects comes is_objects)

    -- the updates of a push are done, and its objects come
    pub stand_pushed : (lease : ℕ) (push : ReadyPush) → Ascends (old path).refs
        → Fits push.updates (old path).refs
        → bundle_fault (old path).objects 0 push.objects ≡ None → place.fence ≡ lease + 1
        → place.last ≡ Some lease → place.held ≡ true
        → place.refs ≡ after (old path).refs push.updates
        → place.objects ≡ with_objects (old path).objects push.objects
        → StandFor (applied rows (committed_rows path lease push (old path))) new
    stand_pushed lease push ascends fits comes same_fence same_last held is_refs is_objects =
        stand_after (lease + 1) (Some lease) true (update_changes path push.updates)
        (coming_changes path (old path).objects push.objects) (touched place lease same_fence)
        same_fence same_last held
        (updates_say new path lawful (old path).refs push.updates ascends fits
        (here_refs (after (old path).refs push.updates) is_refs))
        (coming_say new path lawful (old path).objects 0 push.objects comes
        (here_objects (with_objects (old path).objects push.objects) is_objects))
        (λ name. ⊎_elim (λ named. inl named)
        (λ same. inr (ap (λ (r : References). ref_at r name)
        (here_refs (after (old path).refs push.updates) is_refs) ∙ same))
        (updates_name path (old path).refs push.updates ascends fits name))
        (each_came push.objects comes is_objects)
