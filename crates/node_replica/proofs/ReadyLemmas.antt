-- A ready push may be done.
use Rattle.std.proofs.Common.{◌≡◌, ℕ, List, [], ◌∷◌, Bool, true, Option, Some, None, refl, sym, subst, ⊎_elim}
use Rattle.std.specs.Option.{IfSome}
use Rattle.node_replica.specs.Effects.{MayBeDone}
use Rattle.node_calls.specs.ReplicaState.{ReplicaState}
use Rattle.px_base.specs.Hash.{IsHash}
use Rattle.px_base.specs.RefList.{IsRefList, References}
use Rattle.px_base.specs.declared.hash.Hash.{Hash}
use Rattle.px_base.specs.declared.push.Update.{Update}
use Rattle.refstore.specs.Updates.{after, creation}
use Rattle.objstore.specs.Entries.{Entries}
use Rattle.node_replica.proofs.HashLemmas.{NameHashes-after, given_hash}
use Rattle.node_replica.specs.Hashes.{NameHashes}
use Rattle.node_replica.specs.Replica.{AreReady, IsEmptyUnless, IsReady, push_of}
use Rattle.node_replica.specs.declared.replica.Ready.{Ready}

pub may_be_done : (place : ReplicaState) (ready : Option Ready)
    → AreReady place.refs place.objects place.fence ready → IfSome (push_of ready) (MayBeDone place)
may_be_done place None are = tt
may_be_done place (Some ready) are =
    record { refs = are.list; fits = are.fits; comes = are.comes }

-- once it is done, there is none, and the references are those that it leaves
pub done_ready : (held : Bool) (refs after_ : References) (objects objects' : Entries)
    (fence fence' : ℕ) (was now : Option Ready) (ready : Ready) → held ≡ true → was ≡ Some ready
    → now ≡ None → after_ ≡ after refs ready.updates → AreReady refs objects fence was
    → NameHashes refs
    → AreReady after_ objects' fence' now × IsEmptyUnless held after_ objects' now
    × NameHashes after_
done_ready held refs after_ objects objects' fence fence' was now ready is_held is none left are
    names =
    let one : IsReady refs objects fence ready = subst (AreReady refs objects fence) is are in (
      subst (AreReady after_ objects' fence') (sym none) tt,
      subst (λ (h : Bool). IsEmptyUnless h after_ objects' now) (sym is_held) tt,
      subst NameHashes (sym left)
          (NameHashes-after refs ready.updates one.list.ordered names
          (given_hash ready.updates one.ids)),
    )

no_push : (ready : Option Ready) → push_of ready ≡ None → ready ≡ None
no_push None none = refl
no_push (Some ready) none = absurd (cc)

-- where none is ready, one reference more with such an id leaves all as it has to be
pub one_more_ref : (held : Bool) (refs after_ : References) (objects : Entries) (fence : ℕ)
    (ready : Option Ready) (name : List ℕ) (id : Hash) → push_of ready ≡ None → held ≡ true
    → after_ ≡ after refs (creation name id ∷ []) → IsRefList refs → NameHashes refs → IsHash id
    → AreReady after_ objects fence ready × IsEmptyUnless held after_ objects ready
    × NameHashes after_
one_more_ref held refs after_ objects fence ready name id none is_held is list names hash = (
  subst (AreReady after_ objects fence) (sym (no_push ready none)) tt,
  subst (λ (h : Bool). IsEmptyUnless h after_ objects ready) (sym is_held) tt,
  subst NameHashes (sym is)
      (NameHashes-after refs (creation name id ∷ []) list.ordered names
      (λ update stands. ⊎_elim (λ same. subst (λ (u : Update). IsHash u.new) same hash)
      (λ no. absurd no) stands)),
)
