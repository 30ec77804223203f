-- Which refusals a push that is not made ready is answered with.
use Rattle.std.proofs.Common.{◌≡◌, ℕ, Bool, true, false, cond, Option, Some, None, sym, subst, ◌⊎◌, ⊎_elim, inl, inr}
use Rattle.std.specs.Option.{option_or}
use Rattle.std.specs.Prelude.{nat_lt}
use Rattle.px_base.specs.declared.hash.Hash.{Hash}
use Rattle.px_base.specs.declared.push.Push.{Push}
use Rattle.std.specs.Prelude.{List}
use Rattle.objstore.specs.Bundle.{bundle_fault}
use Rattle.objstore.specs.Reach.{Objects}
use Rattle.objstore.specs.declared.bundles.BundleFault.{BundleFault}
use Rattle.objstore.specs.declared.bundles.BundleFault.TheVariants as bundle
use Rattle.refstore.specs.Updates.{refusal_of}
use Rattle.refstore.specs.declared.prepared.RefRefusal.{RefRefusal}
use Rattle.refstore.specs.declared.prepared.RefRefusal.TheVariants as refs
use Rattle.node_calls.specs.ReplicaState.{ReplicaState}
use Rattle.node_calls.specs.Calls.{Lacks, fenced, new_tips, not_held, prepare_refusal, with_coming}
use Rattle.node_replica.specs.Prepared.{IsNotPrepared}
use Rattle.node_calls.specs.Refusals.{IsFenced, IsOfObjects, IsOfUpdates, MayAnswer, MayRefuse, Prepare, of_bundle, of_updates}
use Rattle.node_calls.specs.declared.node.NodeError.{NodeError}
use Rattle.node_calls.specs.declared.node.NodeError.TheVariants.{Fault, Memory, Refused}
use Rattle.px_ops.specs.declared.node_refusal.NodeRefusal.{NodeRefusal}
use Rattle.px_ops.specs.declared.node_refusal.NodeRefusal.TheVariants.{Fenced, NoRepo, Missing}

-- the first cause that holds is one of two
one_of : {A : Type 0} (a b : Option A) (r : A) → option_or a b ≡ Some r
    → (a ≡ Some r) ⊎ (b ≡ Some r)
one_of None b r is = inr is
one_of (Some x) b r is = inl is

some_is : {A : Type 0} {a b : A} → ◌≡◌ {A = Option A} (Some a) (Some b) → a ≡ b
some_is {A} {a} {b} is = cc

is_fenced : (b : Bool) (fence : ℕ) (r : NodeRefusal) → cond b (Some (Fenced fence)) None ≡ Some r
    → IsFenced r
is_fenced true fence r is = subst IsFenced (some_is is) tt
is_fenced false fence r is = absurd (cc)

is_no_repo : (b : Bool) (r : NodeRefusal) → cond b None (Some NoRepo) ≡ Some r → r ≡ NoRepo
is_no_repo true r is = absurd (cc)
is_no_repo false r is = sym (some_is is)

is_of_objects : (fault : Option BundleFault) (r : NodeRefusal) → of_bundle fault ≡ Some r
    → IsOfObjects r
is_of_objects None r is = absurd (cc)
is_of_objects (Some (bundle.BadObject index at)) r is = subst IsOfObjects (some_is is) tt
is_of_objects (Some (bundle.Collision id)) r is = subst IsOfObjects (some_is is) tt
is_of_objects (Some bundle.Memory) r is = absurd (cc)

is_of_updates : (refusal : Option RefRefusal) (r : NodeRefusal) → of_updates refusal ≡ Some r
    → IsOfUpdates r
is_of_updates None r is = absurd (cc)
is_of_updates (Some refs.Empty) r is = subst IsOfUpdates (some_is is) tt
is_of_updates (Some (refs.Void name)) r is = subst IsOfUpdates (some_is is) tt
is_of_updates (Some (refs.Twice name)) r is = subst IsOfUpdates (some_is is) tt
is_of_updates (Some (refs.Stale name have)) r is = subst IsOfUpdates (some_is is) tt
is_of_updates (Some (refs.Conflict name other)) r is = subst IsOfUpdates (some_is is) tt
is_of_updates (Some refs.TooManyRefs) r is = subst IsOfUpdates (some_is is) tt
is_of_updates (Some refs.Memory) r is = absurd (cc)

is_missing : (objects : Objects) (tips : List Hash) (r : NodeRefusal) → Lacks objects tips r
    → IsOfObjects r
is_missing objects tips (Missing id) lacks = tt
is_missing objects tips other lacks = absurd lacks

-- the causes before the last one
prepare_may : (lease : ℕ) (push : Push) (place : ReplicaState) (r : NodeRefusal)
    → prepare_refusal lease push place ≡ Some r → MayRefuse Prepare r
prepare_may lease push place r is =
    let objects = of_bundle (bundle_fault place.objects 0 push.objects) in
    let updates = of_updates (refusal_of place.refs push.updates) in
    ⊎_elim (λ here. inl (is_fenced (nat_lt lease place.fence) place.fence r here))
    (λ later. inr (⊎_elim (λ here. inl (is_no_repo place.held r here))
    (λ last. inr (⊎_elim
    (λ here. inl (is_of_objects (bundle_fault place.objects 0 push.objects) r here))
    (λ here. inr (is_of_updates (refusal_of place.refs push.updates) r here))
    (one_of objects updates r last)))
    (one_of (not_held place) (option_or objects updates) r later)))
    (one_of (fenced lease place) (option_or (not_held place) (option_or objects updates)) r is)

pub prepare_known : (lease : ℕ) (push : Push) (place : ReplicaState) (e : NodeError)
    → IsNotPrepared lease push place e → MayAnswer Prepare e
prepare_known lease push place Fault not = absurd not
prepare_known lease push place Memory not = tt
prepare_known lease push place (Refused r) not =
    ⊎_elim (λ first. prepare_may lease push place r first)
    (λ last. inr (inr (inl (is_missing (with_coming place push.objects) (new_tips push.updates) r
    last.1))))
    not
