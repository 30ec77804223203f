-- An object of the same name is another one, or the object may come.
use Rattle.std.proofs.Common.{◌≡◌, ◌≢◌, ◌++◌, Some, None, sym, ap, ◌∙◌, inl, inr, subst, refl}
use Rattle.std.proofs.lemmas.Bool.{false≢true}
use Rattle.std.specs.Bool.{IsTrue}
use Rattle.px_base.specs.Object.{GitObject}
use Rattle.px_base.specs.declared.hash.Hash.{Hash}
use Rattle.object_format.specs.Links.{bad_byte}
use Rattle.objstore.proofs.BoundLemmas.{lookup-both}
use Rattle.objstore.proofs.Comes.{object_fault-none, object_fault-collision}
use Rattle.objstore.proofs.PutLemmas.{checked, named}
use Rattle.objstore.specs.Entries.{object_at, object_in, own_name}
use Rattle.objstore.specs.declared.bundles.BundleFault.{BundleFault}
use Rattle.objstore.specs.declared.bundles.BundleFault.TheVariants.{Collision}
use Rattle.objstore.proofs.bundles.bring.Goals as goal
use Rattle.objstore.proofs.bundles.bring.Goals.{in-Some-find+else-not-is_same, in_default-find}

pub returns-then-not-is_same-clause-refused : goal.returns-then-not-is_same-clause-refused
returns-then-not-is_same-clause-refused c =
    let name : own_name c.args.object.now ≡ c.name_of-id.result =
    named c.args.object.now c.kind-2.result c.content-2.result.now c.kind-2.ensures
    c.content-2.ensures.value c.name_of-id.result c.name_of-id.ensures in
    let form : bad_byte c.args.object.now.kind c.args.object.now.content ≡ None =
    checked c.args.object.now c.kind.result c.content.result.now c.kind.ensures
    c.content.ensures.value c.check.result _ c.check.ensures c.in_default.is in
    let differs : c.in-Some-find.other.now ≢ c.args.object.now =
    λ same. false≢true (subst IsTrue c.if-not-is_same.true (c.is_same.ensures.1 same)) in
    inr (object_fault-collision (c.args.store.now ++ c.args.extra.now) c.args.index c.args.object.now
    c.in-Some-find.other.now form
    (ap (object_at (c.args.store.now ++ c.args.extra.now)) name
    ∙ sym (lookup-both c.args.store.now c.args.extra.now c.name_of-id.result)
    ∙ sym c.in-Some-find.ensures.value) differs
    ∙ ap (λ (id : Hash). let fault : BundleFault = Collision id in Some fault) name)

pub returns-clause-accepted : goal.returns-clause-accepted
returns-clause-accepted c =
    let name : own_name c.args.object.now ≡ c.name_of-id.result =
    named c.args.object.now c.kind-2.result c.content-2.result.now c.kind-2.ensures
    c.content-2.ensures.value c.name_of-id.result c.name_of-id.ensures in
    let form : bad_byte c.args.object.now.kind c.args.object.now.content ≡ None =
    checked c.args.object.now c.kind.result c.content.result.now c.kind.ensures
    c.content.ensures.value c.check.result _ c.check.ensures c.in_default.is in
    let found : object_at (c.args.store.now ++ c.args.extra.now) (own_name c.args.object.now)
    ≡ object_in c.args.store.now c.args.extra.now c.name_of-id.result =
    ap (object_at (c.args.store.now ++ c.args.extra.now)) name
    ∙ sym (lookup-both c.args.store.now c.args.extra.now c.name_of-id.result) in
    object_fault-none (c.args.store.now ++ c.args.extra.now) c.args.index c.args.object.now form
    (elim c.match-find.branch [
      | in-Some-find+else-not-is_same w ↦ inr (found ∙ sym w.in-Some-find.ensures.value
          ∙ ap (λ (o : GitObject). Some o)
          (w.is_same.ensures.0 (subst IsTrue (sym w.if-not-is_same.false) refl)))
      | in_default-find w ↦ inl (found ∙ sym w.in_default-find.ensures.value)
    ])

pub set-requires-clause-named : goal.set-requires-clause-named
set-requires-clause-named c = record {
  name = named c.args.object.now c.kind-2.result c.content-2.result.now c.kind-2.ensures
      c.content-2.ensures.value c.name_of-id.result c.name_of-id.ensures;
  form = checked c.args.object.now c.kind.result c.content.result.now c.kind.ensures
      c.content.ensures.value c.check.result _ c.check.ensures c.in_default.is;
}

pub set-requires-clause-small : goal.set-requires-clause-small
set-requires-clause-small c = c.content.ensures.small
