-- The form and the name of the object, and what stands under the name, decide what comes of it.
use Rattle.std.proofs.Common.{◌≡◌, None, Some, refl, sym, ap, ◌∙◌, subst}
use Rattle.std.proofs.lemmas.Bool.{false≢true}
use Rattle.std.specs.Bool.{IsTrue}
use Rattle.px_base.specs.Object.{GitObject}
use Rattle.px_base.specs.declared.hash.Hash.{Hash}
use Rattle.objstore.proofs.PutLemmas.{checked, named}
use Rattle.objstore.specs.Entries.{Entries, object_at, own_name}
use Rattle.objstore.specs.Put.{AddsObject}
use Rattle.objstore.proofs.store.Store.put.Goals as goal

pub returns-in-Some-clause-refused : goal.returns-in-Some-clause-refused
returns-in-Some-clause-refused c =
    checked c.args.object.now c.kind.result c.content.result.now c.kind.ensures
    c.content.ensures.value c.check.result _ c.check.ensures c.in-Some.is

pub returns-then-is_same-clause-ok : goal.returns-then-is_same-clause-ok
returns-then-is_same-clause-ok c = record {
  has = ap (object_at c.args.self.now)
      (named c.args.object.now c.kind-2.result c.content-2.result.now c.kind-2.ensures
      c.content-2.ensures.value c.name_of-id.result c.name_of-id.ensures)
      ∙ subst (λ (s : Entries). object_at s c.name_of-id.result ≡ Some c.in-Some-get.other.now)
      c.self.view_is (sym c.in-Some-get.ensures.value)
      ∙ ap (λ (o : GitObject). Some o)
      (c.is_same.ensures.0 (subst IsTrue (sym c.if-is_same.true) refl));
  same = refl;
}

pub returns-in-Some-get-clause-refused : goal.returns-in-Some-get-clause-refused
returns-in-Some-get-clause-refused c =
    let name : own_name c.args.object.now ≡ c.name_of-id.result =
    named c.args.object.now c.kind-2.result c.content-2.result.now c.kind-2.ensures
    c.content-2.ensures.value c.name_of-id.result c.name_of-id.ensures in (
      checked c.args.object.now c.kind.result c.content.result.now c.kind.ensures
          c.content.ensures.value c.check.result _ c.check.ensures c.in_default.is,
      record {
        other = c.in-Some-get.other.now;
        stands = ap (object_at c.args.self.now) name
            ∙ subst (λ (s : Entries). object_at s c.name_of-id.result ≡ Some c.in-Some-get.other.now)
            c.self.view_is (sym c.in-Some-get.ensures.value);
        differs = λ same. false≢true (subst IsTrue c.if-is_same.false (c.is_same.ensures.1 same));
      },
      sym name,
    )

pub set-requires-clause-named : goal.set-requires-clause-named
set-requires-clause-named c = record {
  name = named c.args.object.now c.kind-2.result c.content-2.result.now c.kind-2.ensures
      c.content-2.ensures.value c.name_of-id.result c.name_of-id.ensures;
  form = checked c.args.object.now c.kind.result c.content.result.now c.kind.ensures
      c.content.ensures.value c.check.result _ c.check.ensures c.in_default.is;
}

pub set-requires-clause-small : goal.set-requires-clause-small
set-requires-clause-small c = c.content.ensures.small

pub returns-clause-ok : goal.returns-clause-ok
returns-clause-ok c =
    subst (λ (id : Hash). AddsObject c.args.self.now c.set.new.self id c.args.object.now)
    (sym (named c.args.object.now c.kind-2.result c.content-2.result.now c.kind-2.ensures
    c.content-2.ensures.value c.name_of-id.result c.name_of-id.ensures))
    (c.in_ok-set.ensures.more
    (subst (λ (s : Entries). object_at s c.name_of-id.result ≡ None)
    c.self.view_is (sym c.in_default-get.ensures.value)))

pub returns-clause-accepted : goal.returns-clause-accepted
returns-clause-accepted c =
    checked c.args.object.now c.kind.result c.content.result.now c.kind.ensures
    c.content.ensures.value c.check.result _ c.check.ensures c.in_default.is
