-- An id that has something needs no room; one that was put there is taken away again.
use Rattle.std.proofs.Common.{◌∷◌, [], refl, sym, ap, ◌∙◌, subst}
use Rattle.std.specs.BTreeMap.{insert_entry}
use Rattle.px_base.specs.Hash.{hash_cmp}
use Rattle.objstore.proofs.Moved.{HasRoom-made, HasRoom-present, put_back}
use Rattle.objstore.specs.Bundle.{without}
use Rattle.objstore.specs.Entries.{Entries}
use Rattle.objstore.specs.ObjectMap.{HasRoom}
use Rattle.objstore.proofs.object_map.ObjectMap.make_one.Goals as goal

pub returns-then-contains_key-clause-room : goal.returns-then-contains_key-clause-room
returns-then-contains_key-clause-room c =
    subst (λ (s : Entries). HasRoom s s (c.args.id ∷ [])) c.self.view_is
    (HasRoom-present c.self.inside.objects.entries c.args.id
    (sym c.contains_key.ensures ∙ c.if-contains_key.true))

pub returns-in-Err-clause-err : goal.returns-in-Err-clause-err
returns-in-Err-clause-err c =
    c.remove.ensures
    ∙ put_back c.self.inside.objects.entries c.args.self.now c.insert.new.self.entries
    c.args.self.now [] c.args.id c.in-Some.empty c.contains_key.result c.self.view_is
    c.self.invariant c.contains_key.ensures c.if-contains_key.false c.in_ok-insert.ensures.entries
    refl

pub returns-clause-room : goal.returns-clause-room
returns-clause-room c =
    subst (λ (s : Entries). HasRoom c.args.self.now s (c.args.id ∷ []))
    (sym (c.in_ok-insert.ensures.entries
    ∙ ap (λ (s : Entries). insert_entry hash_cmp s c.args.id c.in-Some.empty) c.self.view_is))
    (HasRoom-made c.args.self.now c.args.id c.in-Some.empty)

pub returns-clause-back : goal.returns-clause-back
returns-clause-back c = λ was is.
    ap (without c.insert.new.self.entries) c.in_default-push.ensures.ok
    ∙ put_back c.self.inside.objects.entries c.args.self.now c.insert.new.self.entries was
    c.args.made.now c.args.id c.in-Some.empty c.contains_key.result c.self.view_is
    c.self.invariant c.contains_key.ensures c.if-contains_key.false c.in_ok-insert.ensures.entries
    is
