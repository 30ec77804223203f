-- The store takes the object under its name; all its objects stay small.
use Rattle.std.proofs.Common.{Option, Some, cond, ap, ◌∙◌, subst}
use Rattle.px_base.specs.Object.{GitObject}
use Rattle.objstore.specs.Entries.{Entries, object_at, is_id, IsStore}
use Rattle.objstore.specs.Put.{AddsObject}
use Rattle.objstore.proofs.EntriesLemmas.{Takes, IsStore-more, AreSmall-more, AddsObject-made}
use Rattle.objstore.proofs.store.Store.set.Goals as goal

-- what the map has after the insertion
takes : (c : goal.Joined-branch-3)
    → Takes c.self.inside.objects.entries c.insert.new.self.entries c.args.id c.args.object.now
takes c = λ q. c.in_ok-insert.ensures.updates.0 q
    ∙ ap (λ (o : GitObject). cond {A = Option GitObject} (is_id c.args.id q) (Some o)
    (object_at c.self.inside.objects.entries q)) c.in_ok-copy.ensures

-- all stand under their names
store : (c : goal.Joined-branch-3) → IsStore c.insert.new.self.entries
store c =
    IsStore-more c.self.inside.objects.entries _ c.args.id c.args.object.now (takes c)
    c.self.invariant.0 c.requires.named c.insert.ensures.ordered

pub invariant_of-self-2 : goal.invariant_of-self-2
invariant_of-self-2 c = (
  store c,
  AreSmall-more c.self.inside.objects.entries _ c.args.id c.args.object.now (takes c)
      c.self.invariant.1 c.requires.small,
)

pub returns-clause-more : goal.returns-clause-more
returns-clause-more c = λ absent.
    let before = c.self.inside.objects.entries in
    let made : AddsObject before c.insert.new.self.entries c.args.id c.args.object.now =
    AddsObject-made before _ c.args.id c.args.object.now (takes c) c.in_ok-insert.field-0
    c.in_ok-insert.ensures.old
    (ap (λ (s : Entries). object_at s c.args.id) c.self.view_is ∙ absent)
    c.in_ok-insert.ensures.len in
    subst (λ (s : Entries). AddsObject s c.insert.new.self.entries c.args.id c.args.object.now)
    c.self.view_is made

pub returns-clause-store : goal.returns-clause-store
returns-clause-store c = store c
