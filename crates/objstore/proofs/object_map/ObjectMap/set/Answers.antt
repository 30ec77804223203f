-- There is room, so the object comes to stand under the id.
use Rattle.std.proofs.Common.{◌≡◌, true, sym, ap, ◌∙◌, subst}
use Rattle.std.specs.BTreeMap.{insert_entry}
use Rattle.std.specs.Option.{is_some}
use Rattle.px_base.specs.Hash.{hash_cmp}
use Rattle.objstore.proofs.Moved.{set_where_some}
use Rattle.objstore.specs.Entries.{Entries, object_at}
use Rattle.objstore.proofs.object_map.ObjectMap.set.Goals as goal

pub returns : goal.returns
returns c =
    set_where_some c.insert.result c.self.inside.objects.entries c.insert.new.self.entries c.args.id
    c.args.object c.insert.ensures.entries c.insert.ensures.absent
    (subst (λ (s : Entries). is_some (object_at s c.args.id) ≡ true) (sym c.self.view_is) c.requires)
    ∙ ap (λ (s : Entries). insert_entry hash_cmp s c.args.id c.args.object) c.self.view_is
