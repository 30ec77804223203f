use Rattle.std.proofs.Common.{◌≡◌, ap, ◌∙◌, sym, subst}
use Rattle.px_base.specs.RefList.{References, IsRefList}
use Rattle.refstore.specs.RefMap.{IsRefMap}
use Rattle.refstore.specs.Updates.{after}
use Rattle.refstore.proofs.RefLists.{IsRefList-fits}
use Rattle.refstore.proofs.prepared.Prepared.new.Goals as goal

pub of_map-requires : goal.of_map-requires
of_map-requires c =
    let made : c.in_ok-map.map ≡ after c.args.refs.now c.args.updates.now =
    c.in_ok-map.ensures ∙ ap (λ (r : References). after r c.args.updates.now) c.map.ensures.value in
    subst IsRefList (sym made)
    (IsRefList-fits c.args.refs.now c.args.updates.now c.in_ok-check.ensures.list
    c.in_ok-check.ensures.accepted (subst IsRefMap made c.len-names.ensures.map))
