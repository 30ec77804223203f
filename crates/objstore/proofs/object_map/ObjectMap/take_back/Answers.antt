-- One more is gone.
use Rattle.std.proofs.Common.{◌+◌, [], drop, ap, sym, ◌∙◌, arith}
use Rattle.px_base.specs.declared.hash.Hash.{Hash}
use Rattle.objstore.proofs.Places.{drop-at}
use Rattle.objstore.specs.Bundle.{without}
use Rattle.objstore.specs.Entries.{Entries}
use Rattle.objstore.proofs.object_map.ObjectMap.take_back.Goals as goal

pub loop-id-preserved : goal.loop-id-preserved
loop-id-preserved c =
    let rest = drop (c.loop-id.id-index + 1) c.args.ids.now in
    let any : Hash = record { 0 = [] } in
    ap (λ (s : Entries). without s rest) c.remove.ensures
    ∙ ap (without c.loop-id.self) (sym (drop-at c.args.ids.now c.loop-id.id-index any (omega arith)))
    ∙ c.loop-id.invariant
