-- One id more has room.
use Rattle.std.proofs.Common.{[], List, sym, ap, subst, take, arith}
use Rattle.std.proofs.lemmas.List.{take_all, take_more}
use Rattle.std.proofs.Math.ListN.{get_or}
use Rattle.px_base.specs.declared.hash.Hash.{Hash}
use Rattle.objstore.proofs.Moved.{HasRoom-more, HasRoom-none}
use Rattle.objstore.specs.Bundle.{without}
use Rattle.objstore.specs.ObjectMap.{HasRoom}
use Rattle.objstore.proofs.object_map.ObjectMap.make_room.Goals as goal

pub loop-id-init : goal.loop-id-init
loop-id-init c = record {
  room = HasRoom-none c.args.self.now;
  back = ap (without c.args.self.now) c.new-made.ensures;
}

pub loop-id-preserved : goal.loop-id-preserved
loop-id-preserved c =
    let at = c.loop-id.id-index in
    let any : Hash = record { 0 = [] } in
    record {
      room = subst (λ (ids : List Hash). HasRoom c.args.self.now c.make_one.new.self ids)
          (sym (take_more c.args.ids.now at any (omega arith)))
          (HasRoom-more c.args.self.now c.loop-id.self c.make_one.new.self
          (take at c.args.ids.now) (get_or c.args.ids.now at any) c.loop-id.invariant.room c.in_default.ensures.room);
      back = c.in_default.ensures.back c.args.self.now c.loop-id.invariant.back;
    }

pub returns-clause-room : goal.returns-clause-room
returns-clause-room c =
    subst (HasRoom c.args.self.now c.loop-id.self)
    (take_all c.loop-id.id-index c.args.ids.now (omega arith)) c.loop-id.invariant.room
