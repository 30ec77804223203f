use Rattle.std.proofs.Common.{subst, sym}
use Rattle.std.specs.Option.{IsSome}
use Rattle.issued.specs.Entries.{Pushes}
use Rattle.issued.specs.Issued.{push_room_at}
use Rattle.issued.proofs.Clusters.{room_left, room_made}
use Rattle.issued.proofs.Ledgers.{either_way, on_success}
use Rattle.issued.proofs.pushes.reserve.Goals as goal

pub returns-clause-room : goal.returns-clause-room
returns-clause-room c =
    on_success c.make_room.result c.make_room.ensures.ok
    (room_made c.args.pushes.now.entries c.make_room.new.map.entries c.args.tx.0)

pub returns-clause-others : goal.returns-clause-others
returns-clause-others c =
    either_way c.make_room.result c.make_room.ensures.ok c.make_room.ensures.err
    (room_left c.args.pushes.now.entries c.make_room.new.map.entries c.args.tx.0)
    (λ same other is.
    subst (λ (entries : Pushes). IsSome (push_room_at entries other)) (sym same) is)
