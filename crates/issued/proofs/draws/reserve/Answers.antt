use Rattle.std.proofs.Common.{ap, sym, subst}
use Rattle.std.specs.Option.{IsSome}
use Rattle.issued.specs.Draws.{Draws, ledger_of, room_at}
use Rattle.issued.proofs.Ledgers.{either_way, made-keeps, made-same}
use Rattle.issued.proofs.draws.reserve.Goals as goal

pub returns-clause-others : goal.returns-clause-others
returns-clause-others c =
    either_way c.make_room.result c.make_room.ensures.ok c.make_room.ensures.err
    (made-keeps c.args.draws.now.entries c.make_room.new.map.entries c.args.draw)
    (λ same draw is. subst (λ (draws : Draws). IsSome (room_at draws draw)) (sym same) is)

pub returns-clause-same : goal.returns-clause-same
returns-clause-same c =
    either_way c.make_room.result c.make_room.ensures.ok c.make_room.ensures.err
    (made-same c.args.draws.now.entries c.make_room.new.map.entries c.args.draw)
    (λ same. ap (λ (draws : Draws). ledger_of draws) same)
