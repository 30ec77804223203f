use Rattle.std.proofs.Common.{arith}
use Rattle.script_run.specs.Stream.{stream}
use Rattle.script_run.proofs.Cut.{past_room}
use Rattle.script_run.proofs.next.next_line.Goals as goal

pub returns-else-room-clause-bytes : goal.returns-else-room-clause-bytes
returns-else-room-clause-bytes g c =
    let e = c.in-TooLong.ensures.bytes in
    past_room c.args.room
    (stream (g.S.Source.left c.args.input.now) (g.S.Source.read_faults c.args.input.now))
    (stream (g.S.Source.left c.read_piece.new.source) (g.S.Source.read_faults c.read_piece.new.source)) e.0
    (omega arith) e.1 (omega (arith, e.2, c.min-max.ensures)) e.3
