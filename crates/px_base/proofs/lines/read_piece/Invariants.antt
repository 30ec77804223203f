use Rattle.std.proofs.Common.{◌≡◌, ◌-◌, length}
use Rattle.std.specs.Io.KnownBytes.{Consumes}
use Rattle.px_base.specs.Line.{IsShort}
use Rattle.px_base.proofs.lines.read_piece.Given as goal

abbrev pub invariant-loop-byte : goal.invariant-loop-byte
invariant-loop-byte g l = record {
  short : IsShort l.max l.bytes;
  consumed : Consumes (g.S.Source.left l.initial.source) (g.S.Source.left l.source) l.bytes;
  faults : g.S.Source.read_faults l.source ≡ g.S.Source.read_faults l.initial.source;
}

abbrev pub decreases-loop-byte : goal.decreases-loop-byte
decreases-loop-byte g l = l.max - length l.bytes
