use Rattle.std.proofs.Common.{◌≡◌, List, ℕ, ◌++◌, length}
use Rattle.std.specs.Io.KnownBytes.{Appends}
use Rattle.px_base.proofs.sink.write_all.Given as goal

abbrev pub invariant-loop-rest : goal.invariant-loop-rest
invariant-loop-rest g l = (part : List ℕ) × (l.text ≡ part ++ l.rest)
    × Appends (g.O.Sink.taken l.initial.sink) (g.O.Sink.taken l.sink) part
    × (g.O.Sink.write_faults l.sink ≡ g.O.Sink.write_faults l.initial.sink)

abbrev pub decreases-loop-rest : goal.decreases-loop-rest
decreases-loop-rest g l = length l.rest
