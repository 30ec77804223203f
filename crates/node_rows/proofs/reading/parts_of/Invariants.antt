-- No byte so far is a NUL.
use Rattle.std.proofs.Common.{take}
use Rattle.node_rows.proofs.KeyLemmas.{HasNoNul}
use Rattle.node_rows.proofs.reading.parts_of.Given as goal

abbrev pub invariant-loop-place : goal.invariant-loop-place
invariant-loop-place l = HasNoNul (take l.place l.key)
