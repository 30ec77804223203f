-- Bytes up to the first that is the mark.
use Rattle.std.proofs.Common.{◌≡◌, ◌==◌, ◌+◌, drop}
use Rattle.std.specs.List.{position_or_len}
use Rattle.px_script.proofs.cut.cut_at.Given as goal

-- the bytes so far are not the mark
abbrev pub invariant-loop-place : goal.invariant-loop-place
invariant-loop-place l = position_or_len (λ b. b == l.mark) l.bytes ≡ l.place + position_or_len (λ b. b == l.mark) (drop l.place l.bytes)
