-- Bytes up to the first line feed.
use Rattle.std.proofs.Common.{◌≡◌, ◌==◌, ◌+◌, drop}
use Rattle.std.specs.List.{position_or_len}
use Rattle.px_base.proofs.standard.len_before_feed.Given as goal

-- none of the bytes so far is one
abbrev pub invariant-loop-place : goal.invariant-loop-place
invariant-loop-place l = position_or_len (λ b. b == 10) l.bytes ≡ l.place + position_or_len (λ b. b == 10) (drop l.place l.bytes)
