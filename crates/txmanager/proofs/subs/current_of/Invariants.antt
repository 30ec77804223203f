use Rattle.std.proofs.Common.{◌≡◌, ◌+◌, drop}
use Rattle.txmanager.specs.Rounds.{current}
use Rattle.txmanager.proofs.subs.current_of.Given as goal

-- the voter is committed in each one so far
abbrev pub invariant-loop-at : goal.invariant-loop-at
invariant-loop-at l = l.at + current l.voter (drop l.at l.subs) ≡ current l.voter l.subs
