use Rattle.std.proofs.Common.{◌≡◌}
use Rattle.voters.specs.Panel.{poll_of}
use Rattle.txmanager.specs.Rounds.{opened}
use Rattle.txmanager.proofs.transaction.Transaction.new.Given as goal

-- each one so far is open
abbrev pub invariant-loop : goal.invariant-loop
invariant-loop l = l.subs.items ≡ opened (poll_of l.panel) l.counter
