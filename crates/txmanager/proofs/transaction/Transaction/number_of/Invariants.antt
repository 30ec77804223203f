use Rattle.std.proofs.Common.{◌≡◌, ◌+◌, drop}
use Rattle.std.specs.List.{position_or_len}
use Rattle.voters.specs.Panel.{same_name}
use Rattle.txmanager.proofs.transaction.Transaction.number_of.Given as goal

-- no voter so far has the name
abbrev pub invariant-loop-at : goal.invariant-loop-at
invariant-loop-at l =
    position_or_len (same_name l.name) l.self.voters ≡ l.at + position_or_len (same_name l.name) (drop l.at l.self.voters)
