use Rattle.std.proofs.Common.{◌≡◌, take}
use Rattle.genbook.specs.Changes.{numbers_of}
use Rattle.issued.specs.Draws.{HasRoom, KeepsRoom, ledger_of}
use Rattle.issued.proofs.draws.reserve_each.Given as goal

-- there is room for those so far, none is lost, and nothing is seen of it
abbrev pub invariant-loop-storage : goal.invariant-loop-storage
invariant-loop-storage l = record {
  room : HasRoom l.draws.entries l.repo.0 (numbers_of (take l.storage-index l.storages)) l.lease;
  others : KeepsRoom l.initial.draws.entries l.draws.entries;
  same : ledger_of l.draws.entries ≡ ledger_of l.initial.draws.entries;
}
