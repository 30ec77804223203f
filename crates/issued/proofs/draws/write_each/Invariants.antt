use Rattle.std.proofs.Common.{◌≡◌, take}
use Rattle.px_cluster.specs.Ledger.{with_purposes}
use Rattle.px_cluster.specs.Numbers.{is_one_of}
use Rattle.genbook.specs.Changes.{numbers_of}
use Rattle.issued.specs.Draws.{HasRoom, ledger_of}
use Rattle.issued.specs.Purposes.{purpose_drawn}
use Rattle.issued.proofs.draws.write_each.Given as goal

-- the purpose is written at those so far, and there is room for all
abbrev pub invariant-loop-storage : goal.invariant-loop-storage
invariant-loop-storage l = record {
  room : HasRoom l.draws.entries l.repo.0 (numbers_of l.storages) l.lease;
  ledger : ledger_of l.draws.entries
      ≡ with_purposes (ledger_of l.initial.draws.entries) l.repo.0
      (λ storage. is_one_of storage (numbers_of (take l.storage-index l.storages))) l.lease
      (λ storage old. purpose_drawn l.what);
}
