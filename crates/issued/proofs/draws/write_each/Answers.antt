use Rattle.std.proofs.Common.{◌≡◌, ◌<◌, ◌∙◌, List, ap, arith, get_or, length, take}
use Rattle.std.proofs.lemmas.List.{take_all}
use Rattle.px_base.specs.declared.ids.StorageId.{StorageId}
use Rattle.px_cluster.specs.Ids.{storage_id}
use Rattle.px_cluster.specs.Ledger.{with_purpose, with_purposes}
use Rattle.px_cluster.specs.Numbers.{is_one_of}
use Rattle.genbook.specs.Changes.{numbers_of}
use Rattle.issued.specs.Draws.{ledger_of}
use Rattle.issued.specs.Purposes.{purpose_drawn}
use Rattle.issued.proofs.Ledgers.{among_further, among_itself, written_further}
use Rattle.issued.proofs.draws.write_each.Goals as goal

pub write-requires : goal.write-requires
write-requires c =
    let storages = c.args.storages.now in
    let i = c.loop-storage.storage-index in
    let within : i < length storages = omega (arith, c.loop-storage-test.true) in
    c.loop-storage.invariant.room (get_or storages i (storage_id 0)).0
    (among_itself storages i (storage_id 0) within)

pub loop-storage-preserved : goal.loop-storage-preserved
loop-storage-preserved c =
    let storages = c.args.storages.now in
    let i = c.loop-storage.storage-index in
    let within : i < length storages = omega (arith, c.loop-storage-test.true) in
    let storage = (get_or storages i (storage_id 0)).0 in
    let purpose = purpose_drawn c.args.what in
    let old = ledger_of c.args.draws.now.entries in
    record {
      room = λ number is. c.write.ensures.others _ (c.loop-storage.invariant.room number is);
      ledger =
          c.write.ensures.ledger
          ∙ ap (λ ledger. with_purpose ledger c.args.repo.0 storage c.args.lease purpose)
          c.loop-storage.invariant.ledger
          ∙ written_further old c.args.repo.0 c.args.lease purpose _ _ storage
          (among_further storages i (storage_id 0) within);
    }

pub returns : goal.returns
returns c =
    let storages = c.args.storages.now in
    let i = c.loop-storage.storage-index in
    let old = ledger_of c.args.draws.now.entries in
    let all : take i storages ≡ storages =
    take_all i storages (omega (arith, c.loop-storage-test.false)) in
    c.loop-storage.invariant.ledger
    ∙ ap (λ (gone : List StorageId). with_purposes old c.args.repo.0
    (λ storage. is_one_of storage (numbers_of gone)) c.args.lease
    (λ storage old. purpose_drawn c.args.what)) all
