use Rattle.std.proofs.Common.{Some, ap, refl, subst, ◌∙◌}
use Rattle.std.specs.Option.{IsSome}
use Rattle.px_cluster.specs.Ledger.{with_purpose}
use Rattle.issued.specs.Draws.{ledger_of}
use Rattle.issued.proofs.Ledgers.{ledger_of-kept, room_kept}
use Rattle.issued.proofs.draws.write.Goals as goal

pub returns-in-Some-clause-ledger : goal.returns-in-Some-clause-ledger
returns-in-Some-clause-ledger c =
    let draw = c.args.draw in
    let kept = Some c.fresh.result in
    let old = c.args.draws.now.entries in
    ledger_of-kept draw kept old _
    ((c.get_mut.follows.holds kept).3 (subst IsSome c.in-Some.ensures.value refl)).0
    ∙ ap (λ purpose. with_purpose (ledger_of old) draw.repo.0 draw.storage.0 draw.lease purpose)
    c.fresh.ensures

pub returns-in-Some-clause-others : goal.returns-in-Some-clause-others
returns-in-Some-clause-others c =
    let kept = Some c.fresh.result in
    room_kept c.args.draw kept c.args.draws.now.entries _
    ((c.get_mut.follows.holds kept).3 (subst IsSome c.in-Some.ensures.value refl)).0
