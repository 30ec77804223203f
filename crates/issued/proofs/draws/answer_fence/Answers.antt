use Rattle.std.proofs.Common.{ap, refl, subst, ◌∙◌}
use Rattle.std.specs.Option.{IsSome, option_flatten}
use Rattle.px_cluster.specs.Ledger.{with_last, with_purpose}
use Rattle.issued.specs.Draws.{ledger_of}
use Rattle.issued.specs.Purposes.{purpose_of}
use Rattle.issued.proofs.Ledgers.{ledger_of-kept}
use Rattle.issued.proofs.draws.answer_fence.Goals as goal

pub returns-in-Some : goal.returns-in-Some
returns-in-Some c =
    let draw = c.args.draw in
    let old = c.args.draws.now.entries in
    let there = subst IsSome c.in-Some.ensures.value refl in
    let kept = c.keep_fence_answer.new.kept in
    ledger_of-kept draw kept old _ ((c.get_mut.follows.holds kept).3 there).0
    ∙ ap (λ purpose. with_purpose (ledger_of old) draw.repo.0 draw.storage.0 draw.lease purpose)
    (c.keep_fence_answer.ensures
    ∙ ap (λ room. with_last c.args.last (purpose_of (option_flatten room)))
    c.in-Some.ensures.value)
