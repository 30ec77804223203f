use Rattle.std.proofs.Common.{rules, tests, subst, sym, List}
use Rattle.std.proofs.lemmas.Iterator.{YieldsList-from_slice, items_from_collect}
use Rattle.std.proofs.lemmas.Iterator.Consumers.{YieldsList-at, YieldsList-from_copied, YieldsList-from_filter}
use Rattle.std.proofs.lemmas.Result.{IfOk-weaker}
use Rattle.px_base.specs.declared.ids.StorageId.{StorageId}
use Rattle.px_cluster.specs.Casts.{is_told}
use Rattle.genbook.specs.Rules.{AreTold}
use Rattle.px_core.proofs.Told.{are_told}
use Rattle.px_core.proofs.bookings.told_to_commit.Goals as goal

pub returns : goal.returns
returns c =
    let push = c.args.push.now in
    let votes = c.args.votes.now in
    let test = λ (member : StorageId). is_told push votes member.0 in
    let items = items_from_collect _ c.collect.ensures.ran
    (YieldsList-from_copied (YieldsList-at c.copied.ensures.source
    (YieldsList-from_filter _ test (YieldsList-from_slice c.members.result.now (cc))
    c.filter.ensures.closure (λ x r q k. search (rules, tests))))) in
    IfOk-weaker c.collect.result _ _ (λ told is.
    subst (λ (storages : List StorageId). AreTold push votes storages) (sym is)
    (are_told push votes c.members.result.now c.members.ensures)) items
