use Rattle.std.proofs.Common.{rules, tests, filter}
use Rattle.std.proofs.lemmas.Iterator.{YieldsList-from_slice}
use Rattle.std.proofs.lemmas.Iterator.Consumers.{YieldsList-from_filter, nth_from_yields_List}
use Rattle.router.specs.Factors.{is_away}
use Rattle.router.proofs.Places.{place_got}
use Rattle.router.proofs.factor.nth_away.Goals as goal

pub returns : goal.returns
returns c =
    let found = nth_from_yields_List c.nth.result _ c.args.place c.nth.ensures.ran
    (YieldsList-from_filter _ is_away (YieldsList-from_slice c.args.repository.now.replicas (cc)) c.filter.ensures.closure (λ x r q k. search (rules, tests))) in
    let placed = place_got (filter is_away c.args.repository.now.replicas) c.args.place in
    search (rules, tests, found, placed)
