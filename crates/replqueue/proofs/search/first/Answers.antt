use Rattle.std.proofs.Common.{◌≡◌, ◌+◌, ◌∙◌, ℕ, None, Option, refl, subst, sym}
use Rattle.std.specs.Option.{MatchOption}
use Rattle.std.specs.Prelude.{find}
use Rattle.replqueue.specs.Search.{least_after, passes_from}
use Rattle.replqueue.proofs.Searches.{hit, miss, next_told}
use Rattle.replqueue.proofs.search.first.Goals as goal

pub loop-next-init : goal.loop-next-init
loop-next-init g c =
    next_told (g.T.Test.asks c.args.test.now) c.args.marks.now c.args.line
    (least_after c.args.after) c.args.rows.now _ c.start-next.result
    c.requires refl c.start-next.ensures.some c.start-next.ensures.none

pub returns-in-Some-passing : goal.returns-in-Some-passing
returns-in-Some-passing g c =
    let asks = g.T.Test.asks c.args.test.now in
    let rows = c.args.rows.now in
    let so_far : find (passes_from (least_after c.args.after) asks) rows
    ≡ find (passes_from c.in-Some.number asks) rows =
    subst (λ (next : Option ℕ). MatchOption next (find (passes_from (least_after c.args.after) asks)
    rows ≡ None)
    (λ number. find (passes_from (least_after c.args.after) asks) rows
    ≡ find (passes_from number asks) rows)) c.in-Some.is c.loop-next.invariant in
    sym (so_far ∙ hit asks c.in-Some.number rows c.in-Some-passing.job.now c.passing.ensures.ascend
    (sym c.in-Some-passing.ensures.value))

pub loop-next-preserved : goal.loop-next-preserved
loop-next-preserved g c =
    let asks = g.T.Test.asks c.args.test.now in
    let rows = c.args.rows.now in
    let so_far : find (passes_from (least_after c.args.after) asks) rows
    ≡ find (passes_from c.in-Some.number asks) rows =
    subst (λ (next : Option ℕ). MatchOption next (find (passes_from (least_after c.args.after) asks)
    rows ≡ None)
    (λ number. find (passes_from (least_after c.args.after) asks) rows
    ≡ find (passes_from number asks) rows)) c.in-Some.is c.loop-next.invariant in
    next_told asks c.args.marks.now c.args.line (c.in-Some.number + 1) rows
    (find (passes_from (least_after c.args.after) asks) rows) c.after-next.result
    c.requires (so_far ∙ miss asks c.in-Some.number rows c.passing.ensures.ascend
    (sym c.in_default-passing.ensures.value)) c.after-next.ensures.some
    c.after-next.ensures.none
