-- The next row was read, or none is left.
use Rattle.std.proofs.Common.{◌≡◌, ◌∙◌, List, ℕ, Option, None, Some, rules, subst, sym}
use Rattle.px_keeper.specs.Reading.{ReadTo}
use Rattle.px_keeper.proofs.reading.read_table.Goals as goal

pub returns-in-None-clause-ok : goal.returns-in-None-clause-ok
returns-in-None-clause-ok g c =
    let none : c.in_ok-key.field-0 ≡ None = search rules in
    λ rows told. c.in_ok-key.ensures.end none rows (c.loop.invariant.same ∙ told)

pub loop-preserved : goal.loop-preserved
loop-preserved g c =
    let some : c.in_ok-key.field-0 ≡ Some c.in-Some.key = search rules in
    record {
      whole = c.in_ok-key.ensures.whole;
      read = λ rows told. subst (λ (last : Option (List ℕ)).
          ReadTo g.T.TakeRows.good (g.T.TakeRows.has c.read_next.new.taker) rows c.args.table last)
          some (c.in_ok-key.ensures.more (λ none. absurd (cc)) rows
          (sym c.in_ok-key.ensures.same ∙ told));
      same = c.in_ok-key.ensures.same ∙ c.loop.invariant.same;
      count = c.in_ok-key.ensures.cause ∙ c.loop.invariant.count;
      plan = c.in_ok-key.ensures.plan ∙ c.loop.invariant.plan;
    }
