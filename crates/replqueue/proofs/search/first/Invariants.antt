use Rattle.std.proofs.Common.{◌≡◌, ◌^◌, ◌-◌, ℕ, Option, None, Some}
use Rattle.std.specs.Option.{MatchOption}
use Rattle.std.specs.Prelude.{find}
use Rattle.replqueue.specs.Search.{least_after, passes_from}
use Rattle.replqueue.proofs.search.first.Given as goal

-- the first that passes is the first from the next number on
abbrev pub invariant-loop-next : goal.invariant-loop-next
invariant-loop-next g l = MatchOption l.next
    (find (passes_from (least_after l.fn.after) (g.T.Test.asks l.test)) l.rows ≡ None)
    (λ number. find (passes_from (least_after l.fn.after) (g.T.Test.asks l.test)) l.rows
    ≡ find (passes_from number (g.T.Test.asks l.test)) l.rows)

abbrev left : Option ℕ → ℕ
left None = 0
left (Some number) = 2 ^ 64 - number

abbrev pub decreases-loop-next : goal.decreases-loop-next
decreases-loop-next g l = left l.next
