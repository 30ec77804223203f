use Rattle.std.proofs.Common.{◌≡◌, ◌∙◌, Some, ap, false, sym, true}
use Rattle.std.specs.Prelude.{find}
use Rattle.px_cluster.specs.Taking as rule
use Rattle.replqueue.specs.Facts.{comes_up, taking_of, taking_waiting}
use Rattle.replqueue.proofs.NextJobs.{next_found, next_none, told_up, up_taking}
use Rattle.replqueue.proofs.Orders.{passes_found}
use Rattle.replqueue.proofs.queue.Queue.next.Goals as goal

pub returns-in_default : goal.returns-in_default
returns-in_default g c =
    sym (next_none (g.F.Facts.core c.args.facts.now) c.args.target.0 c.args.self.now.jobs
    (sym c.first_waiting.ensures ∙ c.in_default.is))

pub returns-in-Some-taking : goal.returns-in-Some-taking
returns-in-Some-taking g c =
    let core = g.F.Facts.core c.args.facts.now in
    let jobs = c.args.self.now.jobs in
    let job = c.in-Some.job in
    let found : find (comes_up core c.args.target.0) jobs ≡ Some job = sym c.first_waiting.ensures
    ∙ c.in-Some.is in
    let told : taking_of (Some c.in-Some-taking.taking) ≡ taking_waiting core job =
    ap taking_of (sym c.in-Some-taking.is) ∙ c.taking.ensures in
    ap (λ (then_ : rule.Taking). let next : rule.Next = record { job = job; taking = then_ } in
    Some next)
    (told ∙ sym (up_taking core c.args.target.0 job (passes_found (comes_up core c.args.target.0)
    jobs job found)))
    ∙ sym (next_found core c.args.target.0 jobs job found)

pub returns-in-None : goal.returns-in-None
returns-in-None g c =
    let core = g.F.Facts.core c.args.facts.now in
    let jobs = c.args.self.now.jobs in
    let job = c.in-Some.job in
    let found : find (comes_up core c.args.target.0) jobs ≡ Some job = sym c.first_waiting.ensures
    ∙ c.in-Some.is in
    let told : taking_waiting core job ≡ rule.PassOver = sym c.taking.ensures
    ∙ ap taking_of c.in-None.is in
    absurd (let no : false ≡ true =
    told_up core c.args.target.0 job (passes_found (comes_up core c.args.target.0) jobs job
    found) told in cc)
