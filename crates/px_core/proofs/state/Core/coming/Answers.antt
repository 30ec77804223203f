use Rattle.std.proofs.Common.{◌≡◌, ◌∙◌, None, Some, ap, rules, sym}
use Rattle.std.specs.Option.{option_map}
use Rattle.px_cluster.specs.Ids.{storage_number}
use Rattle.px_cluster.specs.Ops.{no_storage}
use Rattle.px_cluster.specs.Taking as rule
use Rattle.replqueue.specs.Facts.{next_of, taking_of}
use Rattle.replqueue.specs.declared.facts.Taking.{Taking}
use Rattle.replqueue.specs.declared.facts.Taking.TheVariants.{Take}
use Rattle.px_core.proofs.Works.{next_there, work_is}
use Rattle.px_core.proofs.state.Core.coming.Goals as goal

pub work_on-requires : goal.work_on-requires
work_on-requires c =
    let core = c.args.self.now in
    let job = c.in-Some.field-0.job in
    let some : c.next_job.result ≡ Some c.in-Some.field-0 = search rules in
    let takes : c.in-Some.field-0.taking ≡ Take c.in-Take.source = search rules in
    let next = sym c.next_job.ensures ∙ ap (option_map next_of) some
    ∙ ap (λ (t : Taking). let n : rule.Next = record { job = job; taking = taking_of (Some t) } in
    Some n) takes in
    next_there core c.args.target.0 job (storage_number c.in-Take.source) next

pub returns-in-Ok-clause-ok : goal.returns-in-Ok-clause-ok
returns-in-Ok-clause-ok c =
    let core = c.args.self.now in
    let job = c.in-Some.field-0.job in
    let some : c.next_job.result ≡ Some c.in-Some.field-0 = search rules in
    let takes : c.in-Some.field-0.taking ≡ Take c.in-Take.source = search rules in
    let next = sym c.next_job.ensures ∙ ap (option_map next_of) some
    ∙ ap (λ (t : Taking). let n : rule.Next = record { job = job; taking = taking_of (Some t) } in
    Some n) takes in
    let known : no_storage core c.args.target.0 ≡ None = search rules in
    work_is core c.args.target.0 job c.in-Take.source c.in-Ok.work known next
    c.in-Ok.ensures.accepted c.in-Ok.ensures.ok
