use Rattle.std.proofs.Common.{◌≡◌, ◌∙◌, ℕ, None, Option, Some, ap, inr, refl, subst, sym, true}
use Rattle.std.specs.Option.{IfSome}
use Rattle.px_base.specs.declared.ids.JobId.{JobId}
use Rattle.px_ops.specs.declared.job.Job.{Job}
use Rattle.px_cluster.specs.Core.{job_at}
use Rattle.px_cluster.specs.Jobs.{with_job_changed}
use Rattle.replqueue.specs.Marks.{has}
use Rattle.replqueue.specs.Queue.{core_of, is_waiting, taken}
use Rattle.replqueue.proofs.OneJob.{found_itself, none_changed, number_is, same_id, taken_by_rule, waiting_holds}
use Rattle.replqueue.proofs.queue.Queue.take.Goals as goal

pub replace-requires : goal.replace-requires
replace-requires c =
    let row = c.in-Some.row in
    let found : job_at (core_of c.args.self.now) c.args.job.0 ≡ Some row = sym c.copy_of.ensures
    ∙ c.in-Some.is in
    let waits : is_waiting row.state ≡ true =
    subst (λ (o : Option Job). IfSome o (λ (job : Job). is_waiting job.state ≡ true)) found
    c.requires.waits in
    rw c.taken.ensures (record {
      before = row;
      found = found_itself c.args.self.now c.args.job row found;
      repo = refl;
      target = refl;
      lock = λ any. waiting_holds row.state waits;
      room = λ any. inr (subst (λ (number : ℕ). has c.args.self.now.room 0 number
          ≡ true) (sym (number_is c.args.self.now c.args.job row found)) c.requires.room);
    })

pub returns-in-Some-clause-ok : goal.returns-in-Some-clause-ok
returns-in-Some-clause-ok c =
    let row = c.in-Some.row in
    let found : job_at (core_of c.args.self.now) c.args.job.0 ≡ Some row = sym c.copy_of.ensures
    ∙ c.in-Some.is in
    let change = taken c.args.source c.args.generation c.args.now c.args.lease in
    let number : c.taken.result.number ≡ row.number =
    ap (λ (job : Job). job.number) c.taken.ensures in
    let there : job_at (core_of c.args.self.now) c.taken.result.number.0 ≡ Some row =
    rw number (found_itself c.args.self.now c.args.job row found) in
    c.replace.ensures change row there c.taken.ensures
    ∙ ap (λ (job : JobId). with_job_changed job change (core_of c.args.self.now)) (number
    ∙ same_id c.args.self.now c.args.job row found)

pub returns-in-Some-clause-rule : goal.returns-in-Some-clause-rule
returns-in-Some-clause-rule c book from given =
    returns-in-Some-clause-ok c
    ∙ ap (λ (change : Job → Job). with_job_changed c.args.job change (core_of c.args.self.now))
    (taken_by_rule book from c.args.source c.args.generation c.args.now c.args.lease given)

pub returns-in_default-clause-ok : goal.returns-in_default-clause-ok
returns-in_default-clause-ok c =
    let none : job_at (core_of c.args.self.now) c.args.job.0 ≡ None = sym c.copy_of.ensures
    ∙ c.in_default.is in
    sym (none_changed c.args.self.now c.args.job (taken c.args.source c.args.generation c.args.now
    c.args.lease) none)

pub returns-in_default-clause-rule : goal.returns-in_default-clause-rule
returns-in_default-clause-rule c book from given =
    returns-in_default-clause-ok c
    ∙ ap (λ (change : Job → Job). with_job_changed c.args.job change (core_of c.args.self.now))
    (taken_by_rule book from c.args.source c.args.generation c.args.now c.args.lease given)
