use Rattle.std.proofs.Common.{◌≡◌, ◌∙◌, None, Some, ap, sym}
use Rattle.px_cluster.specs.Core.{job_at}
use Rattle.px_cluster.specs.Jobs.{worker_refusal}
use Rattle.replqueue.specs.Queue.{core_of}
use Rattle.replqueue.proofs.OneJob.{found_itself, heard_works, same_id}
use Rattle.replqueue.proofs.queue.Queue.worked.Goals as goal

pub returns-in-Some-worker_refusal-clause-refused :
    goal.returns-in-Some-worker_refusal-clause-refused
returns-in-Some-worker_refusal-clause-refused c =
    let found : job_at (core_of c.args.self.now) c.args.job.0 ≡ Some c.in-Some.row =
    sym c.copy_of.ensures ∙ c.in-Some.is in
    ap (worker_refusal c.args.job c.args.lease) found ∙ sym (c.worker_refusal.ensures c.args.job)
    ∙ c.in-Some-worker_refusal.is

pub returns-in-None-clause-ok : goal.returns-in-None-clause-ok
returns-in-None-clause-ok c =
    let found : job_at (core_of c.args.self.now) c.args.job.0 ≡ Some c.in-Some.row =
    sym c.copy_of.ensures ∙ c.in-Some.is in
    let heard : worker_refusal c.args.job c.args.lease (Some c.in-Some.row) ≡ None =
    sym (c.worker_refusal.ensures c.args.job) ∙ c.in-None.is in
    record {
      held = record {
        found = found_itself c.args.self.now c.args.job c.in-Some.row found;
        works = heard_works c.args.job c.args.lease c.in-Some.row heard;
      };
      number = same_id c.args.self.now c.args.job c.in-Some.row found;
      accepted = heard;
    }
