use Rattle.job_events.proofs.ManyJobs.{idle_jobs_fit, many_jobs, old_jobs_fit, planned_jobs_fit}
use Rattle.job_events.proofs.laws.any_jobs_keep.Goals as goal

pub returns : goal.returns
returns c = record {
  keeps = many_jobs;
  old = old_jobs_fit;
  idle = idle_jobs_fit;
  planned = planned_jobs_fit;
}
