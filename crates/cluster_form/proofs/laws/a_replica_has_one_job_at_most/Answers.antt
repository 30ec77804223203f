use Rattle.cluster_form.proofs.FormKept.{jobs_always, homes_always}
use Rattle.cluster_form.proofs.laws.a_replica_has_one_job_at_most.Goals as goal

pub returns-clause-jobs : goal.returns-clause-jobs
returns-clause-jobs c = jobs_always

pub returns-clause-homes : goal.returns-clause-homes
returns-clause-homes c = homes_always
