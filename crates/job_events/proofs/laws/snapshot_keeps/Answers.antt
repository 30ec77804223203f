use Rattle.job_events.proofs.Snapshot.{snapshot_keeps}
use Rattle.job_events.proofs.laws.snapshot_keeps.Goals as goal

pub returns : goal.returns
returns c = snapshot_keeps
