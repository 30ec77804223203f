use Rattle.std.proofs.Common.{rules}
use Rattle.txmanager.proofs.RegistryLemmas.{put_nowhere}
use Rattle.txmanager.proofs.manager.Manager.put.Goals.{in-Some, in_default}
use Rattle.txmanager.proofs.manager.Manager.put.Goals as goal

pub returns : goal.returns
returns c = elim c.match-get_mut.branch [
  | in-Some w ↦ search rules
  | in_default w ↦ search (rules, put_nowhere)
]
