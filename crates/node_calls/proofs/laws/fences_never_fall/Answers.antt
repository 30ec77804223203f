use Rattle.node_calls.proofs.FenceLemmas.{run_fences, step_fences}
use Rattle.node_calls.proofs.laws.fences_never_fall.Goals as goal

pub returns : goal.returns
returns c = record { step = step_fences; run = run_fences }
