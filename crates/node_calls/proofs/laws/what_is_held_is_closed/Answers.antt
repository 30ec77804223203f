use Rattle.node_calls.proofs.WholeLemmas.{nothing_is_whole, run_is_whole, step_is_whole}
use Rattle.node_calls.proofs.laws.what_is_held_is_closed.Goals as goal

pub returns : goal.returns
returns c = record { first = nothing_is_whole; step = step_is_whole; run = run_is_whole }
