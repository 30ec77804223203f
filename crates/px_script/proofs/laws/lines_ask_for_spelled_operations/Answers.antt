-- The law is a lemma on lines.
use Rattle.px_script.proofs.LineLemmas.{asked_op}
use Rattle.px_script.proofs.laws.lines_ask_for_spelled_operations.Goals as goal

pub returns : goal.returns
returns c = asked_op
