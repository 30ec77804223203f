-- The law is a lemma on lines.
use Rattle.px_script.proofs.LineLemmas.{asked_once}
use Rattle.px_script.proofs.laws.no_line_asks_two.Goals as goal

pub returns : goal.returns
returns c = asked_once
