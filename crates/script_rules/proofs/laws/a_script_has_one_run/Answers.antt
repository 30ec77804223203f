use Rattle.script_rules.proofs.OneScript.{one_script}
use Rattle.script_rules.proofs.laws.a_script_has_one_run.Goals as goal

pub returns : goal.returns
returns c = one_script
