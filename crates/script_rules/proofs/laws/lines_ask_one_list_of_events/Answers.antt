use Rattle.script_rules.proofs.OneScript.{one_list}
use Rattle.script_rules.proofs.laws.lines_ask_one_list_of_events.Goals as goal

pub returns : goal.returns
returns c = one_list
