use Rattle.script_run.proofs.OneReading.{one_list}
use Rattle.script_run.proofs.laws.a_text_has_one_list_of_lines.Goals as goal

pub returns : goal.returns
returns c = one_list
