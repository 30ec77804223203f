use Rattle.script_rules.proofs.LawfulLines.{lines_are_lawful}
use Rattle.script_rules.proofs.ScriptMoves.{every_state_is_safe}
use Rattle.script_rules.proofs.laws.every_state_of_a_script_is_safe.Goals as goal

pub returns-clause-states : goal.returns-clause-states
returns-clause-states c = every_state_is_safe

pub returns-clause-lines : goal.returns-clause-lines
returns-clause-lines c = lines_are_lawful
