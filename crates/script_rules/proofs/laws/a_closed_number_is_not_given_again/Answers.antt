use Rattle.script_rules.proofs.Transactions.{numbers_are_given_once}
use Rattle.script_rules.proofs.laws.a_closed_number_is_not_given_again.Goals as goal

pub returns : goal.returns
returns c = numbers_are_given_once
