use Rattle.script_rules.proofs.Transactions.{outcomes_stay}
use Rattle.script_rules.proofs.laws.an_outcome_stays_until_the_transaction_is_closed.Goals as goal

pub returns : goal.returns
returns c = outcomes_stay
