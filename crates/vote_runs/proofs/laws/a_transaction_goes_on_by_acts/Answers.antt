use Rattle.vote_runs.proofs.Transactions.{transactions_are_of_polls, transactions_go_on_by_acts}
use Rattle.vote_runs.proofs.laws.a_transaction_goes_on_by_acts.Goals as goal

pub returns-clause-polls : goal.returns-clause-polls
returns-clause-polls c = transactions_are_of_polls

pub returns-clause-acts : goal.returns-clause-acts
returns-clause-acts c = transactions_go_on_by_acts
