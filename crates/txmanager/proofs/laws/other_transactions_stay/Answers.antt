use Rattle.txmanager.proofs.RegistryLemmas.{other_changed, other_closed, other_registered}
use Rattle.txmanager.proofs.laws.other_transactions_stay.Goals as goal

pub returns-clause-registered : goal.returns-clause-registered
returns-clause-registered c = other_registered

pub returns-clause-changed : goal.returns-clause-changed
returns-clause-changed c = other_changed

pub returns-clause-closed : goal.returns-clause-closed
returns-clause-closed c = other_closed
