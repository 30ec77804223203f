use Rattle.std.proofs.Common.{rules}
use Rattle.txmanager.specs.Voting.{after_stop, stop_answer}
use Rattle.txmanager.proofs.RegistryLemmas.{on_unless_err, refused_same}
use Rattle.txmanager.proofs.manager.Manager.stop.Goals as goal

pub returns-clause-answer : goal.returns-clause-answer
returns-clause-answer c = search rules

pub returns-clause-state : goal.returns-clause-state
returns-clause-state c = search rules

pub returns-clause-same : goal.returns-clause-same
returns-clause-same c =
    refused_same c.args.self.now _ c.args.tx after_stop stop_answer _ (λ voting. on_unless_err (stop_answer voting) voting _)
    (returns-clause-answer c) (returns-clause-state c)

pub returns-clause-call : goal.returns-clause-call
returns-clause-call c = returns-clause-state c
