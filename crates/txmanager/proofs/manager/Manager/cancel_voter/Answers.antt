use Rattle.std.proofs.Common.{rules}
use Rattle.txmanager.specs.VoterCalls.{after_cancel_voter, cancel_voter_answer}
use Rattle.txmanager.proofs.RegistryLemmas.{on_unless_err, refused_same}
use Rattle.txmanager.proofs.manager.Manager.cancel_voter.Goals as goal

pub returns-clause-answer : goal.returns-clause-answer
returns-clause-answer c = search rules

pub returns-clause-state : goal.returns-clause-state
returns-clause-state c = search rules

pub returns-clause-same : goal.returns-clause-same
returns-clause-same c =
    refused_same c.args.self.now _ c.args.tx (after_cancel_voter c.args.voter.now) (cancel_voter_answer c.args.voter.now) _
    (λ voting. on_unless_err (cancel_voter_answer c.args.voter.now voting) voting _)
    (returns-clause-answer c) (returns-clause-state c)

pub returns-clause-call : goal.returns-clause-call
returns-clause-call c = returns-clause-state c
