use Rattle.std.proofs.Common.{sym, subst, List}
use Rattle.voters.specs.Votes.{Votes}
use Rattle.txmanager.specs.Chain.{IsChain}
use Rattle.txmanager.specs.Rounds.{Cancel}
use Rattle.txmanager.proofs.ActLemmas.{acted_step}
use Rattle.txmanager.proofs.subs.cancel_everywhere.Goals as goal

pub carry-requires : goal.carry-requires
carry-requires c = subst (λ (xs : List Votes). IsChain xs) (sym c.cancel_all.ensures) (acted_step Cancel c.args.subs.now.items c.requires).chain
