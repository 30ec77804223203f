use Rattle.std.proofs.Common.{sym, subst, List}
use Rattle.voters.specs.Votes.{Votes}
use Rattle.txmanager.specs.Chain.{IsChain}
use Rattle.txmanager.specs.Rounds.{Stop}
use Rattle.txmanager.proofs.ActLemmas.{acted_step}
use Rattle.txmanager.proofs.subs.stop_in.Goals as goal

pub carry-requires : goal.carry-requires
carry-requires c = subst (λ (xs : List Votes). IsChain xs) (sym c.stop_all.ensures) (acted_step Stop c.args.subs.now.items c.requires).chain
