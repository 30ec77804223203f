use Rattle.std.proofs.Common.{rules, ◌∷◌, List, subst}
use Rattle.voters.specs.Votes.{Votes}
use Rattle.txmanager.specs.Chain.{IsChain}
use Rattle.txmanager.proofs.CarryIntoLemmas.{later_chain}
use Rattle.txmanager.proofs.carry.+carry_over.Goals as goal

pub carry_over-requires : goal.carry_over-requires
carry_over-requires t c =
    let is : IsChain (c.in-Some.first.now ∷ c.in-Some.later.now) = subst (λ (xs : List Votes). IsChain xs) c.in-Some.ensures.cases.0 c.requires in
    (search rules, rw c.carry_into_each.ensures (later_chain c.in-Some.first.now c.in-Some.later.now is))
