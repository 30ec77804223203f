use Rattle.std.proofs.Common.{◌≡◌, List, find, rules, refl, subst, ◌∙◌}
use Rattle.px_cluster.specs.Core.{OpenPush}
use Rattle.turns.specs.Turns.{of_repository}
use Rattle.turns.proofs.Holders.{has_repo, has_tx, no_holder, turn_is}
use Rattle.turns.proofs.turns.Turns.turn.Goals as goal

pub returns-in-Some : goal.returns-in-Some
returns-in-Some c =
    let is = turn_is c.args.repo.0 c.self.inside.holders.entries c.self.inside.pushes.entries c.in-Some.tx.now _ c.self.invariant (search rules) refl in
    c.turn_under.ensures ∙ subst (λ (pushes : List OpenPush). of_repository c.args.repo.0 (find (has_tx c.in-Some.tx.now.0) pushes) ≡ find (has_repo c.args.repo.0) pushes) c.self.view_is is

pub returns-in-None : goal.returns-in-None
returns-in-None c =
    let is = no_holder c.args.repo.0 c.self.inside.holders.entries c.self.inside.pushes.entries _ c.self.invariant.turns (search rules) refl in
    search (rules, is, c.self.view_is)
