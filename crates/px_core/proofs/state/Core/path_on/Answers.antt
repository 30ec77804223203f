use Rattle.std.proofs.Common.{◌≡◌, Some, rules, subst}
use Rattle.px_cluster.specs.Book.{replica_on}
use Rattle.px_cluster.specs.Core.{repository}
use Rattle.px_core.specs.Sound.{IsSound}
use Rattle.px_core.proofs.Located.{located}
use Rattle.px_core.proofs.state.Core.path_on.Goals as goal

pub returns-in-Some-clause-known : goal.returns-in-Some-clause-known
returns-in-Some-clause-known c =
    let core = c.args.self.now in
    let book = c.in_ok-repository.repository.now in
    let there : repository core c.args.repo.0 ≡ Some book = search rules in
    let is : replica_on book c.args.storage.0 ≡ Some c.in-Some.field-0.now = search rules in
    located core c.args.repo.0 c.args.storage.0 book c.in-Some.field-0.now
    (subst IsSound c.self.view_is c.self.invariant) there is
