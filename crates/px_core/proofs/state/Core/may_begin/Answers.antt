use Rattle.std.proofs.Common.{◌≡◌, None, Some, rules}
use Rattle.std.proofs.lemmas.Result.{IfErr-weaker}
use Rattle.px_cluster.specs.Core.{repository, turn_of}
use Rattle.px_cluster.specs.Pushes.{read_only}
use Rattle.px_core.proofs.Begins.{read_only_refuses, spent_refuses}
use Rattle.px_core.proofs.state.Core.may_begin.Goals as goal

pub returns-in-Err-clause-refused : goal.returns-in-Err-clause-refused
returns-in-Err-clause-refused c =
    let core = c.args.self.now in
    let book = c.in-Some.repository.now in
    let there : repository core c.args.repo.0 ≡ Some book = search rules in
    let free : turn_of core c.args.repo.0 ≡ None = search rules in
    read_only_refuses core c.args.repo.0 book c.in-Err.refusal there free (search rules)

pub returns-in-Ok-clause-refused : goal.returns-in-Ok-clause-refused
returns-in-Ok-clause-refused c =
    let core = c.args.self.now in
    let book = c.in-Some.repository.now in
    let there : repository core c.args.repo.0 ≡ Some book = search rules in
    let free : turn_of core c.args.repo.0 ≡ None = search rules in
    let writable : read_only core book ≡ None = search rules in
    IfErr-weaker c.may_number.result _ _
    (λ why is. spent_refuses core c.args.repo.0 book why there free writable is)
    c.may_number.ensures.refused
