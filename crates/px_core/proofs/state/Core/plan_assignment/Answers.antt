use Rattle.std.proofs.Common.{◌≡◌, ◌∙◌, None, Some, ap, rules, subst}
use Rattle.px_cluster.specs.Core.{Core, repository, turn_of}
use Rattle.px_cluster.specs.Factor.{assignment}
use Rattle.px_core.specs.Sound.{IsSound}
use Rattle.px_core.proofs.Factors.{bad_refuses, by_number, few}
use Rattle.px_core.proofs.state.Core.plan_assignment.Goals as goal

pub may_assign-requires : goal.may_assign-requires
may_assign-requires c =
    let core = c.args.self.now in
    let book = c.in-Some.repository.now in
    let there : repository core c.args.repo.0 ≡ Some book = search rules in
    few core (subst IsSound c.self.view_is c.self.invariant) c.args.repo.0 book there

pub assignment-requires : goal.assignment-requires
assignment-requires c =
    let core = c.args.self.now in
    let book = c.in-Some.repository.now in
    let there : repository core c.args.repo.0 ≡ Some book = search rules in
    by_number core (subst IsSound c.self.view_is c.self.invariant) c.args.repo.0 book there

pub returns-in-Ok-clause-ok : goal.returns-in-Ok-clause-ok
returns-in-Ok-clause-ok c =
    let core = c.args.self.now in
    let book = c.in-Some.repository.now in
    let there : repository core c.args.repo.0 ≡ Some book = search rules in
    let free : turn_of core c.args.repo.0 ≡ None = search rules in
    record {
      accepted = bad_refuses core c.args.repo.0 c.args.factor book None there free
          c.in_ok-may_assign.ensures.accepted;
      book = book;
      there = there;
      by_rule = c.in-Ok.ensures.value
          ∙ ap (λ (known : Core). assignment known book c.args.factor) c.self.view_is;
      ascending = c.in-Ok.ensures.ascending;
    }
