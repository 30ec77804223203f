use Rattle.std.proofs.Common.{◌≤◌, ap, sym, subst, refl}
use Rattle.std.specs.Option.{is_some}
use Rattle.px_node.proofs.LawfulLemmas.{AreLawful-back}
use Rattle.px_node.proofs.Places.{Changes-back, place_here}
use Rattle.node_calls.specs.Calls.{aborted}
use Rattle.node_calls.specs.ReplicaState.{ReplicaState}
use Rattle.px_node.proofs.replicas.abort.Goals as goal

pub abort-requires : goal.abort-requires
abort-requires c =
    subst (λ (p : ReplicaState). p.fence ≤ c.args.lease)
    (place_here c.args.replicas.now.entries c.args.repo.now c.args.repo.now
    c.in-Some.replica.now refl c.in-Some.ensures.value)
    c.requires.above

pub returns-in-Some-clause-changes : goal.returns-in-Some-clause-changes
returns-in-Some-clause-changes c =
    Changes-back c.args.replicas.now.entries (c.get_mut.follows.lender c.abort.new.self).entries
    c.args.repo.now c.args.repo.now c.in-Some.replica.now c.abort.new.self
    (aborted c.args.lease) refl c.in-Some.ensures.value c.abort.ensures
    ((c.get_mut.follows.holds c.abort.new.self).3 (sym (ap is_some c.in-Some.ensures.value))).0

pub returns-in-Some-clause-lawful : goal.returns-in-Some-clause-lawful
returns-in-Some-clause-lawful c =
    AreLawful-back c.args.replicas.now.entries
    (c.get_mut.follows.lender c.abort.new.self).entries c.args.repo.now c.in-Some.replica.now
    c.abort.new.self c.in-Some.ensures.value
    ((c.get_mut.follows.holds c.abort.new.self).3 (sym (ap is_some c.in-Some.ensures.value))).0
    c.is_lawful.ensures
