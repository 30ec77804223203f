use Rattle.std.proofs.Common.{ap, sym, refl}
use Rattle.std.specs.Option.{is_some}
use Rattle.px_node.proofs.LawfulLemmas.{AreLawful-back}
use Rattle.px_node.proofs.Places.{Changes-back}
use Rattle.node_calls.specs.ReplicaState.{raised}
use Rattle.px_node.proofs.replicas.raise.Goals as goal

pub returns-in-Some-clause-changes : goal.returns-in-Some-clause-changes
returns-in-Some-clause-changes c =
    Changes-back c.args.replicas.now.entries (c.get_mut.follows.lender c.raise.new.self).entries
    c.args.repo.now c.args.repo.now c.in-Some.replica.now c.raise.new.self
    (raised c.args.lease) refl c.in-Some.ensures.value c.raise.ensures
    ((c.get_mut.follows.holds c.raise.new.self).3 (sym (ap is_some c.in-Some.ensures.value))).0

pub returns-in-Some-clause-lawful : goal.returns-in-Some-clause-lawful
returns-in-Some-clause-lawful c =
    AreLawful-back c.args.replicas.now.entries
    (c.get_mut.follows.lender c.raise.new.self).entries c.args.repo.now c.in-Some.replica.now
    c.raise.new.self c.in-Some.ensures.value
    ((c.get_mut.follows.holds c.raise.new.self).3 (sym (ap is_some c.in-Some.ensures.value))).0
    c.is_lawful.ensures
