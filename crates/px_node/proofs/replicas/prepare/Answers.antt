use Rattle.std.proofs.Common.{ap, sym, subst, refl}
use Rattle.std.specs.Option.{is_some}
use Rattle.px_node.proofs.LawfulLemmas.{AreLawful-back}
use Rattle.px_node.proofs.Places.{Changes-back, place_here}
use Rattle.node_calls.specs.Calls.{prepared}
use Rattle.node_replica.specs.Prepared.{IsReadyAt, push_in}
use Rattle.px_node.proofs.replicas.prepare.Goals as goal

pub prepare-requires : goal.prepare-requires
prepare-requires c =
    subst (IsReadyAt c.args.ready)
    (place_here c.args.replicas.now.entries c.args.repo.now c.args.repo.now
    c.in-Some.replica.now refl c.in-Some.ensures.value)
    c.requires.ready

pub returns-in-Some-clause-changes : goal.returns-in-Some-clause-changes
returns-in-Some-clause-changes c =
    Changes-back c.args.replicas.now.entries (c.get_mut.follows.lender c.prepare.new.self).entries
    c.args.repo.now c.args.repo.now c.in-Some.replica.now c.prepare.new.self
    (prepared c.args.ready.lease (push_in c.args.ready)) refl c.in-Some.ensures.value
    c.prepare.ensures
    ((c.get_mut.follows.holds c.prepare.new.self).3 (sym (ap is_some c.in-Some.ensures.value))).0

pub returns-in-Some-clause-lawful : goal.returns-in-Some-clause-lawful
returns-in-Some-clause-lawful c =
    AreLawful-back c.args.replicas.now.entries
    (c.get_mut.follows.lender c.prepare.new.self).entries c.args.repo.now c.in-Some.replica.now
    c.prepare.new.self c.in-Some.ensures.value
    ((c.get_mut.follows.holds c.prepare.new.self).3 (sym (ap is_some c.in-Some.ensures.value))).0
    c.is_lawful.ensures
