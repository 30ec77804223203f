use Rattle.std.proofs.Common.{◌≡◌, ◌≤◌, true, ap, sym, subst, refl}
use Rattle.std.specs.Option.{IsSome, is_some}
use Rattle.px_base.specs.declared.hash.Hash.{Hash}
use Rattle.px_node.proofs.LawfulLemmas.{AreLawful-back}
use Rattle.px_node.proofs.Places.{CommitsAt-back, IfOk-on, OnErr-on, Same-back, place_here}
use Rattle.node_calls.specs.Calls.{ready_under}
use Rattle.node_replica.specs.Effects.{CommitsAt, DoesReady}
use Rattle.node_calls.specs.ReplicaState.{ReplicaState, Same}
use Rattle.px_node.specs.Shelf.{place_at}
use Rattle.px_node.proofs.replicas.commit.Goals as goal

pub commit-result-requires-clause-above : goal.commit-result-requires-clause-above
commit-result-requires-clause-above g c =
    subst (λ (p : ReplicaState). p.fence ≤ c.args.lease)
    (place_here c.args.replicas.now.entries c.args.repo.now c.args.repo.now
    c.in-Some.replica.now refl c.in-Some.ensures.value)
    c.requires.above

pub commit-result-requires-clause-held : goal.commit-result-requires-clause-held
commit-result-requires-clause-held g c =
    subst (λ (p : ReplicaState). p.held ≡ true)
    (place_here c.args.replicas.now.entries c.args.repo.now c.args.repo.now
    c.in-Some.replica.now refl c.in-Some.ensures.value)
    c.requires.held

pub commit-result-requires-clause-ready : goal.commit-result-requires-clause-ready
commit-result-requires-clause-ready g c =
    subst (λ (p : ReplicaState). IsSome (ready_under c.args.lease p.ready))
    (place_here c.args.replicas.now.entries c.args.repo.now c.args.repo.now
    c.in-Some.replica.now refl c.in-Some.ensures.value)
    c.requires.ready

pub returns-in-Some-clause-ok : goal.returns-in-Some-clause-ok
returns-in-Some-clause-ok g c =
    let new = (c.get_mut.follows.lender c.commit-result.new.self).entries in
    IfOk-on (DoesReady c.args.lease c.in-Some.replica.now c.commit-result.new.self)
    (CommitsAt c.args.lease c.args.repo.now (place_at c.args.replicas.now.entries) (place_at new))
    c.commit-result.result
    (λ (vote : Hash) does. CommitsAt-back c.args.lease c.args.replicas.now.entries new
    c.args.repo.now c.args.repo.now c.in-Some.replica.now c.commit-result.new.self vote
    refl c.in-Some.ensures.value
    ((c.get_mut.follows.holds c.commit-result.new.self).3
    (sym (ap is_some c.in-Some.ensures.value))).0
    does)
    c.commit-result.ensures.ok

pub returns-in-Some-clause-err : goal.returns-in-Some-clause-err
returns-in-Some-clause-err g c =
    let new = (c.get_mut.follows.lender c.commit-result.new.self).entries in
    OnErr-on (c.commit-result.new.self ≡ c.in-Some.replica.now)
    (Same (place_at c.args.replicas.now.entries) (place_at new)) c.commit-result.result
    (λ same. Same-back c.args.replicas.now.entries new c.args.repo.now c.args.repo.now
    c.in-Some.replica.now c.commit-result.new.self refl c.in-Some.ensures.value same
    ((c.get_mut.follows.holds c.commit-result.new.self).3
    (sym (ap is_some c.in-Some.ensures.value))).0)
    c.commit-result.ensures.err

pub returns-in-Some-clause-lawful : goal.returns-in-Some-clause-lawful
returns-in-Some-clause-lawful g c =
    AreLawful-back c.args.replicas.now.entries
    (c.get_mut.follows.lender c.commit-result.new.self).entries c.args.repo.now c.in-Some.replica.now
    c.commit-result.new.self c.in-Some.ensures.value
    ((c.get_mut.follows.holds c.commit-result.new.self).3 (sym (ap is_some c.in-Some.ensures.value))).0
    c.is_lawful.ensures
