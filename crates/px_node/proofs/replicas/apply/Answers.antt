use Rattle.std.proofs.Common.{◌≡◌, ◌≤◌, None, ap, sym, subst, refl}
use Rattle.std.specs.Option.{is_some}
use Rattle.objstore.specs.Bundle.{bundle_fault}
use Rattle.px_node.proofs.LawfulLemmas.{AreLawful-back}
use Rattle.px_node.proofs.Places.{Changes-back, OnErr-on, OnOk-on, Same-back, place_here}
use Rattle.node_replica.specs.Effects.{taken_over}
use Rattle.node_calls.specs.ReplicaState.{Changes, ReplicaState, Same}
use Rattle.px_node.specs.Shelf.{place_at}
use Rattle.px_node.proofs.replicas.apply.Goals as goal

pub apply-result-requires-clause-above : goal.apply-result-requires-clause-above
apply-result-requires-clause-above g c =
    subst (λ (p : ReplicaState). p.fence ≤ c.args.lease)
    (place_here c.args.replicas.now.entries c.args.repo.now c.args.repo.now
    c.in-Some.replica.now refl c.in-Some.ensures.value)
    c.requires.above

pub apply-result-requires-clause-comes : goal.apply-result-requires-clause-comes
apply-result-requires-clause-comes g c =
    subst (λ (p : ReplicaState). bundle_fault p.objects 0 c.args.objects ≡ None)
    (place_here c.args.replicas.now.entries c.args.repo.now c.args.repo.now
    c.in-Some.replica.now refl c.in-Some.ensures.value)
    c.requires.comes

pub returns-in-Some-clause-ok : goal.returns-in-Some-clause-ok
returns-in-Some-clause-ok g c =
    let new = (c.get_mut.follows.lender c.apply-result.new.self).entries in
    let old = c.args.replicas.now.entries in
    let does = taken_over c.args.lease c.args.refs c.args.objects in
    OnOk-on (c.apply-result.new.self ≡ does c.in-Some.replica.now)
    (Changes (place_at old) (place_at new) c.args.repo.now (does (place_at old c.args.repo.now)))
    c.apply-result.result
    (λ done. Changes-back old new c.args.repo.now c.args.repo.now c.in-Some.replica.now
    c.apply-result.new.self does refl c.in-Some.ensures.value done
    ((c.get_mut.follows.holds c.apply-result.new.self).3
    (sym (ap is_some c.in-Some.ensures.value))).0)
    c.apply-result.ensures.ok

pub returns-in-Some-clause-err : goal.returns-in-Some-clause-err
returns-in-Some-clause-err g c =
    let new = (c.get_mut.follows.lender c.apply-result.new.self).entries in
    OnErr-on (c.apply-result.new.self ≡ c.in-Some.replica.now)
    (Same (place_at c.args.replicas.now.entries) (place_at new)) c.apply-result.result
    (λ same. Same-back c.args.replicas.now.entries new c.args.repo.now c.args.repo.now
    c.in-Some.replica.now c.apply-result.new.self refl c.in-Some.ensures.value same
    ((c.get_mut.follows.holds c.apply-result.new.self).3
    (sym (ap is_some c.in-Some.ensures.value))).0)
    c.apply-result.ensures.err

pub returns-in-Some-clause-lawful : goal.returns-in-Some-clause-lawful
returns-in-Some-clause-lawful g c =
    AreLawful-back c.args.replicas.now.entries
    (c.get_mut.follows.lender c.apply-result.new.self).entries c.args.repo.now c.in-Some.replica.now
    c.apply-result.new.self c.in-Some.ensures.value
    ((c.get_mut.follows.holds c.apply-result.new.self).3 (sym (ap is_some c.in-Some.ensures.value))).0
    c.is_lawful.ensures
