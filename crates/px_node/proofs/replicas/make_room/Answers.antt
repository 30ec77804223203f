use Rattle.std.proofs.Common.{List, ℕ, None, false, ◌∙◌, sym, subst, arith}
use Rattle.px_base.specs.RefList.{is_name}
use Rattle.std.specs.Map.{lookup}
use Rattle.std.specs.Option.{IsSome}
use Rattle.node_rows.proofs.LawfulReplicas.{IsLawfulReplica-said}
use Rattle.node_calls.specs.ReplicaState.{nothing}
use Rattle.px_base.specs.RepoPath.{IsRepoPath}
use Rattle.px_node.proofs.LawfulLemmas.{AreLawful-put}
use Rattle.px_node.proofs.Places.{IsSome-put, Same-put, none_from_test}
use Rattle.px_node.specs.Shelf.{Puts}
use Rattle.px_node.proofs.replicas.make_room.Goals as goal

pub returns-in_ok-put-clause-same : goal.returns-in_ok-put-clause-same
returns-in_ok-put-clause-same c =
    let old = c.args.replicas.now.entries in
    let new = c.put.new.replicas.entries in
    Same-put old new c.args.repo.now
    (none_from_test (lookup (is_name c.args.repo.now) old)
    (sym c.contains_key.ensures ∙ c.if-not-contains_key.true))
    (subst (λ (p : List ℕ). Puts old new p nothing) c.in_ok-path.ensures.value
    (subst (Puts old new c.in_ok-path.path) c.new.ensures c.in_ok-put.ensures.ok))

pub returns-in_ok-put-clause-lawful : goal.returns-in_ok-put-clause-lawful
returns-in_ok-put-clause-lawful c =
    AreLawful-put c.args.replicas.now.entries c.put.new.replicas.entries c.in_ok-path.path
    nothing (subst (Puts c.args.replicas.now.entries c.put.new.replicas.entries c.in_ok-path.path)
    c.new.ensures c.in_ok-put.ensures.ok)
    (subst IsRepoPath (sym c.in_ok-path.ensures.value) c.in_ok-path.ensures.path)
    (IsLawfulReplica-said 0 None false (omega arith) tt)

pub returns-in_ok-put-clause-room : goal.returns-in_ok-put-clause-room
returns-in_ok-put-clause-room c =
    let new = c.put.new.replicas.entries in
    subst (λ (p : List ℕ). IsSome (lookup (is_name p) new)) c.in_ok-path.ensures.value
    (IsSome-put c.args.replicas.now.entries new c.in_ok-path.path c.new.result
    c.in_ok-put.ensures.ok)
