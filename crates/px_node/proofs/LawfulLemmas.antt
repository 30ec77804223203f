-- Replicas under paths of which each is what a place may have.
use Rattle.std.proofs.Common.{◌≡◌, ℕ, List, [], true, false, cond, Bool, Option, Some, None, refl, sym, ap, subst, ◌⊎◌, ⊎_elim, inl, inr, arith}
use Rattle.std.specs.Map.{lookup}
use Rattle.std.specs.Option.{IsSome, is_some, unwrap_or}
use Rattle.px_base.specs.RefList.{is_name}
use Rattle.px_base.specs.RepoPath.{IsRepoPath}
use Rattle.node_rows.proofs.LawfulReplicas.{IsLawfulReplica-said}
use Rattle.refstore.proofs.Names.{one_name}
use Rattle.node_calls.proofs.ReplicaLemmas.{this_or_other}
use Rattle.node_calls.specs.Lawful.{IsLawful, IsLawfulReplica}
use Rattle.node_calls.specs.ReplicaState.{Changes, ReplicaState, nothing}
use Rattle.px_node.proofs.Places.{Changes-put}
use Rattle.px_node.specs.Shelf.{AreLawful, Puts, Replicas, place_at}

-- where there is none, all are
pub lawful_at_first : (replicas : Replicas) → replicas ≡ [] → AreLawful replicas
lawful_at_first replicas none = subst AreLawful (sym none) (record {
  places = λ path. IsLawfulReplica-said 0 None false (omega arith) tt;
  paths = λ path there. absurd (cc);
})

-- they are still, once such a replica was put under a path
pub AreLawful-put : (old new : Replicas) (path : List ℕ) (place : ReplicaState)
    → Puts old new path place → IsRepoPath path → IsLawfulReplica place → AreLawful old
    → AreLawful new
AreLawful-put old new path place puts lawful_path lawful were = record {
  places = λ q. ⊎_elim
      (λ same. subst (λ (p : List ℕ). IsLawfulReplica (place_at new p)) same
      (subst IsLawfulReplica (sym changes.here) lawful))
      (λ same. subst IsLawfulReplica (sym same) (were.places q))
      (this_or_other (place_at old) (place_at new) path changes.others q);
  paths = λ q there. at q (is_name path q) refl (subst IsSome (puts q) there);
}
  where
    changes : Changes (place_at old) (place_at new) path place
    changes = Changes-put old new path place puts

    at : (q : List ℕ) (b : Bool) → is_name path q ≡ b
        → IsSome (cond b (Some place) (lookup (is_name q) old)) → IsRepoPath q
    at q true here there = subst IsRepoPath (one_name path q here) lawful_path
    at q false other there = were.paths q there

-- and once one that was there was changed to such a one
pub AreLawful-back : (old new : Replicas) (path : List ℕ) (was place : ReplicaState)
    → Some was ≡ lookup (is_name path) old → Puts old new path place → IsLawfulReplica place
    → AreLawful old → AreLawful new
AreLawful-back old new path was place found puts lawful were =
    AreLawful-put old new path place puts (were.paths path (sym (ap is_some found))) lawful were

-- so the node is lawful
pub node_is_lawful : (replicas : Replicas) → AreLawful replicas → IsLawful (place_at replicas)
node_is_lawful replicas are = record {
  places = are.places;
  paths = λ path. at path (lookup (is_name path) replicas) refl;
}
  where
    at : (path : List ℕ) (found : Option ReplicaState) → lookup (is_name path) replicas ≡ found
        → IsRepoPath path ⊎ (place_at replicas path ≡ nothing)
    at path None is = inr (ap (λ (o : Option ReplicaState). unwrap_or o nothing) is)
    at path (Some place) is = inl (are.paths path (ap is_some is))
