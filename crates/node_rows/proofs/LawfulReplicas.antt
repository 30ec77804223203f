-- Lawful places: one of which a row of table 6 tells, and those of a node of which one changes.
use Rattle.std.proofs.Common.{◌≡◌, ◌<◌, ◌-◌, ◌^◌, ℕ, List, [], Bool, Option, None, refl, sym, subst, ◌⊎◌, ⊎_elim, inl}
use Rattle.std.specs.List.Sorted.{IsStrictlySortedBy}
use Rattle.std.specs.Prelude.{IfSome}
use Rattle.px_base.proofs.Lists.{no_refs}
use Rattle.px_base.specs.RepoPath.{IsRepoPath}
use Rattle.objstore.specs.Entries.{IsStore}
use Rattle.node_calls.proofs.ReplicaLemmas.{this_or_other}
use Rattle.node_calls.specs.Lawful.{IsLawful, IsLawfulReplica}
use Rattle.node_calls.specs.ReplicaState.{Changes, NodeState, ReplicaState, nothing}
use Rattle.node_rows.specs.Reading.{said}

-- a repository may have no objects
no_objects : IsStore []
unfolding IsStrictlySortedBy
no_objects = record { ordered = tt; named = λ id object has. absurd (cc) }

-- a repository may have what a row of table 6 says, where its numbers fit into their bytes
pub IsLawfulReplica-said : (fence : ℕ) (last : Option ℕ) (held : Bool) → fence < 2 ^ 64
    → IfSome last (λ lease. lease < 2 ^ 64 - 1) → IsLawfulReplica (said fence last held)
IsLawfulReplica-said fence last held fence_fits last_fits = record {
  fence = fence_fits;
  last = last_fits;
  refs = no_refs;
  ids = λ name id has. absurd (cc);
  store = no_objects;
  small = λ id object has. absurd (cc);
  empty = λ free. (refl, refl);
}

module _ (old new : NodeState) (path : List ℕ) (place : ReplicaState)
    (changes : Changes old new path place) where
  -- what holds of all places, and of the one that changes, holds of all places afterwards
  each_place : (P : List ℕ → ReplicaState → Type 0) → P path place → ((q : List ℕ) → P q (old q))
      → (q : List ℕ) → P q (new q)
  each_place P here each q = ⊎_elim
      (λ same. subst (λ (r : List ℕ). P r (new r)) same (subst (P path) (sym changes.here) here))
      (λ alike. subst (P q) (sym alike) (each q))
      (this_or_other old new path changes.others q)

  -- so it is lawful, where the place that changes is
  pub IsLawful-changes : IsLawful old → IsRepoPath path → IsLawfulReplica place → IsLawful new
  IsLawful-changes lawful is_path may = record {
    places = each_place (λ q p. IsLawfulReplica p) may lawful.places;
    paths = each_place (λ q p. IsRepoPath q ⊎ (p ≡ nothing)) (inl is_path) lawful.paths;
  }

  -- and no push is ready, where none is in that place
  pub unready_changes : ((q : List ℕ) → (old q).ready ≡ None) → place.ready ≡ None
      → (q : List ℕ) → (new q).ready ≡ None
  unready_changes unready none = each_place (λ q p. p.ready ≡ None) none unready
