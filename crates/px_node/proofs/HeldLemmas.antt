-- The paths of the replicas that are held: they ascend, and tell what is held.
use Rattle.std.proofs.Common.{◌≡◌, ℕ, List, [], ◌∷◌, ◌++◌, true, false, Bool, cond, Some, refl, sym, ap, ◌∙◌, subst, append_assoc}
use Rattle.std.specs.List.{AllByRecursion, filter, list_any}
use Rattle.std.specs.List.Sorted.{IsStrictlySortedBy}
use Rattle.std.specs.Map.{keys_of, lookup}
use Rattle.std.specs.Option.{unwrap_or}
use Rattle.std.specs.declared.cmp.Ordering.TheVariants.{Less}
use Rattle.std.specs.Ordering.{is_eq}
use Rattle.std.proofs.lemmas.List.{append-nil}
use Rattle.px_base.specs.PathList.{IsPathList}
use Rattle.px_base.specs.RefList.{is_name, name_cmp}
use Rattle.px_base.specs.RepoPath.{IsRepoPath}
use Rattle.node_calls.specs.Ends.{ArePaths}
use Rattle.px_node.specs.Held.{held_paths}
use Rattle.node_calls.specs.ReplicaState.{ReplicaState, nothing}
use Rattle.px_node.specs.Shelf.{Replicas, place_at}
use Rattle.refstore.proofs.Names.{names_laws}

-- the paths ascend
abbrev pub Ascends : Replicas → Type 0
Ascends replicas = IsStrictlySortedBy name_cmp (keys_of replicas)

-- what holds of all paths holds of those that are held
all_held : (P : List ℕ → Type 0) (replicas : Replicas) → AllByRecursion P (keys_of replicas)
    → AllByRecursion P (held_paths replicas)
all_held P [] all = tt
all_held P (entry ∷ replicas) all = at (all_held P replicas all.1) entry.1.held
  where
    at : AllByRecursion P (held_paths replicas) → (b : Bool)
        → AllByRecursion P (keys_of (cond b
        (entry ∷ filter (λ (e : List ℕ × ReplicaState). e.1.held) replicas)
        (filter (λ (e : List ℕ × ReplicaState). e.1.held) replicas)))
    at rest true = (all.0, rest)
    at rest false = rest

pub ascends_held : (replicas : Replicas) → Ascends replicas
    → IsStrictlySortedBy name_cmp (held_paths replicas)
unfolding IsStrictlySortedBy
ascends_held [] ascends = tt
ascends_held (entry ∷ replicas) ascends = at (ascends_held replicas ascends.1) entry.1.held
  where
    at : IsStrictlySortedBy name_cmp (held_paths replicas) → (b : Bool)
        → IsStrictlySortedBy name_cmp (keys_of (cond b
        (entry ∷ filter (λ (e : List ℕ × ReplicaState). e.1.held) replicas)
        (filter (λ (e : List ℕ × ReplicaState). e.1.held) replicas)))
    at rest true =
        (all_held (λ (q : List ℕ). name_cmp entry.0 q ≡ Less) replicas ascends.0, rest)
    at rest false = rest

-- a path that all others are above is none of them
not_above : (path q : List ℕ) (paths : List (List ℕ)) → is_name q path ≡ true
    → AllByRecursion (λ (p : List ℕ). name_cmp path p ≡ Less) paths
    → list_any (is_name q) paths ≡ false
not_above path q [] same all = refl
not_above path q (p ∷ paths) same all =
    let apart : is_name q p ≡ false =
    names_laws.congr q path p same ∙ ap is_eq all.0 in
    rw apart (not_above path q paths same all.1)

-- a path is among them where it is held
pub held_tells : (replicas : Replicas) → Ascends replicas → (q : List ℕ)
    → list_any (is_name q) (held_paths replicas) ≡ (place_at replicas q).held
unfolding IsStrictlySortedBy
held_tells [] ascends q = refl
held_tells (entry ∷ replicas) ascends q =
    at (held_tells replicas ascends.1 q)
    (λ (same : is_name q entry.0 ≡ true). not_above entry.0 q (held_paths replicas) same
    (all_held (λ (p : List ℕ). name_cmp entry.0 p ≡ Less) replicas ascends.0))
    (is_name q entry.0) refl entry.1.held refl
  where
    at : list_any (is_name q) (held_paths replicas) ≡ (place_at replicas q).held
        → (is_name q entry.0 ≡ true → list_any (is_name q) (held_paths replicas) ≡ false)
        → (b : Bool) → is_name q entry.0 ≡ b → (h : Bool) → entry.1.held ≡ h
        → list_any (is_name q) (keys_of (cond h
        (entry ∷ filter (λ (e : List ℕ × ReplicaState). e.1.held) replicas)
        (filter (λ (e : List ℕ × ReplicaState). e.1.held) replicas)))
        ≡ (unwrap_or (cond b (Some entry.1) (lookup (is_name q) replicas)) nothing).held
    at rest none true same true held = rw same (sym held)
    at rest none true same false held = none same ∙ sym held
    at rest none false same true held = rw same rest
    at rest none false same false held = rest

-- ---- the front of a list of paths

all_front : (P : List ℕ → Type 0) (front rest : List (List ℕ)) → AllByRecursion P (front ++ rest)
    → AllByRecursion P front
all_front P [] rest all = tt
all_front P (path ∷ front) rest all = (all.0, all_front P front rest all.1)

front_ascends : (front rest : List (List ℕ)) → IsStrictlySortedBy name_cmp (front ++ rest)
    → IsStrictlySortedBy name_cmp front
unfolding IsStrictlySortedBy
front_ascends [] rest ascends = tt
front_ascends (path ∷ front) rest ascends = (
  all_front (λ (q : List ℕ). name_cmp path q ≡ Less) front rest ascends.0,
  front_ascends front rest ascends.1,
)

all_more : (P : List ℕ → Type 0) (paths : List (List ℕ)) (path : List ℕ) → AllByRecursion P paths
    → P path → AllByRecursion P (paths ++ path ∷ [])
all_more P [] path all here = (here, tt)
all_more P (first ∷ paths) path all here = (all.0, all_more P paths path all.1 here)

-- a held path that comes next may stand at the end of those before it
pub IsPathList-more : (paths rest : List (List ℕ)) (all : List (List ℕ)) (path copied : List ℕ)
    → paths ++ path ∷ rest ≡ all → copied ≡ path → IsStrictlySortedBy name_cmp all
    → AllByRecursion IsRepoPath paths → IsRepoPath path → IsPathList (paths ++ copied ∷ [])
IsPathList-more paths rest all path copied whole same ascends lawful here =
    subst (λ (p : List ℕ). IsPathList (paths ++ p ∷ [])) (sym same) (record {
      ordered = front_ascends (paths ++ path ∷ []) rest
          (subst (IsStrictlySortedBy name_cmp)
          (sym (append_assoc paths (path ∷ []) rest ∙ whole)) ascends);
      lawful = all_more IsRepoPath paths path lawful here;
    })

-- ---- one replica more

held_first : (path : List ℕ) (place : ReplicaState) (rest : Replicas) → place.held ≡ true
    → held_paths ((path, place) ∷ rest) ≡ path ∷ held_paths rest
held_first path place rest held = rw held refl

held_not : (path : List ℕ) (place : ReplicaState) (rest : Replicas) → place.held ≡ false
    → held_paths ((path, place) ∷ rest) ≡ held_paths rest
held_not path place rest held = rw held refl

-- the paths so far, and those of what is left, are all, where the next one is held
pub next_held : (paths all : List (List ℕ)) (left rest : Replicas) (path : List ℕ) (place : ReplicaState)
    → paths ++ held_paths left ≡ all → left ≡ (path, place) ∷ rest → place.held ≡ true
    → paths ++ path ∷ held_paths rest ≡ all
next_held paths all left rest path place whole is held =
    ap (λ (l : List (List ℕ)). paths ++ l) (sym (ap held_paths is ∙ held_first path place rest held))
    ∙ whole

-- so they are with a copy of it at their end
pub pushed_held : (paths made all rest : List (List ℕ)) (path copied : List ℕ)
    → made ≡ paths ++ copied ∷ [] → copied ≡ path → paths ++ path ∷ rest ≡ all
    → made ++ rest ≡ all
pushed_held paths made all rest path copied is same whole =
    ap (λ (l : List (List ℕ)). l ++ rest) is
    ∙ append_assoc paths (copied ∷ []) rest
    ∙ ap (λ (p : List ℕ). paths ++ p ∷ rest) same ∙ whole

-- and where it is not
pub next_not : (paths all : List (List ℕ)) (left rest : Replicas) (path : List ℕ) (place : ReplicaState)
    → paths ++ held_paths left ≡ all → left ≡ (path, place) ∷ rest → place.held ≡ false
    → paths ++ held_paths rest ≡ all
next_not paths all left rest path place whole is held =
    ap (λ (l : List (List ℕ)). paths ++ l) (sym (ap held_paths is ∙ held_not path place rest held))
    ∙ whole

-- where none is left, they are the paths of what is held
pub ArePaths-end : (paths : List (List ℕ)) (replicas left : Replicas) → Ascends replicas
    → paths ++ held_paths left ≡ held_paths replicas → left ≡ [] → IsPathList paths
    → ArePaths (place_at replicas) paths
ArePaths-end paths replicas left ascends whole none list = (
  list,
  λ q. ap (list_any (is_name q)) (sym (append-nil paths)
      ∙ ap (λ (l : List (List ℕ)). paths ++ l) (sym (ap held_paths none)) ∙ whole)
      ∙ held_tells replicas ascends q,
)
