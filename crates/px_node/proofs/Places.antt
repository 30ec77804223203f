-- What is under a path once a replica was put there, or changed.
use Rattle.std.proofs.Common.{◌≡◌, ℕ, List, true, false, Option, Some, None, refl, sym, ap, ◌∙◌, subst, ⊎_elim}
use Rattle.std.specs.Map.{lookup}
use Rattle.std.specs.Option.{IsSome, is_some, unwrap_or}
use Rattle.std.proofs.lemmas.Bool.{cases_Bool, cond-false, cond-true}
use Rattle.px_base.specs.RefList.{is_name}
use Rattle.std.specs.Prelude.{Result, Ok, Err, OnOk, OnErr, IfOk}
use Rattle.px_base.specs.declared.hash.Hash.{Hash}
use Rattle.node_replica.specs.Effects.{CommitsAt, DoesReady}
use Rattle.node_calls.specs.ReplicaState.{Changes, ReplicaState, Same, nothing}
use Rattle.px_node.specs.Shelf.{Puts, Replicas, place_at}
use Rattle.refstore.proofs.Names.{one_name, other_name, names_laws}

-- what was put under a path, the node has
pub Changes-put : (old new : Replicas) (path : List ℕ) (place : ReplicaState) → Puts old new path place
    → Changes (place_at old) (place_at new) path place
Changes-put old new path place puts = record {
  here = ap (λ (o : Option ReplicaState). unwrap_or o nothing) (puts path
      ∙ cond-true (is_name path path) (Some place) (lookup (is_name path) old)
      (names_laws.refl path));
  others = λ q differs. ap (λ (o : Option ReplicaState). unwrap_or o nothing) (puts q
      ∙ cond-false (is_name path q) (Some place) (lookup (is_name q) old)
      (other_name path q differs));
}

-- there is room for it
pub IsSome-put : (old new : Replicas) (path : List ℕ) (place : ReplicaState) → Puts old new path place
    → IsSome (lookup (is_name path) new)
IsSome-put old new path place puts = ap is_some (puts path
    ∙ cond-true (is_name path path) (Some place) (lookup (is_name path) old) (names_laws.refl path))

-- nothing put where there was nothing changes nothing
pub Same-put : (old new : Replicas) (path : List ℕ) → lookup (is_name path) old ≡ None
    → Puts old new path nothing → Same (place_at old) (place_at new)
Same-put old new path none puts q = ⊎_elim
    (λ t. ap (λ (o : Option ReplicaState). unwrap_or o nothing) (puts q
    ∙ cond-true (is_name path q) (Some nothing) (lookup (is_name q) old) t)
    ∙ ap (λ (o : Option ReplicaState). unwrap_or o nothing)
    (sym (subst (λ (p : List ℕ). lookup (is_name p) old ≡ None) (one_name path q t) none)))
    (λ f. ap (λ (o : Option ReplicaState). unwrap_or o nothing) (puts q
    ∙ cond-false (is_name path q) (Some nothing) (lookup (is_name q) old) f))
    (cases_Bool (is_name path q))

-- ---- what a look-up of the code tells

-- what was found under the bytes of a path is there
pub place_here : (replicas : Replicas) (path bytes : List ℕ) (place : ReplicaState) → bytes ≡ path
    → Some place ≡ lookup (is_name bytes) replicas → place_at replicas path ≡ place
place_here replicas path bytes place same found =
    ap (λ (o : Option ReplicaState). unwrap_or o nothing)
    (sym (found ∙ ap (λ (p : List ℕ). lookup (is_name p) replicas) same))

-- where it was changed, and then written back, the node has what it was changed to
pub Changes-back : (old new : Replicas) (path bytes : List ℕ) (place after : ReplicaState)
    (does : ReplicaState → ReplicaState) → bytes ≡ path → Some place ≡ lookup (is_name bytes) old
    → after ≡ does place → Puts old new bytes after
    → Changes (place_at old) (place_at new) path (does (place_at old path))
Changes-back old new path bytes place after does same found done puts =
    let is : after ≡ does (place_at old path) =
    done ∙ ap does (sym (place_here old path bytes place same found)) in
    subst (λ (p : ReplicaState). Changes (place_at old) (place_at new) path p) is
    (Changes-put old new path after
    (subst (λ (p : List ℕ). Puts old new p after) same puts))

-- there is none where the test says so
pub none_from_test : (found : Option ReplicaState) → is_some found ≡ false → found ≡ None
none_from_test None t = refl
none_from_test (Some place) t = absurd (cc)

-- where it was changed to what it was, nothing has changed
Same-Changes : (old new : Replicas) (path : List ℕ)
    → Changes (place_at old) (place_at new) path (place_at old path)
    → Same (place_at old) (place_at new)
Same-Changes old new path changes q = ⊎_elim
    (λ t. subst (λ (p : List ℕ). place_at new p ≡ place_at old p) (one_name path q t) changes.here)
    (λ f. changes.others q (λ e. absurd (
    let t : is_name path q ≡ true =
    ap (is_name path) e ∙ names_laws.refl path in
    cc)))
    (cases_Bool (is_name path q))

pub Same-back : (old new : Replicas) (path bytes : List ℕ) (place after : ReplicaState) → bytes ≡ path
    → Some place ≡ lookup (is_name bytes) old → after ≡ place → Puts old new bytes after
    → Same (place_at old) (place_at new)
Same-back old new path bytes place after same found done puts =
    Same-Changes old new path
    (Changes-back old new path bytes place after (λ (p : ReplicaState). p) same found done puts)

-- ---- what an answer tells, in other words

pub OnOk-on : {A E : Type 0} (P Q : Type 0) (r : Result A E) → (P → Q) → OnOk r P → OnOk r Q
OnOk-on P Q (Ok a) on h = on h
OnOk-on P Q (Err e) on h = tt

pub OnErr-on : {A E : Type 0} (P Q : Type 0) (r : Result A E) → (P → Q) → OnErr r P → OnErr r Q
OnErr-on P Q (Ok a) on h = tt
OnErr-on P Q (Err e) on h = on h

pub IfOk-on : {A E : Type 0} (P Q : A → Type 0) (r : Result A E) → ((a : A) → P a → Q a)
    → IfOk r P → IfOk r Q
IfOk-on P Q (Ok a) on h = on a h
IfOk-on P Q (Err e) on h = tt

-- ---- a commit

-- what a replica did, the node did
pub CommitsAt-back : (lease : ℕ) (old new : Replicas) (path bytes : List ℕ) (place after : ReplicaState)
    (vote : Hash) → bytes ≡ path → Some place ≡ lookup (is_name bytes) old
    → Puts old new bytes after → DoesReady lease place after vote
    → CommitsAt lease path (place_at old) (place_at new) vote
CommitsAt-back lease old new path bytes place after vote same found puts does = record {
  place = after;
  does_ = subst (λ (p : ReplicaState). DoesReady lease p after vote)
      (sym (place_here old path bytes place same found)) does;
  changes = Changes-put old new path after
      (subst (λ (p : List ℕ). Puts old new p after) same puts);
}
