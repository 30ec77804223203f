-- Calls under leases: which fences they pass, and that fences never fall.
use Rattle.std.proofs.Common.{◌≡◌, ◌<◌, ◌≤◌, ◌+◌, ℕ, List, Option, None, Some, false, nat_lt, Result, Ok, Err, max, ap, ◌∙◌, subst, ⊎_elim, arith, refl, inl, inr}
use Rattle.std.specs.Option.{IfSome}
use Rattle.std.proofs.Math.Nat.{max-eq_left}
use Rattle.std.proofs.lemmas.Bool.{cond-false}
use Rattle.std.proofs.lemmas.Bool.Decides.{nat_tests}
use Rattle.node_calls.proofs.StepLemmas.{Keeps, run_keeps, step_keeps}
use Rattle.node_calls.specs.Calls.{fenced}
use Rattle.node_calls.proofs.ReplicaLemmas.{this_or_other}
use Rattle.node_calls.specs.Ends.{Ends, FenceEnds, IsEither, IsRaised}
use Rattle.node_calls.specs.Whole.{IsWhole, IsWholeReplica, IsWholePush}
use Rattle.node_calls.specs.ReplicaState.{NodeState, ReplicaState, ReadyPush, Same, kept_above, raised}
use Rattle.node_calls.specs.Steps.{HasNoEffect, IsRun, IsStep}
use Rattle.node_calls.specs.declared.node.NodeError.{NodeError}
use Rattle.node_calls.specs.declared.node.NodeError.TheVariants.{Fault, Memory, Refused}
use Rattle.px_ops.specs.declared.node_refusal.NodeRefusal.{NodeRefusal}

-- a call that is not refused carries a lease that is not below the fence
pub fence_passed : (lease : ℕ) (place : ReplicaState) → fenced lease place ≡ None
    → place.fence < lease + 1
fence_passed lease place none = grind (arith, nat_tests)

pub never_below : (lease : ℕ) (place : ReplicaState) → lease < place.fence → fenced lease place ≡ None → ⊥
never_below lease place below none = absurd (omega (arith, fence_passed lease place none))

-- ---- a call that is never done

module _ {A : Type 0} (refuses : ReplicaState → NodeRefusal → Type 0) (does : ReplicaState → A → ReplicaState → Type 0)
    (path : List ℕ) (old new : NodeState)
    (never : (answer : A) (place : ReplicaState) → does (old path) answer place → ⊥) where
  either_same : IsEither refuses does path old new → Same old new
  either_same (inl same) = same
  either_same (inr done) = absurd (never done.0 done.1.place done.1.does_)

  pub never_done : (result : Result A NodeError) → Ends refuses does path result old new
      → HasNoEffect result old new
  never_done (Ok answer) ends = absurd (never answer ends.place ends.does_)
  never_done (Err (Refused r)) ends = record { failed = refl; same = ends.1 }
  never_done (Err Fault) ends = record { failed = refl; same = either_same ends }
  never_done (Err Memory) ends = record { failed = refl; same = either_same ends }

-- ---- fences

-- the fence is no lower
abbrev pub FenceStays : ReplicaState → ReplicaState → Type 0
FenceStays place then_ = place.fence ≤ then_.fence

fence_of : (a b : ReplicaState) → a ≡ b → a.fence ≡ b.fence
fence_of a b same = ap (λ (p : ReplicaState). p.fence) same

is_raised : (fence to now : ℕ) → now ≡ max fence to → fence ≤ now
is_raised fence to now is = omega arith

fences_stay : Keeps FenceStays
fences_stay = record {
  stays = λ place. omega arith;
  creates = λ lease place answer then_ done.
      is_raised place.fence (lease + 1) then_.fence (fence_of then_ _ done.is);
  prepares = λ lease push place answer then_ lawful done.
      is_raised place.fence lease then_.fence (fence_of then_ _ done.is);
  commits = λ lease hash place answer then_ done.
      is_raised place.fence (lease + 1) then_.fence (fence_of then_ _ done.is);
  aborts = λ lease place answer then_ done.
      is_raised place.fence (lease + 1) then_.fence (fence_of then_ _ done.is);
  raises = λ lease place. is_raised place.fence lease (max place.fence lease) refl;
  applies = λ lease given place answer then_ lawful done.
      is_raised place.fence (lease + 1) then_.fence (fence_of then_ _ done.is);
  removes = λ lease place answer then_ done.
      is_raised place.fence (lease + 1) then_.fence (fence_of then_ _ done.is);
  ends = λ place. omega arith;
}

pub step_fences : (old new : NodeState) → IsStep old new → (path : List ℕ)
    → (old path).fence ≤ (new path).fence
step_fences old new step path = step_keeps FenceStays fences_stay old new step path

le_through : (a b c : ℕ) → a ≤ b → b ≤ c → a ≤ c
le_through a b c below above = omega arith

pub run_fences : (old new : NodeState) → IsRun old new → (path : List ℕ)
    → (old path).fence ≤ (new path).fence
run_fences old new run path =
    run_keeps FenceStays fences_stay
    (λ a b c below above. le_through a.fence b.fence c.fence below above) old new run path

-- ---- a fence that is raised to a lease below it

-- a push whose lease is the fence stays
kept_same : (fence : ℕ) (ready : Option ReadyPush)
    → IfSome ready (λ (push : ReadyPush). push.lease ≡ fence) → kept_above fence ready ≡ ready
kept_same fence None is = refl
kept_same fence (Some push) is = cond-false (nat_lt push.lease fence) None (Some push)
    (let not_below : nat_lt push.lease fence ≡ false = grind (arith, nat_tests, is) in not_below)

ready_at_fence : (place : ReplicaState) (ready : Option ReadyPush)
    → IfSome ready (λ (push : ReadyPush). IsWholePush place push)
    → IfSome ready (λ (push : ReadyPush). push.lease ≡ place.fence)
ready_at_fence place None whole = tt
ready_at_fence place (Some push) whole = whole.fenced

-- so all is as it was
raised_same : (lease : ℕ) (place : ReplicaState) → IsWholeReplica place → lease < place.fence
    → raised lease place ≡ place
raised_same lease place whole below =
    let same : max place.fence lease ≡ place.fence =
    max-eq_left (let least : lease ≤ place.fence = omega (arith, below) in least) in
    ap (λ (f : ℕ). record place { fence = f; ready = kept_above f place.ready }) same
    ∙ ap (λ (r : Option ReadyPush). record place { ready = r })
    (kept_same place.fence place.ready (ready_at_fence place place.ready whole.ready))

pub fence_stays : (lease : ℕ) (path : List ℕ) (result : Result (Option ℕ) NodeError)
    (old new : NodeState) → IsWhole old → lease < (old path).fence
    → FenceEnds lease path result old new → Same old new
fence_stays lease path result old new whole below ends = at result ends
  where
    as_it_was : IsRaised lease path old new → Same old new
    as_it_was changes q = ⊎_elim
        (λ here. subst (λ (p : List ℕ). new p ≡ old p) here
        (changes.here ∙ raised_same lease (old path) (whole path) below))
        (λ same. same) (this_or_other old new path changes.others q)

    at : (r : Result (Option ℕ) NodeError) → FenceEnds lease path r old new → Same old new
    at (Ok last) e = as_it_was e.2
    at (Err (Refused r)) e = as_it_was e.2
    at (Err Fault) e = ⊎_elim (λ same. same) as_it_was e
    at (Err Memory) e = ⊎_elim (λ same. same) as_it_was e
