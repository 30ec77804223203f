-- What becomes of the commit that was issued under a lease.
use Rattle.std.proofs.Common.{◌≡◌, ◌⊎◌, ℕ, Option, None, Some, sym, ◌∙◌, inl, inr}
use Rattle.px_base.specs.declared.hash.Hash.{Hash}
use Rattle.node_calls.specs.ReplicaState.{ReplicaState}
use Rattle.node_calls.specs.declared.snapshot.Snapshot.{Snapshot}
use Rattle.px_cluster.specs.Deliveries.{fence_kept}
use Rattle.px_cluster.specs.Ledger.{Creation, Deleting, Fencing, Purpose, Pushing, Unused, Updating, answered, commit_in, with_commit, with_last, with_snapshot}
use Rattle.cluster_form.proofs.Lists.{choose, some_is}

-- each commit that there is then was there before
abbrev pub AddsNone : Purpose → Purpose → Type 0
AddsNone before now = (hash : Hash) → commit_in now ≡ Some hash → commit_in before ≡ Some hash

-- what has none adds none
pub none_in : (before now : Purpose) → commit_in now ≡ None → AddsNone before now
none_in before now none hash is = absurd (let z : None ≡ Some hash = sym none ∙ is in cc)

-- an answer that is kept
pub by_answer : (p : Purpose) → AddsNone p (answered p)
by_answer Unused hash is = is
by_answer (Creation made) hash is = is
by_answer (Pushing begun commit answered_) hash is = is
by_answer (Updating job source generation kept answered_) hash is = is
by_answer (Deleting job answered_) hash is = is
by_answer (Fencing last) hash is = is

-- a snapshot that is kept
pub by_snapshot : (snapshot : Snapshot) (p : Purpose) → AddsNone p (with_snapshot snapshot p)
by_snapshot snapshot Unused hash is = is
by_snapshot snapshot (Creation made) hash is = is
by_snapshot snapshot (Pushing begun commit answered_) hash is = is
by_snapshot snapshot (Updating job source generation kept answered_) hash is = is
by_snapshot snapshot (Deleting job answered_) hash is = is
by_snapshot snapshot (Fencing last) hash is = is

-- the last lease that was answered
by_last : (last : Option ℕ) (p : Purpose) → AddsNone p (with_last last p)
by_last last Unused hash is = is
by_last last (Creation made) hash is = is
by_last last (Pushing begun commit answered_) hash is = is
by_last last (Updating job source generation kept answered_) hash is = is
by_last last (Deleting job answered_) hash is = is
by_last last (Fencing before) hash is = is

-- .. to a fence, where the node holds the repository
pub by_fence_kept : (state : ReplicaState) (p : Purpose) → AddsNone p (fence_kept state p)
by_fence_kept state p = choose (AddsNone p) state.held (with_last state.last p) p
    (λ held. by_last state.last p) (λ not_held hash is. is)

-- with a commit more there is only the hash of the commit that is issued
pub by_hash : (issued : Hash) (p : Purpose) (hash : Hash) → commit_in (with_commit issued p) ≡ Some hash
    → (commit_in p ≡ Some hash) ⊎ (issued ≡ hash)
by_hash issued Unused hash is = inl is
by_hash issued (Creation made) hash is = inl is
by_hash issued (Pushing begun commit answered_) hash is = inr (some_is issued hash is)
by_hash issued (Updating job source generation kept answered_) hash is = inl is
by_hash issued (Deleting job answered_) hash is = inl is
by_hash issued (Fencing last) hash is = inl is
