-- What the calls of a node leave, as the argument over one repository sees it.
use Rattle.std.proofs.Common.{◌≡◌, ℕ, ◌+◌, ◌≤◌, ◌<◌, ◌==◌, ◌&&◌, not, max, nat_lt, [], ◌∷◌, true, false, if◌then◌else◌, Option, None, Some, refl, sym, ◌∙◌, ap, subst, inl, inr, arith}
use Rattle.std.specs.Option.{option_or}
use Rattle.std.proofs.lemmas.Bool.Decides.{nat_tests}
use Rattle.px_base.specs.Hash.{same_hash, same_hash-Decides}
use Rattle.px_base.specs.RefList.{References}
use Rattle.px_base.specs.declared.hash.Hash.{Hash}
use Rattle.px_base.specs.declared.push.Push.{Push}
use Rattle.px_ops.specs.declared.node_refusal.NodeRefusal.{NodeRefusal}
use Rattle.px_ops.specs.declared.node_refusal.NodeRefusal.TheVariants.{Fenced, NoRepo, RepoExists, VoteDiffers}
use Rattle.refstore.specs.Hook.{vote_on}
use Rattle.refstore.specs.Updates.{after}
use Rattle.node_calls.specs.Calls.{aborted, applied, commit_fault, committed, created, fenced, has_none, not_held, prepared, ready_under, removed}
use Rattle.node_calls.specs.ReplicaState.{ReadyPush, ReplicaState, kept_above}
use Rattle.node_calls.specs.declared.snapshot.Snapshot.{Snapshot}
use Rattle.replica_invariant.specs.State.{AtNode}
use Rattle.cluster_form.proofs.Lists.{bool, same_number, some_is}
use Rattle.cluster_history.specs.Seen.{seen_node, seen_ready}
use Rattle.cluster_history.proofs.Frame.{same_node}

-- ---- refusals that did not come

pub neither : (a b : Option NodeRefusal) → option_or a b ≡ None → (a ≡ None) × (b ≡ None)
neither None b none = (refl, none)
neither (Some why) b none = absurd (let z : Some why ≡ None = none in cc)

pub not_fenced : (lease : ℕ) (state : ReplicaState) → fenced lease state ≡ None → state.fence ≤ lease
not_fenced lease state none = elim (bool (nat_lt lease state.fence)) [
  | inl holds ↦ absurd (let z : Some (Fenced state.fence) ≡ None = rw holds at none in cc)
  | inr fails ↦ grind (arith, nat_tests)
]

pub is_held : (state : ReplicaState) → not_held state ≡ None → state.held ≡ true
is_held state none = elim (bool state.held) [
  | inl holds ↦ holds
  | inr fails ↦ absurd (let z : Some NoRepo ≡ None = rw fails at none in cc)
]

none_there : (refs : References) → (if not (has_none refs) then Some RepoExists else None) ≡ None
    → refs ≡ []
none_there [] none = refl
none_there (ref ∷ refs) none = absurd (let z : Some RepoExists ≡ None = none in cc)

-- a repository that is held where one may be created has no references
pub is_bare : (state : ReplicaState)
    → (if state.held && not (has_none state.refs) then Some RepoExists else None) ≡ None
    → state.held ≡ true → state.refs ≡ []
is_bare state none held = none_there state.refs (rw held at none)

-- ---- fences

max_above : (a b : ℕ) → a ≤ b → max a b ≡ b
max_above a b below = omega (arith, below)

-- a push whose lease is below the fence is dropped
pub dropped : (fence : ℕ) (ready : Option ReadyPush)
    → ((push : ReadyPush) → ready ≡ Some push → push.lease < fence) → kept_above fence ready ≡ None
dropped fence None below = refl
dropped fence (Some push) below = elim (bool (nat_lt push.lease fence)) [
  | inl holds ↦ (rw holds refl)
  | inr fails ↦ absurd (let less = below push refl in grind (arith, nat_tests))
]

-- ---- the calls, under a lease that is not below the fence

module _ (lease : ℕ) (state : ReplicaState) (live : state.fence ≤ lease) where
  top : max state.fence (lease + 1) ≡ lease + 1
  top = max_above state.fence (lease + 1) (omega (arith, live))

  -- no push that is ready has a later lease
  abbrev AreBelow : Type 0
  AreBelow = (push : ReadyPush) → state.ready ≡ Some push → push.lease ≤ lease

  gone : AreBelow → kept_above (max state.fence (lease + 1)) state.ready ≡ None
  gone below = dropped (max state.fence (lease + 1)) state.ready
      (λ push is. let at = below push is in omega (arith, top, at))

  abbrev pub at_work : (refs : References) → Option ℕ → AtNode
  at_work refs last = record {
    held = true;
    refs = refs;
    fence = lease + 1;
    committed = last;
    ready = None;
  }

  pub created_is : AreBelow → seen_node (created lease state) ≡ at_work [] state.last
  created_is below = same_node (seen_node (created lease state)) (at_work [] state.last) refl refl
      top refl (ap (seen_ready []) (gone below))

  pub committed_is : (push : ReadyPush) → state.held ≡ true → AreBelow
      → seen_node (committed lease push state)
      ≡ at_work (after state.refs push.updates) (Some lease)
  committed_is push held below = same_node (seen_node (committed lease push state))
      (at_work (after state.refs push.updates) (Some lease)) held refl top refl
      (ap (seen_ready (after state.refs push.updates)) (gone below))

  pub applied_is : (snapshot : Snapshot) → AreBelow
      → seen_node (applied lease snapshot state) ≡ at_work snapshot.refs state.last
  applied_is snapshot below = same_node (seen_node (applied lease snapshot state))
      (at_work snapshot.refs state.last) refl refl top refl
      (ap (seen_ready snapshot.refs) (gone below))

  abbrev pub without_it : AtNode
  without_it = record {
    held = false;
    refs = [];
    fence = lease + 1;
    committed = state.last;
    ready = None;
  }

  pub removed_is : AreBelow → seen_node (removed lease state) ≡ without_it
  removed_is below = same_node (seen_node (removed lease state)) without_it refl refl top refl
      (ap (seen_ready []) (gone below))

  pub aborted_is : seen_node (aborted lease state)
      ≡ record (seen_node state) { fence = lease + 1; ready = None }
  aborted_is = same_node (seen_node (aborted lease state))
      (record (seen_node state) { fence = lease + 1; ready = None }) refl refl top refl refl

  pub prepared_is : (push : Push) → seen_node (prepared lease push state)
      ≡ record (seen_node state) {
        fence = lease;
        ready = Some (record {
          lease = lease;
          updates = push.updates;
          content = after state.refs push.updates;
        });
      }
  prepared_is push = same_node (seen_node (prepared lease push state)) (record (seen_node state) {
    fence = lease;
    ready = Some (record {
      lease = lease;
      updates = push.updates;
      content = after state.refs push.updates;
    });
  }) refl refl (max_above state.fence lease live) refl refl

-- ---- the push that is ready under a lease

pub ready_is : (lease : ℕ) (ready : Option ReadyPush) (push : ReadyPush)
    → ready_under lease ready ≡ Some push → (ready ≡ Some push) × (push.lease ≡ lease)
ready_is lease None push is = absurd (let z : None ≡ Some push = is in cc)
ready_is lease (Some found) push is = elim (bool (found.lease == lease)) [
  | inl holds ↦ (let there : Some found ≡ Some push = rw holds at is in
      let same = some_is found push there in
      (there, ap (λ (p : ReadyPush). p.lease) (sym same) ∙ same_number found.lease lease holds))
  | inr fails ↦ absurd (let z : None ≡ Some push = rw fails at is in cc)
]

-- its vote is the hash, where that is not refused
pub voted_is : (hash : Hash) (ready : Option ReadyPush) (push : ReadyPush) → ready ≡ Some push
    → commit_fault hash ready ≡ None → vote_on push.updates ≡ hash
voted_is hash None push is none = absurd (let z : None ≡ Some push = is in cc)
voted_is hash (Some found) push is none = elim (bool (same_hash (vote_on found.updates) hash)) [
  | inl holds ↦ (subst (λ (p : ReadyPush). vote_on p.updates ≡ hash) (some_is found push is)
      ((same_hash-Decides (vote_on found.updates) hash).0 holds))
  | inr fails ↦ absurd (let z : Some (VoteDiffers (vote_on found.updates)) ≡ None =
      rw fails at none in cc)
]
