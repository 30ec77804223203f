-- What each node holds stays whole: all that its references lead to is there.
use Rattle.std.proofs.Common.{◌≡◌, ◌==◌, ◌&&◌, ℕ, List, if◌then◌else◌, Option, None, Some, sym, subst, inl, inr}
use Rattle.std.specs.Str.{bytes_eq}
use Rattle.px_base.specs.RefList.{IsRefList}
use Rattle.px_base.specs.Update.{AreUpdates}
use Rattle.px_base.specs.declared.hash.Hash.{Hash}
use Rattle.node_calls.proofs.WholeLemmas.{StaysWhole, all_whole}
use Rattle.node_calls.specs.ReplicaState.{ReplicaState, without_ready}
use Rattle.node_calls.specs.Whole.{IsWhole, IsWholeReplica}
use Rattle.node_calls.specs.declared.snapshot.Snapshot.{Snapshot}
use Rattle.px_cluster.specs.Astray.{Move, Moves}
use Rattle.px_cluster.specs.Casts.{member_named}
use Rattle.px_cluster.specs.Cluster.{Cluster}
use Rattle.px_cluster.specs.Core.{OpenPush, push_of, voting}
use Rattle.px_cluster.specs.Effects.{Effect, purpose_at, snapshot_of, state_at}
use Rattle.px_cluster.specs.Issues.{issues_commit, issues_commit_at, told_hash}
use Rattle.px_cluster.specs.Ledger.{Creation, Deleting, Fencing, Purpose, Pushing, Unused, Updating, answered, snapshot_in, with_commit, with_last, with_snapshot}
use Rattle.txmanager.specs.Voting.{Voting, collect_answer}
use Rattle.cluster_form.proofs.Lists.{bool, choose, some_is}
use Rattle.cluster_runs.proofs.Ledgers.{IsJustDrawn, IsKeptBy, OnPurposes, creation, deleting, fencing, ledger_moves, pushing, updating}
use Rattle.cluster_runs.proofs.Nodes.{IsCall, NodesMove, aborts, applies, calls, commits, creates, fences, loses, prepares, removes, stays}

-- ---- snapshots that are kept

-- the references of a snapshot are such as a repository may have
abbrev pub IsLawful : Snapshot → Type 0
IsLawful snapshot = IsRefList snapshot.refs

abbrev pub KeepsLawful : Purpose → Type 0
KeepsLawful (Updating job source generation (Some snapshot) answered_) = IsLawful snapshot
KeepsLawful other = Unit {0}

abbrev pub AreSnapshotsLawful : Cluster → Type 0
AreSnapshotsLawful cluster = (repo storage lease : ℕ) → KeepsLawful (cluster.ledger repo storage lease)

-- the snapshot of an update is the one that is kept
pub snapshot_lawful : (cluster : Cluster) (effect : Effect) (job : ℕ) (snapshot : Snapshot)
    → AreSnapshotsLawful cluster → snapshot_of cluster job (Some effect) ≡ Some snapshot
    → IsLawful snapshot
snapshot_lawful cluster effect job snapshot lawful is =
    by (purpose_at cluster effect) (lawful effect.at.repo effect.at.storage effect.lease) is
  where
    by : (purpose : Purpose) → KeepsLawful purpose → snapshot_in job purpose ≡ Some snapshot
        → IsLawful snapshot
    by (Updating number source generation (Some kept) answered_) lawful_ is_ =
        elim (bool (number == job)) [
          | inl holds ↦ subst IsLawful (some_is kept snapshot (rw holds at is_)) lawful_
          | inr fails ↦ absurd (let z : None ≡ Some snapshot = rw fails at is_ in cc)
        ]
    by (Updating number source generation None answered_) lawful_ is_ =
        elim (bool (number == job)) [
          | inl holds ↦ absurd (let z : None ≡ Some snapshot = rw holds at is_ in cc)
          | inr fails ↦ absurd (let z : None ≡ Some snapshot = rw fails at is_ in cc)
        ]
    by Unused lawful_ is_ = absurd (let z : None ≡ Some snapshot = is_ in cc)
    by (Creation made) lawful_ is_ = absurd (let z : None ≡ Some snapshot = is_ in cc)
    by (Pushing begun commit answered_) lawful_ is_ =
        absurd (let z : None ≡ Some snapshot = is_ in cc)
    by (Deleting number answered_) lawful_ is_ = absurd (let z : None ≡ Some snapshot = is_ in cc)
    by (Fencing last) lawful_ is_ = absurd (let z : None ≡ Some snapshot = is_ in cc)

-- ---- what keeps them lawful

abbrev StaysLawful : Purpose → Purpose → Type 0
StaysLawful before now = KeepsLawful before → KeepsLawful now

by_answer : (purpose : Purpose) → StaysLawful purpose (answered purpose)
by_answer Unused is = tt
by_answer (Creation made) is = tt
by_answer (Pushing begun commit answered_) is = tt
by_answer (Updating job source generation None answered_) is = tt
by_answer (Updating job source generation (Some snapshot) answered_) is = is
by_answer (Deleting job answered_) is = tt
by_answer (Fencing last) is = tt

by_snapshot : (snapshot : Snapshot) → IsLawful snapshot → (purpose : Purpose)
    → StaysLawful purpose (with_snapshot snapshot purpose)
by_snapshot snapshot lawful Unused is = tt
by_snapshot snapshot lawful (Creation made) is = tt
by_snapshot snapshot lawful (Pushing begun commit answered_) is = tt
by_snapshot snapshot lawful (Updating job source generation kept answered_) is = lawful
by_snapshot snapshot lawful (Deleting job answered_) is = tt
by_snapshot snapshot lawful (Fencing last) is = tt

by_last : (last : Option ℕ) (purpose : Purpose) → StaysLawful purpose (with_last last purpose)
by_last last Unused is = tt
by_last last (Creation made) is = tt
by_last last (Pushing begun commit answered_) is = tt
by_last last (Updating job source generation None answered_) is = tt
by_last last (Updating job source generation (Some snapshot) answered_) is = is
by_last last (Deleting job answered_) is = tt
by_last last (Fencing before) is = tt

by_hash : (hash : Hash) (purpose : Purpose) → StaysLawful purpose (with_commit hash purpose)
by_hash hash Unused is = tt
by_hash hash (Creation made) is = tt
by_hash hash (Pushing begun commit answered_) is = tt
by_hash hash (Updating job source generation None answered_) is = tt
by_hash hash (Updating job source generation (Some snapshot) answered_) is = is
by_hash hash (Deleting job answered_) is = tt
by_hash hash (Fencing last) is = tt

just_drawn : (purpose : Purpose) → IsJustDrawn purpose → KeepsLawful purpose
just_drawn _ creation = tt
just_drawn _ (pushing begun) = tt
just_drawn _ (updating job source generation) = tt
just_drawn _ (deleting job) = tt
just_drawn _ fencing = tt

module _ (old : Cluster) (wholes : (storage : ℕ) → IsWhole (old.node storage)) where
  abbrev Lawfully : OnPurposes
  Lawfully repo storage lease = StaysLawful

  -- a commit that is issued changes no snapshot
  by_commit : (sub : ℕ) (name : List ℕ) (push : Option OpenPush) (vote : Option Voting)
      → (r s l : ℕ) → StaysLawful (old.ledger r s l)
      ((issues_commit old name sub push vote).ledger r s l)
  by_commit sub name None vote r s l = λ is. is
  by_commit sub name (Some push) None r s l = λ is. is
  by_commit sub name (Some push) (Some vote) r s l =
      choose (λ (c : Cluster). StaysLawful (old.ledger r s l) (c.ledger r s l)) (sub == 1)
      (issues_commit_at old push (member_named push vote name)
      (told_hash (collect_answer name sub vote))) old
      (λ holds. at (member_named push vote name) (told_hash (collect_answer name sub vote)))
      (λ fails is. is)
    where
      at : (storage : Option ℕ) (hash : Option Hash) → StaysLawful (old.ledger r s l)
          ((issues_commit_at old push storage hash).ledger r s l)
      at None hash = λ is. is
      at (Some storage) None = λ is. is
      at (Some storage) (Some hash) =
          choose (StaysLawful (old.ledger r s l))
          ((r == push.repo) && (s == storage) && (l == push.lease))
          (with_commit hash (old.ledger r s l)) (old.ledger r s l)
          (λ here. by_hash hash (old.ledger r s l)) (λ elsewhere is. is)

  lawfully : IsKeptBy old Lawfully
  lawfully = record {
    same = λ r s l p is. is;
    answer = λ r s l p. by_answer p;
    snapshot = λ r s l p source taken is. by_snapshot taken
        (subst IsRefList (sym is.refs) (wholes source.storage source.path).refs) p;
    last = λ r s l p last. by_last last p;
    drawn = λ r s l p q just is. just_drawn q just;
    collected = λ tx voter sub none. by_commit sub voter (push_of old.core tx) (voting old.core tx);
  }

  pub snapshots_stay : (new : Cluster) (move : Move) → Moves old move new
      → AreSnapshotsLawful old → AreSnapshotsLawful new
  snapshots_stay new move moves lawful r s l =
      ledger_moves old Lawfully lawfully new move moves r s l (lawful r s l)

-- ---- nodes

call_whole : (old new : ReplicaState)
    → IsCall (λ push. AreUpdates push.updates) IsLawful old new → StaysWhole old new
call_whole old new (creates lease answer is) = all_whole.creates lease old answer new is
call_whole old new (prepares lease push answer lawful is) =
    all_whole.prepares lease push old answer new lawful is
call_whole old new (commits lease hash answer is) = all_whole.commits lease hash old answer new is
call_whole old new (aborts lease answer is) = all_whole.aborts lease old answer new is
call_whole old new (applies lease snapshot answer lawful is) =
    all_whole.applies lease snapshot old answer new lawful is
call_whole old new (removes lease answer is) = all_whole.removes lease old answer new is
call_whole old new (fences lease is) =
    subst (StaysWhole old) (sym is) (all_whole.raises lease old)

pub wholes_stay : (old new : Cluster) → NodesMove (λ push. AreUpdates push.updates) IsLawful old new
    → ((storage : ℕ) → IsWhole (old.node storage)) → (storage : ℕ) → IsWhole (new.node storage)
wholes_stay old new (stays same_) wholes storage path =
    subst (λ (f : ℕ → List ℕ → ReplicaState). IsWholeReplica (f storage path)) (sym same_)
    (wholes storage path)
wholes_stay old new (calls at state replica call same_) wholes storage path =
    subst (λ (f : ℕ → List ℕ → ReplicaState). IsWholeReplica (f storage path)) (sym same_)
    (choose (λ (f : List ℕ → ReplicaState). IsWholeReplica (f path)) (storage == at.storage)
    (λ (other : List ℕ). if bytes_eq other at.path then state else old.node at.storage other)
    (old.node storage)
    (λ here. choose IsWholeReplica (bytes_eq path at.path) state (old.node at.storage path)
    (λ it. call_whole (state_at old at) state call (wholes at.storage at.path))
    (λ other. wholes at.storage path)) (λ other. wholes storage path))
wholes_stay old new (loses at test same_) wholes storage path =
    subst (λ (f : ℕ → List ℕ → ReplicaState). IsWholeReplica (f storage path)) (sym same_)
    (choose (λ (f : List ℕ → ReplicaState). IsWholeReplica (f path)) (storage == at)
    (λ (other : List ℕ). if test other then without_ready (old.node at other) else old.node at other)
    (old.node storage)
    (λ here. choose IsWholeReplica (test path) (without_ready (old.node at path)) (old.node at path)
    (λ holds. all_whole.ends (old.node at path) (wholes at path)) (λ fails. wholes at path))
    (λ other. wholes storage path))
