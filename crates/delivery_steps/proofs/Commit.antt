-- A commit is delivered.
use Rattle.std.proofs.Common.{◌≡◌, ℕ, ◌≤◌, ◌+◌, Bool, true, false, Option, None, Some, is_some, refl, sym, ◌∙◌, ap, subst, arith}
use Rattle.std.specs.Option.{option_or}
use Rattle.px_base.specs.declared.hash.Hash.{Hash}
use Rattle.px_base.specs.declared.ids.TxId.{TxId}
use Rattle.refstore.specs.Updates.{after}
use Rattle.node_calls.specs.Calls.{Commits, commit_fault, fenced, not_held, ready_under}
use Rattle.node_calls.specs.ReplicaState.{ReadyPush, ReplicaState}
use Rattle.px_cluster.specs.Effects.{Effect, effect_of, hash_of, purpose_at, state_at}
use Rattle.px_cluster.specs.Events.{Voted}
use Rattle.px_cluster.specs.Events as event
use Rattle.px_cluster.specs.Ledger.{answered, commit_in}
use Rattle.px_cluster.specs.Ledger as ledger
use Rattle.px_cluster.specs.Step.{CommitRefusesAs, CommitsAs, lease_of}
use Rattle.replica_invariant.specs.Contents.{Content}
use Rattle.replica_invariant.specs.Pushes.{CanCommit, commit_arrived, committed}
use Rattle.replica_invariant.specs.State.{AtNode, Entry, ReadyPush as SeenPush, Replica, State, with_value}
use Rattle.safe_states.specs.Happens.{Commits as IsCommitted}
use Rattle.cluster_history.specs.Goes.{GoesOn, IsSound}
use Rattle.cluster_history.specs.History.{Whole, with_value_at}
use Rattle.cluster_history.specs.Remembered.{begun_in, by_commit, content_after, filled_with}
use Rattle.cluster_history.specs.Seen.{seen_node, seen_purpose, seen_ready}
use Rattle.cluster_history.proofs.Effects.{commit_is, delivered_goes, sent_is}
use Rattle.cluster_history.proofs.Frame.{same_replica, same_shared, same_state}
use Rattle.cluster_history.proofs.NodeCalls.{committed_is, is_held, neither, not_fenced, ready_is, voted_is}
use Rattle.cluster_history.proofs.OneReplica.{value_elsewhere, value_here}
use Rattle.delivery_steps.specs.Deliveries.{CommitGoesOn, UnansweredCommitGoesOn}
use Rattle.delivery_steps.proofs.OneDelivery.{Target, after_done, answered_now, at_its_path, before, cluster_now, drawn, keeping, kept_is, live, node_is, lost_goes, now_at, reached_goes, read_level, replica, state_before, state_now, still_answered, target_of}

module _ (whole : Whole) (sound : IsSound whole) (to : Target whole) (came : Bool) (begun : ℕ)
    (hash : Hash) (earlier : Bool)
    (drawn_is : drawn whole sound to ≡ ledger.Pushing begun (Some hash) earlier) (result : Hash)
    (state : ReplicaState)
    (does : Commits to.lease hash (before whole sound to) result state) where
  abbrev node : ReplicaState
  node = before whole sound to

  abbrev seen : Replica
  seen = replica whole sound to

  same : seen.node ≡ seen_node node
  same = node_is whole sound to

  -- ---- what the node refused otherwise

  accepted : (fenced to.lease node ≡ None) × (option_or (not_held node)
      (commit_fault hash (ready_under to.lease node.ready)) ≡ None)
  accepted = neither (fenced to.lease node)
      (option_or (not_held node) (commit_fault hash (ready_under to.lease node.ready)))
      does.accepted

  above : node.fence ≤ to.lease
  above = not_fenced to.lease node accepted.0

  rest : (not_held node ≡ None) × (commit_fault hash (ready_under to.lease node.ready) ≡ None)
  rest = neither (not_held node) (commit_fault hash (ready_under to.lease node.ready)) accepted.1

  held : node.held ≡ true
  held = is_held node rest.0

  ready : (node.ready ≡ Some does.push) × (does.push.lease ≡ to.lease)
  ready = ready_is to.lease node.ready does.push does.ready

  -- no other push is ready
  below : (push : ReadyPush) → node.ready ≡ Some push → push.lease ≤ to.lease
  below push is =
      let one : does.push ≡ push =
      (let both : Some does.push ≡ Some push = sym ready.0 ∙ is in cc) in
      let lease = ap (λ (p : ReadyPush). p.lease) one in
      let own = ready.1 in
      omega (arith, own, lease)

  -- ---- the event

  abbrev content : Content
  content = after node.refs does.push.updates

  abbrev seen_push : SeenPush
  seen_push = record {
    lease = does.push.lease;
    updates = does.push.updates;
    content = content;
  }

  -- it may happen, whether it is answered or not
  can : CanCommit seen to.lease begun hash earlier seen_push
  can = record {
    purpose = ap (seen_purpose (read_level whole sound to)) drawn_is;
    live = live whole sound to above;
    held = ap (λ (n : AtNode). n.held) same ∙ held;
    ready = ap (λ (n : AtNode). n.ready) same ∙ ap (seen_ready node.refs) ready.0;
    lease_ = ready.1;
    vote_ = voted_is hash (ready_under to.lease node.ready) does.push does.ready rest.1;
  }

  -- ---- what is left, as it is remembered

  abbrev kept : ledger.Purpose
  kept = keeping came (drawn whole sound to)

  abbrev due : ℕ
  due = begun_in (drawn whole sound to) + 1

  due_is : due ≡ begun + 1
  due_is = ap (λ purpose. begun_in purpose + 1) drawn_is

  abbrev entries : ℕ → ℕ → Entry
  entries = with_value_at whole.history.entry to.repo due
      (filled_with (content_after node node.ready) (whole.history.entry to.repo due))

  -- the entry of the generation that was due is filled
  entry_is : entries to.repo ≡ with_value (whole.history.entry to.repo) (begun + 1)
      (filled_with content (whole.history.entry to.repo (begun + 1)))
  entry_is = value_here whole.history.entry to.repo (with_value (whole.history.entry to.repo) due
      (filled_with (content_after node node.ready) (whole.history.entry to.repo due)))
      ∙ (λ i. with_value (whole.history.entry to.repo) (due_is i)
      (filled_with (content_after node (ready.0 i)) (whole.history.entry to.repo (due_is i))))

  abbrev now : Replica
  now = committed seen to.lease begun hash (answered_now came earlier) content

  now_is : now_at whole sound to state kept (Some due) true ≡ now
  now_is = same_replica (now_at whole sound to state kept (Some due) true) now refl refl refl
      (ap seen_node does.is ∙ committed_is to.lease node above does.push held below)
      (ap (λ (n : ℕ). let level : Option ℕ = Some n in level) due_is) refl
      (kept_is whole sound to (ledger.Pushing begun (Some hash)) (λ b. refl) came earlier drawn_is)
      refl

  abbrev old : State
  old = state_before whole sound to

  abbrev new : State
  new = commit_arrived old to.storage to.lease begun hash (answered_now came earlier) content

  others : (x : ℕ) → (x ≡ to.repo → ⊥) → entries x ≡ whole.history.entry x
  others x differs = value_elsewhere whole.history.entry to.repo _ x differs

  -- what the event leaves is what is seen now
  leads_there : state_now whole sound to state kept entries others (Some due) true ≡ new
  leads_there = same_state (state_now whole sound to state kept entries others (Some due) true) new
      (same_shared (record old.shared { entry = entries to.repo }) new.shared refl refl refl
      entry_is refl) refl refl (ap (with_value old.replica to.storage) now_is) refl

  commits : GoesOn whole (record {
    cluster = cluster_now whole sound to state kept;
    history = by_commit whole.history whole.cluster (record {
      at = record { repo = to.repo; path = to.book.path; storage = to.storage };
      lease = to.lease;
    });
  })
  commits = reached_goes whole sound to state kept entries others (Some due) new leads_there
      (IsCommitted old to.storage to.lease begun hash earlier (answered_now came earlier) seen_push
      can (still_answered came earlier))

-- ---- by the effect

-- it was done, and its answer is kept or lost
commit_done : (tx : TxId) (storage : ℕ) (whole : Whole) → IsSound whole → (came : Bool)
    (effect : Effect) (result : Hash) (state : ReplicaState)
    → effect_of whole.cluster (event.Commit tx storage) ≡ Some effect
    → CommitsAs (lease_of (effect_of whole.cluster (event.Commit tx storage)))
    (hash_of whole.cluster (effect_of whole.cluster (event.Commit tx storage)))
    (state_at whole.cluster effect.at) result state
    → GoesOn whole (after_done whole (event.Commit tx storage) effect state
    (keeping came (purpose_at whole.cluster effect)))
commit_done tx storage whole sound came effect result state is does =
    let sent = sent_is whole.cluster (λ p. is_some (commit_in p)) tx.0 storage effect is in
    let found = sent.at.issued.replica in
    let drawn_is = commit_is (purpose_at whole.cluster effect) sent.at.issued.passes in
    let under : CommitsAs effect.lease (commit_in (purpose_at whole.cluster effect))
    (state_at whole.cluster effect.at) result state = subst (λ there. CommitsAs (lease_of there)
    (hash_of whole.cluster there) (state_at whole.cluster effect.at) result state) is does in
    at_its_path (λ (x : Effect). Commits x.lease (drawn_is.1) (state_at whole.cluster x.at)
    result state → GoesOn whole (after_done whole (event.Commit tx storage) x state
    (keeping came (purpose_at whole.cluster x)))) whole.cluster effect found
    (commits whole sound (target_of whole effect found) came (drawn_is.0) (drawn_is.1) (drawn_is.2)
    (drawn_is.3) result state)
    (subst (λ hash. CommitsAs effect.lease hash (state_at whole.cluster effect.at) result state)
    (ap commit_in (drawn_is.3)) under)

pub commit_goes : CommitGoesOn
commit_goes tx storage whole answer new sound one step =
    let there = effect_of whole.cluster (event.Commit tx storage) in
    delivered_goes (CommitRefusesAs (lease_of there) (hash_of whole.cluster there))
    (CommitsAs (lease_of there) (hash_of whole.cluster there)) Voted answered whole
    (event.Commit tx storage) (λ result. refl)
    (commit_done tx storage whole sound true) answer new step

pub unanswered_commit_goes : UnansweredCommitGoesOn
unanswered_commit_goes tx storage whole new sound one step =
    let there = effect_of whole.cluster (event.Commit tx storage) in
    lost_goes (CommitsAs (lease_of there) (hash_of whole.cluster there)) whole
    (event.Commit tx storage)
    (commit_done tx storage whole sound false) new step
