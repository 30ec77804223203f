-- A delivery that was done at one replica, whatever is kept of its answer.
use Rattle.std.proofs.Common.{◌≡◌, ℕ, ◌≤◌, Bool, true, false, Option, Some, refl, sym, ◌∙◌, ap, subst, arith}
use Rattle.refstore.specs.Updates.{after}
use Rattle.node_calls.specs.ReplicaState.{ReadyPush, ReplicaState}
use Rattle.px_cluster.specs.Astray.{GoesAstray, GoesUnanswered}
use Rattle.px_cluster.specs.Book.{Repository, has_replica_on}
use Rattle.px_cluster.specs.Cluster.{Cluster, with_ledger}
use Rattle.px_cluster.specs.Core.{repository}
use Rattle.px_cluster.specs.Deliveries.{with_state_at}
use Rattle.px_cluster.specs.Effects.{Effect, effect_of, purpose_at, state_at}
use Rattle.px_cluster.specs.Events.{Event}
use Rattle.px_cluster.specs.Ledger.{Ledger, Purpose, answered, with_purpose}
use Rattle.replica_invariant.specs.Invariant.{Invariant}
use Rattle.replica_invariant.specs.State.{AtNode, Entry, ReadyPush as SeenPush, Replica, State, with_replica, with_value}
use Rattle.safe_states.specs.Grows.{LeadsTo}
use Rattle.safe_states.specs.Happens.{Happens}
use Rattle.safe_states.proofs.Reached.{every_state_has_the_invariant}
use Rattle.cluster_history.specs.Goes.{GoesOn, IsSound}
use Rattle.cluster_history.specs.History.{Whole, with_value_at}
use Rattle.cluster_history.specs.Remembered.{after_move, by_delivery}
use Rattle.cluster_history.specs.Seen.{node_if, seen_node, seen_purpose, seen_ready, state_of}
use Rattle.cluster_history.proofs.Effects.{IsReplica, unanswered_goes}
use Rattle.cluster_history.proofs.Frame.{once}
use Rattle.cluster_history.proofs.OneReplica.{ledger_same, replica_goes, value_elsewhere, value_here, value_same}

-- ---- functions with another value at one replica

-- it has the value there
pub value_at_here : {A : Type 0} (f : ℕ → ℕ → A) (repo storage : ℕ) (value : A)
    → with_value_at f repo storage value repo storage ≡ value
value_at_here f repo storage value =
    ap (λ g. g storage) (value_here f repo (with_value (f repo) storage value))
    ∙ value_here (f repo) storage value

-- .. and what it had on each other storage
pub value_at_beside : {A : Type 0} (f : ℕ → ℕ → A) (repo storage : ℕ) (value : A) (x : ℕ)
    → (x ≡ storage → ⊥) → with_value_at f repo storage value repo x ≡ f repo x
value_at_beside f repo storage value x differs =
    ap (λ g. g x) (value_here f repo (with_value (f repo) storage value))
    ∙ value_elsewhere (f repo) storage value x differs

-- ---- what is kept of an answer

-- that it came, or nothing, where it is lost
abbrev pub keeping : Bool → Purpose → Purpose
keeping true purpose = answered purpose
keeping false purpose = purpose

-- an effect is answered where its answer comes now, or came earlier
abbrev pub answered_now : Bool → Bool → Bool
answered_now true earlier = true
answered_now false earlier = earlier

-- one that was answered stays so
pub still_answered : (came earlier : Bool) → earlier ≡ true → answered_now came earlier ≡ true
still_answered true earlier is = refl
still_answered false earlier is = is

-- what is kept of a lease that notes no more of an answer than that it came
pub keeping_is : (purpose : Bool → Purpose)
    → ((earlier : Bool) → answered (purpose earlier) ≡ purpose true) → (came earlier : Bool)
    → keeping came (purpose earlier) ≡ purpose (answered_now came earlier)
keeping_is purpose answers true earlier = answers earlier
keeping_is purpose answers false earlier = refl

-- ---- what it leaves

-- the node has this of the replica, and this is kept under the lease
abbrev pub after_done : Whole → Event → Effect → ReplicaState → Purpose → Whole
after_done whole happened effect state kept = record {
  cluster = with_ledger (with_state_at whole.cluster effect.at state) (with_purpose
      whole.cluster.ledger effect.at.repo effect.at.storage effect.lease kept);
  history = by_delivery whole.history whole.cluster happened effect;
}

-- where nothing is kept, the ledger is as it was
pub nothing_kept : (whole : Whole) (happened : Event) (effect : Effect) (state : ReplicaState)
    → GoesOn whole (after_done whole happened effect state (purpose_at whole.cluster effect))
    → GoesOn whole (record {
      cluster = with_state_at whole.cluster effect.at state;
      history = by_delivery whole.history whole.cluster happened effect;
    })
nothing_kept whole happened effect state goes = subst (λ (ledger : Ledger). GoesOn whole (record {
  cluster = with_ledger (with_state_at whole.cluster effect.at state) ledger;
  history = by_delivery whole.history whole.cluster happened effect;
})) (ledger_same whole.cluster.ledger effect.at.repo effect.at.storage effect.lease) goes

-- so it is enough to know where an effect leads of which no answer is kept
pub lost_goes : {A : Type 0} (does : ReplicaState → A → ReplicaState → Type 0) (whole : Whole)
    (happened : Event)
    → ((effect : Effect) (result : A) (state : ReplicaState)
    → effect_of whole.cluster happened ≡ Some effect
    → does (state_at whole.cluster effect.at) result state
    → GoesOn whole (after_done whole happened effect state (purpose_at whole.cluster effect)))
    → (new : Cluster) → GoesUnanswered does whole.cluster (effect_of whole.cluster happened) new
    → GoesOn whole (after_move whole (GoesAstray happened) new)
lost_goes does whole happened done new goes = unanswered_goes does whole happened
    (λ effect result state is does_it. nothing_kept whole happened effect state
    (done effect result state is does_it)) new goes

-- what holds of an effect at the path of its repository holds of the effect
pub at_its_path : (P : Effect → Type 0) (c : Cluster) (effect : Effect)
    (replica : IsReplica c effect.at)
    → P (record {
      at = record {
        repo = effect.at.repo;
        path = replica.book.path;
        storage = effect.at.storage;
      };
      lease = effect.lease;
    }) → P effect
at_its_path P c effect replica holds = subst P (λ i. record {
  at = record {
    repo = effect.at.repo;
    path = sym replica.path i;
    storage = effect.at.storage;
  };
  lease = effect.lease;
}) holds

-- ---- at one replica

-- a replica of a repository on record, and a lease that an effect for it carries
pub record Target (whole : Whole) : Type 0 where
  pub repo : ℕ
  pub storage : ℕ
  pub lease : ℕ
  pub book : Repository
  pub known : repository whole.cluster.core repo ≡ Some book
  pub there : has_replica_on book storage ≡ true

-- the one of an effect that was issued
abbrev pub target_of : (whole : Whole) (effect : Effect) → IsReplica whole.cluster effect.at
    → Target whole
target_of whole effect replica = record {
  repo = effect.at.repo;
  storage = effect.at.storage;
  lease = effect.lease;
  book = replica.book;
  known = replica.known;
  there = replica.there;
}

module _ (whole : Whole) (sound : IsSound whole) (to : Target whole) where
  -- what the node has before it, and what the lease was drawn for
  abbrev pub before : ReplicaState
  before = whole.cluster.node to.storage to.book.path

  abbrev pub drawn : Purpose
  drawn = whole.cluster.ledger to.repo to.storage to.lease

  -- the level that a snapshot has that is kept under the lease
  abbrev pub read_level : ℕ
  read_level = whole.history.read_at to.repo to.storage to.lease

  -- the repository and the replica, as they are seen
  abbrev pub state_before : State
  state_before = state_of whole to.repo to.book

  abbrev pub replica : Replica
  replica = state_before.replica to.storage

  -- its node is seen as it is
  pub node_is : replica.node ≡ seen_node before
  node_is = ap (λ has. node_if has before) to.there

  -- what is always so of the repository
  pub invariant : Invariant state_before
  invariant = every_state_has_the_invariant state_before (sound.reached to.repo to.book to.known)

  -- a lease that is not below the fence is seen so
  pub live : before.fence ≤ to.lease → replica.node.fence ≤ to.lease
  live above = subst (λ (node : AtNode). node.fence ≤ to.lease) (sym node_is) above

  -- a push that is ready has the fence as its lease
  pub ready_at : (push : ReadyPush) → before.ready ≡ Some push → before.fence ≡ push.lease
  ready_at push is =
      let seen : SeenPush = record {
        lease = push.lease;
        updates = push.updates;
        content = after before.refs push.updates;
      } in
      let clause = (invariant.replicas to.storage).ready seen
      (ap (λ (node : AtNode). node.ready) node_is ∙ ap (seen_ready before.refs) is) in
      sym (ap (λ (node : AtNode). node.fence) node_is) ∙ clause.fence

  -- so under such a lease it has no later one
  pub below : before.fence ≤ to.lease → (push : ReadyPush) → before.ready ≡ Some push
      → push.lease ≤ to.lease
  below above push is = let same = ready_at push is in omega (arith, above, same)

  -- what is kept, as it is seen
  pub kept_is : (purpose : Bool → Purpose)
      → ((earlier : Bool) → answered (purpose earlier) ≡ purpose true) → (came earlier : Bool)
      → drawn ≡ purpose earlier
      → with_value replica.purpose to.lease (seen_purpose read_level (keeping came drawn))
      ≡ with_value replica.purpose to.lease
      (seen_purpose read_level (purpose (answered_now came earlier)))
  kept_is purpose answers came earlier is =
      ap (λ kept. with_value replica.purpose to.lease (seen_purpose read_level kept))
      (ap (keeping came) is ∙ keeping_is purpose answers came earlier)

  -- ---- where it leads, by what the node has after it and what is kept

  module _ (state : ReplicaState) (kept : Purpose) where
    abbrev pub cluster_now : Cluster
    cluster_now = with_ledger (with_state_at whole.cluster
        (record { repo = to.repo; path = to.book.path; storage = to.storage }) state)
        (with_purpose whole.cluster.ledger to.repo to.storage to.lease kept)

    abbrev pub now_at : Option ℕ → Bool → Replica
    now_at level had = record replica {
      node = seen_node state;
      level = level;
      had = had;
      purpose = with_value replica.purpose to.lease (seen_purpose read_level kept);
    }

    -- at its level
    pub node_goes : (new : Replica) → now_at replica.level replica.had ≡ new
        → Happens state_before (with_replica state_before to.storage new)
        → GoesOn whole (record { cluster = cluster_now; history = whole.history })
    node_goes new is happens = replica_goes whole to.repo to.storage to.book state to.lease
        kept whole.history.entry whole.history.level whole.history.had sound.form to.known to.there
        (λ x differs. refl) (λ x differs. refl) (λ x differs. refl) (λ x differs. refl)
        (λ x differs. refl)
        (subst (λ x. LeadsTo state_before (with_replica state_before to.storage x)) (sym is)
        (once state_before (with_replica state_before to.storage new) happens))

    -- at another level, or at none, and an entry of the log may be another
    module _ (entry : ℕ → ℕ → Entry)
        (others : (x : ℕ) → (x ≡ to.repo → ⊥) → entry x ≡ whole.history.entry x)
        (level : Option ℕ) where
      abbrev levels : ℕ → ℕ → Option ℕ
      levels = with_value_at whole.history.level to.repo to.storage level

      -- the repository after it
      abbrev pub state_now : Bool → State
      state_now had = record state_before {
        shared = record state_before.shared { entry = entry to.repo };
        replica = with_value state_before.replica to.storage (now_at level had);
      }

      -- whether it ever had a level stays
      pub level_goes : (new : State) → state_now replica.had ≡ new → Happens state_before new
          → GoesOn whole (record {
            cluster = cluster_now;
            history = record whole.history { entry = entry; level = levels };
          })
      level_goes new is happens = replica_goes whole to.repo to.storage to.book state to.lease
          kept entry levels
          whole.history.had sound.form to.known to.there others
          (λ x differs. value_elsewhere whole.history.level to.repo _ x differs)
          (value_at_beside whole.history.level to.repo to.storage level)
          (λ x differs. refl) (λ x differs. refl)
          (subst (LeadsTo state_before) (sym is ∙ ap (λ n. record state_before {
            shared = record state_before.shared { entry = entry to.repo };
            replica = with_value state_before.replica to.storage (now_at n replica.had);
          }) (sym (value_at_here whole.history.level to.repo to.storage level)))
          (once state_before new happens))

      abbrev hads : ℕ → ℕ → Bool
      hads = with_value_at whole.history.had to.repo to.storage true

      -- it has one now
      pub reached_goes : (new : State) → state_now true ≡ new → Happens state_before new
          → GoesOn whole (record {
            cluster = cluster_now;
            history = record whole.history { entry = entry; level = levels; had = hads };
          })
      reached_goes new is happens = replica_goes whole to.repo to.storage to.book state
          to.lease kept entry levels hads
          sound.form to.known to.there others
          (λ x differs. value_elsewhere whole.history.level to.repo _ x differs)
          (value_at_beside whole.history.level to.repo to.storage level)
          (λ x differs. value_elsewhere whole.history.had to.repo _ x differs)
          (value_at_beside whole.history.had to.repo to.storage true)
          (subst (LeadsTo state_before) (sym is ∙ (λ i. record state_before {
            shared = record state_before.shared { entry = entry to.repo };
            replica = with_value state_before.replica to.storage (now_at
                (sym (value_at_here whole.history.level to.repo to.storage level) i)
                (sym (value_at_here whole.history.had to.repo to.storage true) i));
          })) (once state_before new happens))

  -- ---- nothing is kept, and the level stays

  module _ (state : ReplicaState) where
    -- so the event changes what the node has, and no more
    pub unkept_goes : (new : Replica) → record replica { node = seen_node state } ≡ new
        → Happens state_before (with_replica state_before to.storage new)
        → GoesOn whole (record { cluster = cluster_now state drawn; history = whole.history })
    unkept_goes new is happens = node_goes state drawn new
        ((λ i. record replica {
          node = seen_node state;
          purpose = value_same replica.purpose to.lease i;
        }) ∙ is)
        happens
