-- What may happen beside the events that are answered: an effect is done and its answer is lost, and a
-- node loses pushes that were ready.
use Rattle.std.specs.Prelude.{◌≡◌, ℕ, Bool, if◌then◌else◌, List, [], ◌∷◌, Option, None, Some}
use Rattle.node_calls.specs.Calls.{Aborts, Creates, Prepares, Removes}
use Rattle.node_calls.specs.ReplicaState.{NodeState, ReplicaState, raised, without_ready}
use Rattle.px_cluster.specs.Cluster.{Cluster, with_value}
use Rattle.px_cluster.specs.Deliveries.{with_state_at}
use Rattle.px_cluster.specs.Effects.{Effect, effect_of, hash_of, snapshot_of, state_at}
use Rattle.px_cluster.specs.Events.{Answer, Event}
use Rattle.px_cluster.specs.Events as event
use Rattle.px_cluster.specs.Step.{AppliesAs, CommitsAs, Step, lease_of}

-- ---- an effect that was issued is done, and its answer is not kept

module _ {A : Type 0} (does : ReplicaState → A → ReplicaState → Type 0) (old : Cluster) where
  pub record IsUnanswered (effect : Effect) (new : Cluster) : Type 0 where
    pub result : A
    pub state : ReplicaState
    pub does_ : does (state_at old effect.at) result state
    pub changes : new ≡ with_state_at old effect.at state

  abbrev pub GoesUnanswered : Option Effect → Cluster → Type 0
  GoesUnanswered None new = ⊥
  GoesUnanswered (Some effect) new = IsUnanswered effect new

abbrev pub FencesUnanswered : Cluster → Option Effect → Cluster → Type 0
FencesUnanswered old None new = ⊥
FencesUnanswered old (Some effect) new =
    new ≡ with_state_at old effect.at (raised effect.lease (state_at old effect.at))

-- by the event that would have told of it; what only reads, and what is no delivery, has no effect
abbrev pub Unanswered : Cluster → Event → Cluster → Type 0
Unanswered old (event.Make storage repo lease) new =
    GoesUnanswered (Creates lease) old (effect_of old (event.Make storage repo lease)) new
Unanswered old (event.Prepare tx storage push) new =
    let effect = effect_of old (event.Prepare tx storage push) in
    GoesUnanswered (Prepares (lease_of effect) push) old effect new
Unanswered old (event.Commit tx storage) new =
    let effect = effect_of old (event.Commit tx storage) in
    GoesUnanswered (CommitsAs (lease_of effect) (hash_of old effect)) old effect new
Unanswered old (event.Abort tx storage) new =
    let effect = effect_of old (event.Abort tx storage) in
    GoesUnanswered (Aborts (lease_of effect)) old effect new
Unanswered old (event.Apply job lease) new =
    let effect = effect_of old (event.Apply job lease) in
    GoesUnanswered (AppliesAs lease (snapshot_of old job effect)) old effect new
Unanswered old (event.Remove job lease) new =
    GoesUnanswered (Removes lease) old (effect_of old (event.Remove job lease)) new
Unanswered old (event.Fence storage repo lease) new =
    FencesUnanswered old (effect_of old (event.Fence storage repo lease)) new
Unanswered old other new = ⊥

-- ---- a node loses the pushes that were ready of the repositories whose paths pass a test: of all,
-- where its process ends

abbrev pub losing : NodeState → (List ℕ → Bool) → NodeState
losing node test path = if test path then without_ready (node path) else node path

abbrev pub with_lost : Cluster → ℕ → (List ℕ → Bool) → Cluster
with_lost old storage test =
    record old { node = with_value old.node storage (losing (old.node storage) test) }

-- ---- whatever may happen, and lists of it

pub data Move : Type 0 where
  Happens : (happened : Event) → (answer : Answer) → Move
  GoesAstray : (happened : Event) → Move
  IsLost : (storage : ℕ) → (test : List ℕ → Bool) → Move

abbrev pub Moves : Cluster → Move → Cluster → Type 0
Moves old (Happens happened answer) new = Step old happened answer new
Moves old (GoesAstray happened) new = Unanswered old happened new
Moves old (IsLost storage test) new = new ≡ with_lost old storage test

-- the moves lead from old to new, one after the other
abbrev pub MovesOn : Cluster → List Move → Cluster → Type 0
MovesOn old [] new = new ≡ old
MovesOn old (move ∷ moves) new =
    (then_ : Cluster) × Moves old move then_ × MovesOn then_ moves new
