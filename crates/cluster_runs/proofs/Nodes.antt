-- What a move does to the nodes: nothing, a call for one replica of a repository on record, or the loss
-- of pushes that were ready.
use Rattle.std.proofs.Common.{◌≡◌, ◌==◌, ℕ, List, Bool, Option, None, Some, refl, sym, ◌∙◌, ap, inl, inr}
use Rattle.px_base.specs.declared.hash.Hash.{Hash}
use Rattle.px_base.specs.declared.push.Push.{Push}
use Rattle.px_ops.specs.declared.node_refusal.NodeRefusal.{NodeRefusal}
use Rattle.px_ops.specs.declared.job.Job.{Job}
use Rattle.px_ops.specs.declared.op.Op.{Op}
use Rattle.px_ops.specs.declared.op.Op.TheVariants as op
use Rattle.px_ops.specs.declared.refusal.Refusal.{Refusal}
use Rattle.node_calls.specs.Calls.{Aborts, Applies, Commits, Creates, Prepares, Removes}
use Rattle.node_calls.specs.ReplicaState.{ReplicaState, raised}
use Rattle.node_calls.specs.declared.snapshot.Snapshot.{Snapshot}
use Rattle.px_cluster.specs.Acknowledged.{done_in, event_refusal}
use Rattle.px_cluster.specs.Astray.{FencesUnanswered, GoesAstray, GoesUnanswered, Happens, IsLost, Move, Moves, Unanswered, with_lost}
use Rattle.px_cluster.specs.Book.{Repository}
use Rattle.px_cluster.specs.Cluster.{Cluster}
use Rattle.px_cluster.specs.Core.{OpenPush, push_of, repository, voting}
use Rattle.px_cluster.specs.Casts.{member_named}
use Rattle.px_cluster.specs.Deliveries.{Delivers, Fences, ReadsRefs, TakesSnapshot, with_state_at}
use Rattle.px_cluster.specs.Effects.{Effect, Location, effect_of, hash_of, issued_for, issued_to, location_of, snapshot_of, source_of, state_at}
use Rattle.px_cluster.specs.Events.{Answer, Event}
use Rattle.px_cluster.specs.Events as event
use Rattle.px_cluster.specs.Issues.{issues, issues_begin, issues_commit, issues_commit_at, issues_fence, issues_taking, issues_work, issues_work_in, told_hash}
use Rattle.px_cluster.specs.Ledger.{Purpose, commit_in, is_creation, is_delete_of, is_fence, is_push, snapshot_in}
use Rattle.px_cluster.specs.Ops.{unless_refused}
use Rattle.px_cluster.specs.Step.{AppliesAs, CommitsAs, IsAsked, Step, lease_of, settling}
use Rattle.px_cluster.specs.Taking.{Drop, Next, PassOver, Take, Taking, next_job}
use Rattle.std.specs.Prelude.{is_some}
use Rattle.txmanager.specs.Voting.{Voting, collect_answer}
use Rattle.cluster_form.proofs.Lists.{choose}
use Rattle.cluster_history.proofs.Effects.{IsReplica, issued_is, sent_is, work_is}

-- ---- a call that a node did

pub data IsCall (IsSent : Push → Type 0) (IsKept : Snapshot → Type 0) (old new : ReplicaState)
    : Type 0 where
  creates : (lease : ℕ) (answer : Unit {0}) → Creates lease old answer new
      → IsCall IsSent IsKept old new
  prepares : (lease : ℕ) (push : Push) (answer : Hash) → IsSent push
      → Prepares lease push old answer new → IsCall IsSent IsKept old new
  commits : (lease : ℕ) (hash answer : Hash) → Commits lease hash old answer new
      → IsCall IsSent IsKept old new
  aborts : (lease : ℕ) (answer : Unit {0}) → Aborts lease old answer new
      → IsCall IsSent IsKept old new
  applies : (lease : ℕ) (snapshot : Snapshot) (answer : Unit {0}) → IsKept snapshot
      → Applies lease snapshot old answer new → IsCall IsSent IsKept old new
  removes : (lease : ℕ) (answer : Unit {0}) → Removes lease old answer new
      → IsCall IsSent IsKept old new
  fences : (lease : ℕ) → new ≡ raised lease old → IsCall IsSent IsKept old new

-- ---- what becomes of the nodes

pub data NodesMove (IsSent : Push → Type 0) (IsKept : Snapshot → Type 0) (old new : Cluster)
    : Type 0 where
  stays : new.node ≡ old.node → NodesMove IsSent IsKept old new
  calls : (at : Location) (state : ReplicaState) → IsReplica old at
      → IsCall IsSent IsKept (state_at old at) state
      → new.node ≡ (with_state_at old at state).node → NodesMove IsSent IsKept old new
  loses : (storage : ℕ) (test : List ℕ → Bool) → new.node ≡ (with_lost old storage test).node
      → NodesMove IsSent IsKept old new

-- the push that an event hands over, and the snapshot that is applied, where there is one
abbrev pub SendsLawful : (Push → Type 0) → Event → Type 0
SendsLawful IsSent (event.Prepare tx storage push) = IsSent push
SendsLawful IsSent other = Unit {0}

module _ (IsSent : Push → Type 0) (IsKept : Snapshot → Type 0) (old : Cluster)
    (kept : (effect : Effect) (job : ℕ) (snapshot : Snapshot)
    → snapshot_of old job (Some effect) ≡ Some snapshot → IsKept snapshot) where
  abbrev To : Cluster → Type 0
  To new = NodesMove IsSent IsKept old new

  same : (new : Cluster) → new ≡ old → To new
  same new is = stays (ap (λ (c : Cluster). c.node) is)

  -- a call, answered or not, at an effect of which this is known
  module _ {A : Type 0} (does : ReplicaState → A → ReplicaState → Type 0)
      (effect_ : Option Effect)
      (replica : (effect : Effect) → effect_ ≡ Some effect → IsReplica old effect.at)
      (is_call : (effect : Effect) (result : A) (state : ReplicaState) → effect_ ≡ Some effect
      → does (state_at old effect.at) result state → IsCall IsSent IsKept (state_at old effect.at) state)
    where
      by_delivery : (refuses : ReplicaState → NodeRefusal → Type 0) (tells : A → Answer)
          (keeps : Purpose → Purpose) (new : Cluster) (found : Option Effect) (answer : Answer)
          → effect_ ≡ found → Delivers refuses does tells keeps old found answer new → To new
      by_delivery refuses tells keeps new None answer at is = same new is.1
      by_delivery refuses tells keeps new (Some effect) answer at (inl is) = same new is.same
      by_delivery refuses tells keeps new (Some effect) answer at (inr is) = calls effect.at is.state
          (replica effect at) (is_call effect is.result is.state at is.does_)
          (ap (λ (c : Cluster). c.node) is.changes)

      by_loss : (new : Cluster) (found : Option Effect) → effect_ ≡ found
          → GoesUnanswered does old found new → To new
      by_loss new None at is = absurd is
      by_loss new (Some effect) at is = calls effect.at is.state (replica effect at)
          (is_call effect is.result is.state at is.does_) (ap (λ (c : Cluster). c.node) is.changes)

  -- ---- where each effect goes

  at_creation : (storage repo lease : ℕ) (effect : Effect)
      → effect_of old (event.Make storage repo lease) ≡ Some effect → IsReplica old effect.at
  at_creation storage repo lease effect is =
      (issued_is old is_creation lease repo storage effect is).issued.replica

  at_fence : (storage repo lease : ℕ) (effect : Effect)
      → effect_of old (event.Fence storage repo lease) ≡ Some effect → IsReplica old effect.at
  at_fence storage repo lease effect is =
      (issued_is old is_fence lease repo storage effect is).issued.replica

  at_push : (test : Purpose → Bool) (tx storage : ℕ) (effect : Effect)
      → issued_to old test storage (old.pushed tx) ≡ Some effect → IsReplica old effect.at
  at_push test tx storage effect is = (sent_is old test tx storage effect is).at.issued.replica

  at_work : (test : Purpose → Bool) (job lease : ℕ) (effect : Effect)
      → issued_for old test lease (old.worked job) ≡ Some effect → IsReplica old effect.at
  at_work test job lease effect is = (work_is old test job lease effect is).at.issued.replica

  -- ---- calls with what goes with them

  committing : (lease : ℕ) (hash : Option Hash) (state then_ : ReplicaState) (vote : Hash)
      → CommitsAs lease hash state vote then_ → IsCall IsSent IsKept state then_
  committing lease None state then_ vote is = absurd is
  committing lease (Some hash) state then_ vote is = commits lease hash vote is

  applying : (lease job : ℕ) (effect : Effect) (given : Option Snapshot)
      (state then_ : ReplicaState) (result : Unit {0})
      → snapshot_of old job (Some effect) ≡ given
      → AppliesAs lease given state result then_ → IsCall IsSent IsKept state then_
  applying lease job effect None state then_ result given is = absurd is
  applying lease job effect (Some snapshot) state then_ result given is =
      applies lease snapshot result (kept effect job snapshot given) is

  fencing : (new : Cluster) (effect : Option Effect) (answer : Answer)
      → ((found : Effect) → effect ≡ Some found → IsReplica old found.at)
      → Fences old effect answer new → To new
  fencing new None answer replica is = same new is.1
  fencing new (Some effect) answer replica is = calls effect.at
      (raised effect.lease (state_at old effect.at)) (replica effect refl) (fences effect.lease refl)
      (ap (λ (c : Cluster). c.node) is.1)

  fencing_unanswered : (new : Cluster) (effect : Option Effect)
      → ((found : Effect) → effect ≡ Some found → IsReplica old found.at)
      → FencesUnanswered old effect new → To new
  fencing_unanswered new None replica is = absurd is
  fencing_unanswered new (Some effect) replica is = calls effect.at
      (raised effect.lease (state_at old effect.at)) (replica effect refl) (fences effect.lease refl)
      (ap (λ (c : Cluster). c.node) is)

  reading : (new : Cluster) (location : Option Location) (answer : Answer)
      → ReadsRefs old location answer new → To new
  reading new None answer is = same new is.1
  reading new (Some location) answer is = same new is.1

  taking_snapshot : (new : Cluster) (source : Option Location) (effect : Option Effect)
      (answer : Answer) → TakesSnapshot old source effect answer new → To new
  taking_snapshot new source None answer is = same new is.1
  taking_snapshot new None (Some effect) answer is = same new is.1
  taking_snapshot new (Some source) (Some effect) answer (inl is) = same new is.same
  taking_snapshot new (Some source) (Some effect) answer (inr is) =
      stays (ap (λ (c : Cluster). c.node) is.kept)

  -- ---- operations leave the nodes

  by_commit : (sub : ℕ) (name : List ℕ) (push : Option OpenPush) (vote : Option Voting)
      → (issues_commit old name sub push vote).node ≡ old.node
  by_commit sub name None vote = refl
  by_commit sub name (Some push) None = refl
  by_commit sub name (Some push) (Some vote) = choose (λ (c : Cluster). c.node ≡ old.node)
      (sub == 1) (issues_commit_at old push (member_named push vote name)
      (told_hash (collect_answer name sub vote))) old
      (λ holds. at (member_named push vote name) (told_hash (collect_answer name sub vote)))
      (λ fails. refl)
    where
      at : (storage : Option ℕ) (hash : Option Hash)
          → (issues_commit_at old push storage hash).node ≡ old.node
      at None hash = refl
      at (Some storage) None = refl
      at (Some storage) (Some hash) = refl

  by_work : (next : Option Next) → (issues_work old next).node ≡ old.node
  by_work None = refl
  by_work (Some next) = so next.job next.taking
    where
      at : (job : Job) (source : Option ℕ) (there : Option Repository)
          → (issues_work_in old job source there).node ≡ old.node
      at job source None = refl
      at job source (Some book) = refl

      so : (job : Job) (taking : Taking) → (issues_taking old job taking).node ≡ old.node
      so job PassOver = refl
      so job Drop = refl
      so job (Take source) = at job source (repository old.core job.repo.0)

  by_fence : (repo storage : ℕ) (there : Option Repository)
      → (issues_fence old repo storage there).node ≡ old.node
  by_fence repo storage None = refl
  by_fence repo storage (Some book) = refl

  by_begin : (repo : ℕ) (there : Option Repository)
      → (issues_begin old repo there).node ≡ old.node
  by_begin repo None = refl
  by_begin repo (Some book) = refl

  by_issues : (asked : Op) → (issues old asked).node ≡ old.node
  by_issues (op.Begin repo) = by_begin repo.0 (repository old.core repo.0)
  by_issues (op.Collect tx voter sub) =
      by_commit sub voter (push_of old.core tx) (voting old.core tx)
  by_issues (op.Dequeue target now) = by_work (next_job old.core target.0)
  by_issues (op.AcceptBegin repo storage) =
      by_fence repo.0 storage.0 (repository old.core repo.0)
  by_issues (op.SettleBegin repo storage) =
      by_fence repo.0 storage.0 (repository old.core repo.0)
  by_issues other = refl

  asking : (new : Cluster) (asked : Op) (answer : Answer) → IsAsked old asked answer new → To new
  asking new asked answer is =
      stays (ap (λ (c : Cluster). c.node) is.leads ∙ by (event_refusal old asked))
    where
      by : (refusal : Option Refusal)
          → (unless_refused refusal old (done_in old asked)).node ≡ old.node
      by None = by_issues asked
      by (Some why) = refl

  -- ---- each move

  by_event : (new : Cluster) (happened : Event) (answer : Answer) → SendsLawful IsSent happened
      → Step old happened answer new → To new
  by_event new (event.Asks asked) answer lawful is = asking new asked answer is
  by_event new (event.Settled repo storage lease) answer lawful is =
      asking new (settling old repo storage lease) answer is
  by_event new (event.Make storage repo lease) answer lawful is =
      by_delivery (Creates lease) (effect_of old (event.Make storage repo lease))
      (at_creation storage repo lease) (λ effect result state at does. creates lease result does)
      _ _ _ new (effect_of old (event.Make storage repo lease)) answer refl is
  by_event new (event.Prepare tx storage push) answer lawful is =
      let effect = effect_of old (event.Prepare tx storage push) in
      by_delivery (Prepares (lease_of effect) push) effect (at_push is_push tx.0 storage)
      (λ effect_ result state at does. prepares (lease_of effect) push result lawful does)
      _ _ _ new effect answer refl is
  by_event new (event.Commit tx storage) answer lawful is =
      let effect = effect_of old (event.Commit tx storage) in
      by_delivery (CommitsAs (lease_of effect) (hash_of old effect)) effect
      (at_push (λ purpose. is_some (commit_in purpose)) tx.0 storage)
      (λ effect_ result state at does.
      committing (lease_of effect) (hash_of old effect) _ state result does)
      _ _ _ new effect answer refl is
  by_event new (event.Abort tx storage) answer lawful is =
      let effect = effect_of old (event.Abort tx storage) in
      by_delivery (Aborts (lease_of effect)) effect (at_push is_push tx.0 storage)
      (λ effect_ result state at does. aborts (lease_of effect) result does)
      _ _ _ new effect answer refl is
  by_event new (event.Refs storage repo) answer lawful is =
      reading new (location_of old repo storage) answer is
  by_event new (event.TakeSnapshot job lease) answer lawful is =
      let effect = effect_of old (event.TakeSnapshot job lease) in
      taking_snapshot new (source_of old job effect) effect answer is
  by_event new (event.Apply job lease) answer lawful is =
      let effect = effect_of old (event.Apply job lease) in
      by_delivery (AppliesAs lease (snapshot_of old job effect)) effect
      (at_work (λ purpose. is_some (snapshot_in job purpose)) job lease)
      (λ effect_ result state at does. applying lease job effect_ (snapshot_of old job effect) _
      state result (ap (snapshot_of old job) (sym at)) does)
      _ _ _ new effect answer refl is
  by_event new (event.Remove job lease) answer lawful is =
      let effect = effect_of old (event.Remove job lease) in
      by_delivery (Removes lease) effect (at_work (is_delete_of job) job lease)
      (λ effect_ result state at does. removes lease result does)
      _ _ _ new effect answer refl is
  by_event new (event.Fence storage repo lease) answer lawful is =
      fencing new (effect_of old (event.Fence storage repo lease)) answer
      (at_fence storage repo lease) is
  by_event new event.Restart answer lawful is = stays (ap (λ (c : Cluster). c.node) is.leads)

  astray : (new : Cluster) (happened : Event) → SendsLawful IsSent happened
      → Unanswered old happened new → To new
  astray new (event.Make storage repo lease) lawful is =
      by_loss (Creates lease) (effect_of old (event.Make storage repo lease))
      (at_creation storage repo lease) (λ effect result state at does. creates lease result does)
      new (effect_of old (event.Make storage repo lease)) refl is
  astray new (event.Prepare tx storage push) lawful is =
      let effect = effect_of old (event.Prepare tx storage push) in
      by_loss (Prepares (lease_of effect) push) effect (at_push is_push tx.0 storage)
      (λ effect_ result state at does. prepares (lease_of effect) push result lawful does)
      new effect refl is
  astray new (event.Commit tx storage) lawful is =
      let effect = effect_of old (event.Commit tx storage) in
      by_loss (CommitsAs (lease_of effect) (hash_of old effect)) effect
      (at_push (λ purpose. is_some (commit_in purpose)) tx.0 storage)
      (λ effect_ result state at does.
      committing (lease_of effect) (hash_of old effect) _ state result does)
      new effect refl is
  astray new (event.Abort tx storage) lawful is =
      let effect = effect_of old (event.Abort tx storage) in
      by_loss (Aborts (lease_of effect)) effect (at_push is_push tx.0 storage)
      (λ effect_ result state at does. aborts (lease_of effect) result does)
      new effect refl is
  astray new (event.Apply job lease) lawful is =
      let effect = effect_of old (event.Apply job lease) in
      by_loss (AppliesAs lease (snapshot_of old job effect)) effect
      (at_work (λ purpose. is_some (snapshot_in job purpose)) job lease)
      (λ effect_ result state at does. applying lease job effect_ (snapshot_of old job effect) _
      state result (ap (snapshot_of old job) (sym at)) does)
      new effect refl is
  astray new (event.Remove job lease) lawful is =
      let effect = effect_of old (event.Remove job lease) in
      by_loss (Removes lease) effect (at_work (is_delete_of job) job lease)
      (λ effect_ result state at does. removes lease result does)
      new effect refl is
  astray new (event.Fence storage repo lease) lawful is =
      fencing_unanswered new (effect_of old (event.Fence storage repo lease))
      (at_fence storage repo lease) is
  astray new (event.Asks asked) lawful is = absurd is
  astray new (event.Settled repo storage lease) lawful is = absurd is
  astray new (event.Refs storage repo) lawful is = absurd is
  astray new (event.TakeSnapshot job lease) lawful is = absurd is
  astray new event.Restart lawful is = absurd is

  abbrev pub MoveSends : Move → Type 0
  MoveSends (Happens happened answer) = SendsLawful IsSent happened
  MoveSends (GoesAstray happened) = SendsLawful IsSent happened
  MoveSends (IsLost storage test) = Unit {0}

  pub nodes_move : (new : Cluster) (move : Move) → MoveSends move → Moves old move new → To new
  nodes_move new (Happens happened answer) lawful is = by_event new happened answer lawful is
  nodes_move new (GoesAstray happened) lawful is = astray new happened lawful is
  nodes_move new (IsLost storage test) lawful is =
      loses storage test (ap (λ (c : Cluster). c.node) is)
