-- What is delivered to the node of a storage and done there, as an event of the cluster.
use Rattle.std.proofs.Common.{◌≡◌, ℕ, Bool, true, false, is_some, List, Option, None, Some, Result, Ok, Err, refl, sym, ap, subst, ◌∙◌}
use Rattle.std.specs.Option.{option_map}
use Rattle.std.specs.declared.alloc.AllocError.{AllocError}
use Rattle.px_base.specs.declared.hash.Hash.{Hash}
use Rattle.px_base.specs.declared.ids.TxId.{TxId}
use Rattle.px_base.specs.declared.push.Push.{Push}
use Rattle.px_ops.specs.declared.node_refusal.NodeRefusal.{NodeRefusal}
use Rattle.px_ops.specs.declared.refusal.Refusal.TheVariants.{Node}
use Rattle.node_calls.specs.Calls.{CommitRefuses, Commits, CreateRefuses, Creates, PrepareRefuses, Prepares}
use Rattle.node_calls.specs.ReplicaState.{ReplicaState}
use Rattle.issued.specs.Draws.{ledger_of}
use Rattle.issued.specs.Entries.{Entries}
use Rattle.issued.specs.Issued.{KeepsAnswer, pushed_of}
use Rattle.nodes.specs.Calls.{Delivered}
use Rattle.nodes.specs.State.{KeptNodes, NodesState, state_of}
use Rattle.nodes.specs.declared.fault.NodeFault.{NodeFault}
use Rattle.nodes.specs.declared.fault.NodeFault.TheVariants.{Refused, Memory}
use Rattle.nodes.proofs.ClusterCalls.{delivers_done, delivers_refusal, nothing_kept}
use Rattle.px_cluster.specs.Book.{Repository, has_replica_on}
use Rattle.px_cluster.specs.Cluster.{Cluster}
use Rattle.px_cluster.specs.Core.{Core, repository}
use Rattle.px_cluster.specs.Deliveries.{Delivers, with_answer}
use Rattle.px_cluster.specs.Effects.{Effect, Location, hash_of, issued_at, issued_to, location_in}
use Rattle.px_cluster.specs.Events.{Answer as Told, Commit, Delivered as Did, Event as Happening, Make, Prepare, Voted, refused}
use Rattle.px_cluster.specs.Ledger.{Purpose, answered, commit_in, is_creation, is_push}
use Rattle.px_cluster.specs.Step.{CommitRefusesAs, CommitsAs, Step, keeps_nothing, lease_of, tells_done}
use Rattle.px_core.specs.Readers.{path_on}
use Rattle.script_rules.specs.Machine.{told}
use Rattle.script_rules.specs.declared.answer.Answer.{Answer}
use Rattle.px_world.specs.Answers.{IsRefusal}
use Rattle.px_world.specs.Tries.{Happens}
use Rattle.px_world.specs.World.{world}

-- ---- where an effect goes

abbrev pub effect_at : ℕ → List ℕ → ℕ → ℕ → Effect
effect_at repo path storage lease = record {
  at = record { repo = repo; path = path; storage = storage };
  lease = lease;
}

-- the replica of a path that is read of the core
module _ (repo storage : ℕ) (path : List ℕ) where
  location_is : (book : Option Repository)
      → option_map (λ (location : Location). location.path) (location_in book repo storage)
      ≡ Some path
      → location_in book repo storage
      ≡ Some (record { repo = repo; path = path; storage = storage })
  location_is None there = absurd (let z : None ≡ Some path = there in cc)
  location_is (Some book) there = by (has_replica_on book storage) refl
    where
      by : (has : Bool) → has_replica_on book storage ≡ has
          → location_in (Some book) repo storage
          ≡ Some (record { repo = repo; path = path; storage = storage })
      by true has =
          let is : Some book.path ≡ Some path = rw has at there in
          let same : book.path ≡ path = cc in
          rw (has, same) refl
      by false has = absurd (let z : None ≡ Some path = rw has at there in cc)

  pub located : (core : Core) → path_on core repo storage ≡ Some path
      → location_in (repository core repo) repo storage
      ≡ Some (record { repo = repo; path = path; storage = storage })
  located core there = location_is (repository core repo) there

-- it was issued
pub is_out : (cluster : Cluster) (test : Purpose → Bool) (repo storage lease : ℕ)
    (path : List ℕ) → path_on cluster.core repo storage ≡ Some path
    → test (cluster.ledger repo storage lease) ≡ true
    → issued_at cluster test lease (location_in (repository cluster.core repo) repo storage)
    ≡ Some (effect_at repo path storage lease)
is_out cluster test repo storage lease path there passes =
    ap (issued_at cluster test lease) (located repo storage path cluster.core there)
    ∙ rw passes refl

-- of the push of a transaction
pushed_out : (cluster : Cluster) (test : Purpose → Bool) (tx : TxId) (repo storage lease : ℕ)
    (path : List ℕ) → path_on cluster.core repo storage ≡ Some path
    → cluster.pushed tx.0 ≡ Some (record { repo = repo; number = lease })
    → test (cluster.ledger repo storage lease) ≡ true
    → issued_to cluster test storage (cluster.pushed tx.0)
    ≡ Some (effect_at repo path storage lease)
pushed_out cluster test tx repo storage lease path there pushed passes =
    ap (issued_to cluster test storage) pushed
    ∙ is_out cluster test repo storage lease path there passes

-- ---- it was done, and the answer is kept

module _ (core : Core) (old new : NodesState) (was now : Entries) where
  abbrev here : Cluster
  here = world core old was

  pub kept_done : {A : Type 0} (refuses : ReplicaState → NodeRefusal → Type 0)
      (does : ReplicaState → A → ReplicaState → Type 0) (tells : A → Told) (effect : Effect)
      (answer : A)
      → Delivered refuses does effect.at.storage effect.at.path old (Ok answer) new
      → KeepsAnswer effect.at.repo effect.at.storage effect.lease was now
      → Delivers refuses does tells answered here (Some effect) (tells answer)
      (world core new now)
  kept_done refuses does tells effect answer done keeps =
      let kept : world core new now ≡ with_answer (world core new was) effect answered =
      ap (λ (c : Cluster). record c { core = core; node = new.node })
      (keeps effect refl refl refl) in
      subst (λ c. Delivers refuses does tells answered here (Some effect) (tells answer) c)
      (sym kept) (delivers_done here old new refuses does tells answered effect answer done)

  module _ (repo storage lease : ℕ) (path : List ℕ)
      (there : path_on core repo storage ≡ Some path)
      (keeps : KeepsAnswer repo storage lease was now) where
    abbrev effect : Effect
    effect = effect_at repo path storage lease

    -- a creation
    pub make_done : is_creation (ledger_of was.draws repo storage lease) ≡ true
        → Delivered (CreateRefuses lease) (Creates lease) storage path old (Ok tt) new
        → Step here (Make storage repo lease) Did (world core new now)
    make_done issued done =
        subst (λ found. Delivers (CreateRefuses lease) (Creates lease) tells_done answered here
        found Did (world core new now))
        (sym (is_out here is_creation repo storage lease path there issued))
        (kept_done (CreateRefuses lease) (Creates lease) tells_done effect tt done keeps)

    -- the commit of the push of a transaction
    pub commit_done : (tx : TxId) (hash vote : Hash)
        → pushed_of was.pushes tx.0 ≡ Some (record { repo = repo; number = lease })
        → commit_in (ledger_of was.draws repo storage lease) ≡ Some hash
        → Delivered (CommitRefuses lease hash) (Commits lease hash) storage path old (Ok vote) new
        → Step here (Commit tx storage) (Voted vote) (world core new now)
    commit_done tx hash vote pushed issued done =
        let out = pushed_out here (λ purpose. is_some (commit_in purpose)) tx repo storage lease
        path there pushed (ap is_some issued) in
        subst (λ found. Delivers (CommitRefusesAs (lease_of found) (hash_of here found))
        (CommitsAs (lease_of found) (hash_of here found)) Voted answered here found (Voted vote)
        (world core new now)) (sym out)
        (subst (λ h. Delivers (CommitRefusesAs lease h) (CommitsAs lease h) Voted answered here
        (Some effect) (Voted vote) (world core new now)) (sym issued)
        (kept_done (CommitRefuses lease hash) (Commits lease hash) Voted effect vote done keeps))

-- ---- it was not done: the node refuses it, and that is told; or memory wants there

module _ (core : Core) (old new : KeptNodes) (was : Entries) (happening : Happening)
    (ended : NodeFault → Type 0)
    (refusal : (why : NodeRefusal) → ended (Refused why)
    → Step (world core (state_of old) was) happening (refused (Node why))
    (world core (state_of new) was))
    (same : ended Memory → state_of new ≡ state_of old) where
  pub not_done : (fault : NodeFault) (result : Result Answer AllocError) → IsRefusal fault result
      → ended fault
      → Happens (record { core = core; nodes = old; issued = was }) happening result
      (record { core = core; nodes = new; issued = was })
  not_done (Refused why) (Ok answer) is end =
      subst (λ a. Step (world core (state_of old) was) happening (told a)
      (world core (state_of new) was)) (sym is) (refusal why end)
  not_done (Refused why) (Err wants) is end = absurd is
  not_done Memory (Ok answer) is end = absurd is
  not_done Memory (Err wants) is end =
      ap (λ (nodes : NodesState). world core nodes was) (same end)

-- ---- a prepare for the push of a transaction, of which nothing is kept

module _ (core : Core) (old new : KeptNodes) (was : Entries) (tx : TxId) (push : Push)
    (repo storage lease : ℕ) (path : List ℕ) (there : path_on core repo storage ≡ Some path)
    (pushed : pushed_of was.pushes tx.0 ≡ Some (record { repo = repo; number = lease }))
    (issued : is_push (ledger_of was.draws repo storage lease) ≡ true) where
  abbrev before : Cluster
  before = world core (state_of old) was

  abbrev after : Cluster
  after = world core (state_of new) was

  abbrev brought : Effect
  brought = effect_at repo path storage lease

  abbrev Prepared : Result Hash NodeFault → Type 0
  Prepared result = Delivered (PrepareRefuses lease push) (Prepares lease push) storage path
      (state_of old) result (state_of new)

  -- by the effect that is out
  by_found : (answer : Told) → Delivers (PrepareRefuses lease push) (Prepares lease push) Voted
      keeps_nothing before (Some brought) answer after
      → Step before (Prepare tx storage push) answer after
  by_found answer = subst (λ found. Delivers (PrepareRefuses (lease_of found) push)
      (Prepares (lease_of found) push) Voted keeps_nothing before found answer after)
      (sym (pushed_out before is_push tx repo storage lease path there pushed issued))

  -- the node did it
  pub prepare_done : (vote : Hash) → Prepared (Ok vote)
      → Step before (Prepare tx storage push) (Voted vote) after
  prepare_done vote done = by_found (Voted vote)
      (subst (λ c. Delivers (PrepareRefuses lease push) (Prepares lease push) Voted keeps_nothing
      before (Some brought) (Voted vote) c) (nothing_kept after brought)
      (delivers_done before (state_of old) (state_of new) (PrepareRefuses lease push)
      (Prepares lease push) Voted keeps_nothing brought vote done))

  -- the node refuses it, or memory wants there
  pub prepare_not_done : (fault : NodeFault) (result : Result Answer AllocError)
      → IsRefusal fault result → Prepared (Err fault)
      → Happens (record { core = core; nodes = old; issued = was }) (Prepare tx storage push) result
      (record { core = core; nodes = new; issued = was })
  prepare_not_done = not_done core old new was (Prepare tx storage push)
      (λ fault. Prepared (Err fault))
      (λ why refusal. by_found (refused (Node why))
      (delivers_refusal before (state_of old) (state_of new) (PrepareRefuses lease push)
      (Prepares lease push) Voted keeps_nothing brought why refusal))
      (λ same. same)
