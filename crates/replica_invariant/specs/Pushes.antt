-- The events of a push: when each may happen (a record), what it leaves (a function), and that it
-- keeps the invariant (a statement).
use Rattle.std.specs.Prelude.{◌≡◌, ℕ, ◌+◌, ◌≤◌, Option, Some, None, Bool, true, false, if◌then◌else◌}
use Rattle.replica_invariant.specs.Booking.{Booking, Absent, At, Doubt, generation}
use Rattle.replica_invariant.specs.Contents.{Content, Updates, Vote, after, vote}
use Rattle.replica_invariant.specs.Creations.{drawn}
use Rattle.replica_invariant.specs.Invariant.{Invariant}
use Rattle.replica_invariant.specs.Purposes.{Purpose, Pushing, is_committed}
use Rattle.replica_invariant.specs.State.{OpenPush, ReadyPush, Replica, Shared, State, with_replica, with_value}

-- the lease was drawn for a push
abbrev pub IsOfPush : Purpose → Type 0
IsOfPush purpose = (begun : ℕ) × (commit : Option Vote) × (answered : Bool)
    × (purpose ≡ Pushing begun commit answered)

-- ---- it begins, with some members

pub record CanBegin (state : State) (members : ℕ → Bool) : Type 0 where
  pub turn : state.turn ≡ None
  pub some : (storage : ℕ) × (members storage ≡ true)
  pub assigned : (storage : ℕ) → members storage ≡ true → state.assigned storage ≡ true
  pub current : (storage : ℕ) → members storage ≡ true
      → (state.replica storage).booking ≡ At state.shared.newest

abbrev pub begun : State → (ℕ → Bool) → State
begun state members = record state {
  shared = record state.shared { last = state.shared.last + 1 };
  replica = λ storage.
      if members storage
      then drawn (state.replica storage) (state.shared.last + 1)
      (Pushing state.shared.newest None false)
      else state.replica storage;
  turn = Some (record {
    lease = state.shared.last + 1;
    begun = state.shared.newest;
    members = members;
    decided = None;
    told = λ storage. false;
    cast = λ storage. false;
  });
}

abbrev pub BeginKeeps : Type 0
BeginKeeps = (state : State) (members : ℕ → Bool) → Invariant state → CanBegin state members
    → Invariant (begun state members)

-- ---- a prepare is delivered

pub record CanPrepare (shared : Shared) (replica : Replica) (lease : ℕ)
    (updates : Updates) : Type 0 where
  pub purpose : IsOfPush (replica.purpose lease)
  pub live : replica.node.fence ≤ lease
  pub held : replica.node.held ≡ true
  pub text : updates ≡ shared.text lease (vote updates)

abbrev pub prepared : Replica → ℕ → Updates → Replica
prepared replica lease updates = record replica {
  node = record replica.node {
    fence = lease;
    ready = Some
        (record { lease = lease; updates = updates; content = after replica.node.refs updates });
  };
}

abbrev pub PrepareKeeps : Type 0
PrepareKeeps = (state : State) (storage lease : ℕ) (updates : Updates) → Invariant state
    → CanPrepare state.shared (state.replica storage) lease updates
    → Invariant (with_replica state storage (prepared (state.replica storage) lease updates))

-- ---- an abort is delivered; a push that is ready is lost

-- the fence is this one, and no push is ready
abbrev pub raised : Replica → ℕ → Replica
raised replica fence = record replica {
  node = record replica.node { fence = fence; ready = None };
}

pub record CanAbort (replica : Replica) (lease : ℕ) : Type 0 where
  pub purpose : IsOfPush (replica.purpose lease)
  pub live : replica.node.fence ≤ lease

abbrev pub AbortKeeps : Type 0
AbortKeeps = (state : State) (storage lease : ℕ) → Invariant state
    → CanAbort (state.replica storage) lease
    → Invariant (with_replica state storage (raised (state.replica storage) (lease + 1)))

abbrev pub LoseKeeps : Type 0
LoseKeeps = (state : State) (storage : ℕ) → Invariant state
    → Invariant
    (with_replica state storage
    (raised (state.replica storage) (state.replica storage).node.fence))

-- ---- a vote decides for a hash; `told` are the voters whose vote stands for it

pub record CanDecide (state : State) (push : OpenPush) (told : ℕ → Bool) : Type 0 where
  pub turn : state.turn ≡ Some push
  pub undecided : push.decided ≡ None
  pub members : (storage : ℕ) → told storage ≡ true → push.members storage ≡ true

-- the replica is in doubt under the lease
abbrev pub doubted : Replica → ℕ → ℕ → Replica
doubted replica lease due = record replica {
  booking = Doubt lease (generation replica.booking) due;
}

abbrev pub decided : State → OpenPush → (ℕ → Bool) → Vote → State
decided state push told hash = record state {
  shared = record state.shared {
    newest = state.shared.newest + 1;
    entry = with_value state.shared.entry (state.shared.newest + 1)
        (record { lease = Some push.lease; hash = hash; content = None });
  };
  replica = λ storage.
      if told storage
      then doubted (state.replica storage) push.lease (state.shared.newest + 1)
      else state.replica storage;
  turn = Some (record push { decided = Some hash; told = told });
}

abbrev pub DecideKeeps : Type 0
DecideKeeps = (state : State) (push : OpenPush) (told : ℕ → Bool) (hash : Vote) → Invariant state
    → CanDecide state push told → Invariant (decided state push told hash)

-- ---- a vote for the decided hash comes late

pub record CanJoin (state : State) (push : OpenPush) (voter : ℕ) (hash : Vote) : Type 0 where
  pub turn : state.turn ≡ Some push
  pub decided : push.decided ≡ Some hash
  pub member : push.members voter ≡ true
  pub untold : push.told voter ≡ false

abbrev pub joined : State → OpenPush → ℕ → State
joined state push voter = record state {
  replica =
      with_value state.replica voter (doubted (state.replica voter) push.lease state.shared.newest);
  turn = Some (record push { told = with_value push.told voter true });
}

abbrev pub JoinKeeps : Type 0
JoinKeeps = (state : State) (push : OpenPush) (voter : ℕ) (hash : Vote) → Invariant state
    → CanJoin state push voter hash → Invariant (joined state push voter)

-- ---- who asks for its result and is told: the commit is issued

pub record CanIssue (state : State) (push : OpenPush) (voter : ℕ) (hash : Vote)
    (before : Option Vote) (answered : Bool) : Type 0 where
  pub turn : state.turn ≡ Some push
  pub decided : push.decided ≡ Some hash
  pub told : push.told voter ≡ true
  pub purpose : (state.replica voter).purpose push.lease ≡ Pushing push.begun before answered

-- the lease has another purpose there
abbrev pub issued : Replica → ℕ → Purpose → Replica
issued replica lease purpose = record replica {
  purpose = with_value replica.purpose lease purpose;
}

abbrev pub IssueKeeps : Type 0
IssueKeeps =
    (state : State) (push : OpenPush) (voter : ℕ) (hash : Vote) (before : Option Vote)
    (answered : Bool) → Invariant state
    → CanIssue state push voter hash before answered
    → Invariant
    (with_replica state voter
    (issued (state.replica voter) push.lease (Pushing push.begun (Some hash) answered)))

-- ---- a commit is delivered; `answered` says whether its answer is kept

pub record CanCommit (replica : Replica) (lease begun : ℕ) (hash : Vote) (before : Bool)
    (push : ReadyPush) : Type 0 where
  pub purpose : replica.purpose lease ≡ Pushing begun (Some hash) before
  pub live : replica.node.fence ≤ lease
  pub held : replica.node.held ≡ true
  pub ready : replica.node.ready ≡ Some push
  pub lease_ : push.lease ≡ lease
  pub vote_ : vote push.updates ≡ hash

-- an entry that has a content keeps it
abbrev pub filled : Option Content → Content → Option Content
filled None content = Some content
filled (Some before) content = Some before

abbrev pub fill : Shared → ℕ → Content → Shared
fill shared generation content = record shared {
  entry = with_value shared.entry generation (record {
    lease = (shared.entry generation).lease;
    hash = (shared.entry generation).hash;
    content = filled (shared.entry generation).content content;
  });
}

abbrev pub committed : Replica → ℕ → ℕ → Vote → Bool → Content → Replica
committed replica lease begun hash answered content = record replica {
  node = record {
    held = true;
    refs = content;
    fence = lease + 1;
    committed = Some lease;
    ready = None;
  };
  level = Some (begun + 1);
  had = true;
  purpose = with_value replica.purpose lease (Pushing begun (Some hash) answered);
}

abbrev pub commit_arrived : State → ℕ → ℕ → ℕ → Vote → Bool → Content → State
commit_arrived state storage lease begun hash answered content = record state {
  shared = fill state.shared (begun + 1) content;
  replica = with_value state.replica storage
      (committed (state.replica storage) lease begun hash answered content);
}

abbrev pub CommitKeeps : Type 0
CommitKeeps =
    (state : State) (storage lease begun : ℕ) (hash : Vote) (before answered : Bool)
    (push : ReadyPush) → Invariant state
    → CanCommit (state.replica storage) lease begun hash before push
    → (before ≡ true → answered ≡ true)
    → Invariant (commit_arrived state storage lease begun hash answered push.content)

-- ---- a member confirms: it votes for the decided hash in the committed phase

pub record CanConfirm (state : State) (push : OpenPush) (voter : ℕ) (hash : Vote) : Type 0 where
  pub turn : state.turn ≡ Some push
  pub decided : push.decided ≡ Some hash
  pub told : push.told voter ≡ true
  pub first : push.cast voter ≡ false
  pub answered : is_committed ((state.replica voter).purpose push.lease) ≡ true

-- a doubt ends at the generation that was due
abbrev pub confirmed : Booking → Replica → Replica
confirmed Absent replica = replica
confirmed (At held) replica = replica
confirmed (Doubt lease was due) replica = record replica { booking = At due; floor = Some due }

abbrev pub confirmed_cast : State → OpenPush → ℕ → State
confirmed_cast state push voter = record state {
  replica = with_value state.replica voter
      (confirmed (state.replica voter).booking (state.replica voter));
  turn = Some (record push { cast = with_value push.cast voter true });
}

abbrev pub ConfirmKeeps : Type 0
ConfirmKeeps = (state : State) (push : OpenPush) (voter : ℕ) (hash : Vote) → Invariant state
    → CanConfirm state push voter hash → Invariant (confirmed_cast state push voter)

-- ---- more members have voted in the committed phase, and nothing is booked by it: such a vote is
-- for another hash than the decided one

abbrev pub with_votes : State → OpenPush → (ℕ → Bool) → State
with_votes state push cast = record state { turn = Some (record push { cast = cast }) }

-- where each that had voted still has, the invariant stays
abbrev pub VotesKeep : Type 0
VotesKeep = (state : State) (push : OpenPush) (cast : ℕ → Bool) → Invariant state
    → state.turn ≡ Some push
    → ((storage : ℕ) → push.cast storage ≡ true → cast storage ≡ true)
    → Invariant (with_votes state push cast)

-- ---- it is finished, or a restart drops it

abbrev pub FinishKeeps : Type 0
FinishKeeps = (state : State) → Invariant state → Invariant (record state { turn = None })
