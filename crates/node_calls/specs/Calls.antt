-- What each call on a node does to the replica of its repository, and why it may be refused there.
use Rattle.std.specs.Prelude.{◌≡◌, ◌⊎◌, ◌+◌, ◌&&◌, ◌==◌, ℕ, Bool, true, false, not, List, [], ◌∷◌, map, nat_lt, if◌then◌else◌, Option, None, Some}
use Rattle.std.specs.List.{filter}
use Rattle.std.specs.Option.{option_or}
use Rattle.px_base.specs.Hash.{is_zero, same_hash}
use Rattle.px_base.specs.Object.{GitObject}
use Rattle.px_base.specs.RefList.{References, ids_named_by}
use Rattle.px_base.specs.declared.hash.Hash.{Hash}
use Rattle.px_base.specs.declared.push.Push.{Push}
use Rattle.px_base.specs.declared.push.Update.{Update}
use Rattle.objstore.specs.Bundle.{bundle_fault, with_objects}
use Rattle.objstore.specs.Entries.{object_in}
use Rattle.objstore.specs.Reach.{IsClosed, Objects}
use Rattle.objstore.specs.Walk.{IsFirstMissing}
use Rattle.refstore.specs.Hook.{vote_on}
use Rattle.refstore.specs.Updates.{after, refusal_of}
use Rattle.node_calls.specs.ReplicaState.{ReplicaState, ReadyPush, raised}
use Rattle.node_calls.specs.Refusals.{of_bundle, of_updates}
use Rattle.px_ops.specs.declared.node_refusal.NodeRefusal.{NodeRefusal}
use Rattle.px_ops.specs.declared.node_refusal.NodeRefusal.TheVariants.{Fenced, NoRepo, RepoExists, NotPrepared, VoteDiffers, Missing}
use Rattle.node_calls.specs.declared.snapshot.Snapshot.{Snapshot}

-- ---- causes that calls share

-- the lease is below the fence
abbrev pub fenced : ℕ → ReplicaState → Option NodeRefusal
fenced lease place = if nat_lt lease place.fence then Some (Fenced place.fence) else None

-- the repository is not held
abbrev pub not_held : ReplicaState → Option NodeRefusal
not_held place = if place.held then None else Some NoRepo

-- the objects that are there, with those that come
abbrev pub with_coming : ReplicaState → List GitObject → Objects
with_coming place objects = object_in place.objects (with_objects [] objects)

-- the first id that the walk from the tips takes and that has no object
abbrev pub Lacks : Objects → List Hash → NodeRefusal → Type 0
Lacks objects tips (Missing id) = IsFirstMissing objects tips id
Lacks objects tips other = ⊥

-- ---- create: the repository is held, with no references and no objects

-- no references
abbrev pub has_none : References → Bool
has_none [] = true
has_none (ref ∷ refs) = false

abbrev pub create_refusal : ℕ → ReplicaState → Option NodeRefusal
create_refusal lease place = option_or (fenced lease place)
    (if place.held && not (has_none place.refs) then Some RepoExists else None)

abbrev pub created : ℕ → ReplicaState → ReplicaState
created lease place =
    raised (lease + 1) (record place { held = true; refs = []; objects = [] })

-- ---- prepare: the push is ready, and any other is dropped

-- the objects that the updates give to names
abbrev pub new_tips : List Update → List Hash
new_tips updates =
    filter (λ id. not (is_zero id)) (map (λ (update : Update). update.new) updates)

abbrev pub prepare_refusal : ℕ → Push → ReplicaState → Option NodeRefusal
prepare_refusal lease push place =
    option_or (fenced lease place)
    (option_or (not_held place)
    (option_or (of_bundle (bundle_fault place.objects 0 push.objects))
    (of_updates (refusal_of place.refs push.updates))))

abbrev pub prepared : ℕ → Push → ReplicaState → ReplicaState
prepared lease push place = record (raised lease place) {
  ready = Some (record { lease = lease; updates = push.updates; objects = push.objects });
}

-- ---- commit: the ready push of this lease is done

-- the push of this lease, if it is the ready one
abbrev pub ready_under : ℕ → Option ReadyPush → Option ReadyPush
ready_under lease None = None
ready_under lease (Some push) = if push.lease == lease then Some push else None

-- no push is ready, or its vote is not that of the verdict
abbrev pub commit_fault : Hash → Option ReadyPush → Option NodeRefusal
commit_fault hash None = Some NotPrepared
commit_fault hash (Some push) =
    if same_hash (vote_on push.updates) hash then None
    else Some (VoteDiffers (vote_on push.updates))

abbrev pub commit_refusal : ℕ → Hash → ReplicaState → Option NodeRefusal
commit_refusal lease hash place =
    option_or (fenced lease place)
    (option_or (not_held place) (commit_fault hash (ready_under lease place.ready)))

abbrev pub committed : ℕ → ReadyPush → ReplicaState → ReplicaState
committed lease push place = raised (lease + 1) (record place {
  refs = after place.refs push.updates;
  objects = with_objects place.objects push.objects;
  last = Some lease;
})

-- ---- abort: the ready push is dropped

abbrev pub abort_refusal : ℕ → ReplicaState → Option NodeRefusal
abort_refusal lease place = option_or (fenced lease place) (not_held place)

abbrev pub aborted : ℕ → ReplicaState → ReplicaState
aborted lease place = raised (lease + 1) (record place { ready = None })

-- ---- apply: the repository is held, with the references of a snapshot and its objects beside those
-- that are there

abbrev pub apply_refusal : ℕ → Snapshot → ReplicaState → Option NodeRefusal
apply_refusal lease snapshot place = option_or (fenced lease place)
    (of_bundle (bundle_fault place.objects 0 snapshot.objects))

abbrev pub applied : ℕ → Snapshot → ReplicaState → ReplicaState
applied lease snapshot place = raised (lease + 1) (record place {
  held = true;
  refs = snapshot.refs;
  objects = with_objects place.objects snapshot.objects;
})

-- ---- remove: the repository is not held any more; its fence and its last lease stay

abbrev pub removed : ℕ → ReplicaState → ReplicaState
removed lease place =
    raised (lease + 1) (record place { held = false; refs = []; objects = [] })

-- ---- what each call answers, and leaves; and why it is refused

abbrev pub CreateRefuses : ℕ → ReplicaState → NodeRefusal → Type 0
CreateRefuses lease place r = create_refusal lease place ≡ Some r

pub record Creates (lease : ℕ) (place : ReplicaState) (answer : Unit {0}) (then_ : ReplicaState) : Type 0 where
  pub accepted : create_refusal lease place ≡ None
  pub is : then_ ≡ created lease place

-- the causes before the last one, or, where none of these holds, an object that is missed
abbrev pub PrepareRefuses : ℕ → Push → ReplicaState → NodeRefusal → Type 0
PrepareRefuses lease push place r = (prepare_refusal lease push place ≡ Some r)
    ⊎ ((prepare_refusal lease push place ≡ None)
    × Lacks (with_coming place push.objects) (new_tips push.updates) r)

pub record Prepares (lease : ℕ) (push : Push) (place : ReplicaState) (answer : Hash) (then_ : ReplicaState)
    : Type 0 where
  pub accepted : prepare_refusal lease push place ≡ None
  pub closed : IsClosed (with_coming place push.objects) (new_tips push.updates)
  pub vote : answer ≡ vote_on push.updates
  pub is : then_ ≡ prepared lease push place

abbrev pub CommitRefuses : ℕ → Hash → ReplicaState → NodeRefusal → Type 0
CommitRefuses lease hash place r = commit_refusal lease hash place ≡ Some r

pub record Commits (lease : ℕ) (hash : Hash) (place : ReplicaState) (answer : Hash) (then_ : ReplicaState)
    : Type 0 where
  pub accepted : commit_refusal lease hash place ≡ None
  pub push : ReadyPush
  pub ready : ready_under lease place.ready ≡ Some push
  pub vote : answer ≡ vote_on push.updates
  pub is : then_ ≡ committed lease push place

abbrev pub AbortRefuses : ℕ → ReplicaState → NodeRefusal → Type 0
AbortRefuses lease place r = abort_refusal lease place ≡ Some r

pub record Aborts (lease : ℕ) (place : ReplicaState) (answer : Unit {0}) (then_ : ReplicaState) : Type 0 where
  pub accepted : abort_refusal lease place ≡ None
  pub is : then_ ≡ aborted lease place

abbrev pub ApplyRefuses : ℕ → Snapshot → ReplicaState → NodeRefusal → Type 0
ApplyRefuses lease snapshot place r = (apply_refusal lease snapshot place ≡ Some r)
    ⊎ ((apply_refusal lease snapshot place ≡ None)
    × Lacks (with_coming place snapshot.objects) (ids_named_by snapshot.refs) r)

pub record Applies (lease : ℕ) (snapshot : Snapshot) (place : ReplicaState) (answer : Unit {0})
    (then_ : ReplicaState) : Type 0 where
  pub accepted : apply_refusal lease snapshot place ≡ None
  pub closed : IsClosed (with_coming place snapshot.objects) (ids_named_by snapshot.refs)
  pub is : then_ ≡ applied lease snapshot place

abbrev pub RemoveRefuses : ℕ → ReplicaState → NodeRefusal → Type 0
RemoveRefuses lease place r = fenced lease place ≡ Some r

pub record Removes (lease : ℕ) (place : ReplicaState) (answer : Unit {0}) (then_ : ReplicaState) : Type 0 where
  pub accepted : fenced lease place ≡ None
  pub is : then_ ≡ removed lease place
