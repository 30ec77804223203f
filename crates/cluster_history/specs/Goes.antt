-- What each event of the cluster is to each of its repositories: some events of that one repository,
-- one after the other, or its creation.
use Rattle.std.specs.Prelude.{◌≡◌, ◌<◌, ℕ, Bool, true, List, Option, None, Some}
use Rattle.node_calls.specs.ReplicaState.{ReplicaState}
use Rattle.px_base.specs.declared.push.Push.{Push}
use Rattle.px_ops.specs.declared.op.Op.{Op}
use Rattle.refstore.specs.Hook.{vote_on}
use Rattle.px_cluster.specs.Acknowledged.{event_refusal}
use Rattle.px_cluster.specs.Astray.{GoesAstray, IsLost, Unanswered, with_lost}
use Rattle.px_cluster.specs.Book.{Repository, has_replica_on}
use Rattle.px_cluster.specs.Cluster.{Cluster, Destination}
use Rattle.px_cluster.specs.Core.{Core, repository}
use Rattle.px_cluster.specs.Events.{Answer, Event}
use Rattle.px_cluster.specs.Events as event
use Rattle.px_cluster.specs.Step.{Step}
use Rattle.cluster_form.specs.Form.{HasForm}
use Rattle.safe_states.specs.Grows.{LeadsTo}
use Rattle.safe_states.specs.Happens.{IsReached}
use Rattle.cluster_history.specs.History.{Whole}
use Rattle.cluster_history.specs.Remembered.{after_delivery, after_move, after_op}
use Rattle.cluster_history.specs.Seen.{state_of}

-- ---- where a cluster stands

-- each repository on record is in a state that its creation and then any events lead to
abbrev pub AreReached : Whole → Type 0
AreReached whole = (repo : ℕ) (book : Repository) → repository whole.cluster.core repo ≡ Some book
    → IsReached (state_of whole repo book)

-- what a node has of a path of which no repository is on record: no push is ready there, and what was
-- committed is below the fence
pub record IsQuiet (state : ReplicaState) : Type 0 where
  pub idle : state.ready ≡ None
  pub below : (lease : ℕ) → state.last ≡ Some lease → lease < state.fence

-- no repository on record has a replica there
abbrev pub IsNobodys : Core → ℕ → List ℕ → Type 0
IsNobodys core storage path = (repo : ℕ) (book : Repository) → repository core repo ≡ Some book
    → has_replica_on book storage ≡ true → book.path ≡ path → ⊥

abbrev pub AreOthersQuiet : Cluster → Type 0
AreOthersQuiet cluster = (storage : ℕ) (path : List ℕ) → IsNobodys cluster.core storage path
    → IsQuiet (cluster.node storage path)

-- its data has its form, each repository is in such a state, and where none is on record it is quiet
pub record IsSound (whole : Whole) : Type 0 where
  pub form : HasForm whole.cluster
  pub reached : AreReached whole
  pub quiet : AreOthersQuiet whole.cluster

-- ---- how it goes on

-- the repository stays on record, and what happened to it is a list of its own events
pub record Goes (old new : Whole) (repo : ℕ) (book : Repository) : Type 0 where
  pub now : Repository
  pub there : repository new.cluster.core repo ≡ Some now
  pub leads : LeadsTo (state_of old repo book) (state_of new repo now)

-- each repository goes on, and one that comes on record is created
pub record GoesOn (old new : Whole) : Type 0 where
  pub each : (repo : ℕ) (book : Repository) → repository old.cluster.core repo ≡ Some book
      → Goes old new repo book
  pub comes : (repo : ℕ) (book : Repository) → repository old.cluster.core repo ≡ None
      → repository new.cluster.core repo ≡ Some book → IsReached (state_of new repo book)

-- ---- the premise on hashes, of one delivery: the updates are the one list that its push has with
-- their vote

abbrev pub IsOneListUnder : Whole → Option Destination → Push → Type 0
IsOneListUnder whole None push = Unit {0}
IsOneListUnder whole (Some to) push =
    push.updates ≡ whole.history.text to.repo to.number (vote_on push.updates)

abbrev pub IsOneList : Whole → Event → Type 0
IsOneList whole (event.Prepare tx storage push) =
    IsOneListUnder whole (whole.cluster.pushed tx.0) push
IsOneList whole other = Unit {0}

-- ---- what is to be shown of each operation, delivery and loss

abbrev pub OpGoesOn : Op → Type 0
OpGoesOn asked = (whole : Whole) → IsSound whole → event_refusal whole.cluster asked ≡ None
    → GoesOn whole (after_op whole asked)

abbrev pub DeliveryGoesOn : Event → Type 0
DeliveryGoesOn happened = (whole : Whole) (answer : Answer) (new : Cluster) → IsSound whole
    → IsOneList whole happened → Step whole.cluster happened answer new
    → GoesOn whole (after_delivery whole happened answer new)

-- .. of an effect whose answer is lost
abbrev pub UnansweredGoesOn : Event → Type 0
UnansweredGoesOn happened = (whole : Whole) (new : Cluster) → IsSound whole
    → IsOneList whole happened → Unanswered whole.cluster happened new
    → GoesOn whole (after_move whole (GoesAstray happened) new)

abbrev pub LossGoesOn : Type 0
LossGoesOn = (whole : Whole) (storage : ℕ) (test : List ℕ → Bool) → IsSound whole
    → GoesOn whole (after_move whole (IsLost storage test) (with_lost whole.cluster storage test))
