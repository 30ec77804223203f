-- What a user relies on, of the whole cluster and over every list of moves.
use Rattle.std.specs.Prelude.{◌≡◌, ℕ, List, ◌++◌, Some}
use Rattle.node_calls.specs.ReplicaState.{NodeState}
use Rattle.node_calls.specs.Whole.{IsWhole}
use Rattle.px_cluster.specs.Astray.{Move, MovesOn}
use Rattle.px_cluster.specs.Book.{Repository}
use Rattle.px_cluster.specs.Cluster.{Cluster, starting_with}
use Rattle.px_cluster.specs.Core.{repository}
use Rattle.px_cluster.specs.Growth.{Grows}
use Rattle.safe_states.specs.Happens.{IsReached}
use Rattle.safe_states.specs.Safe.{IsSafe}
use Rattle.cluster_form.specs.Form.{HasForm}
use Rattle.cluster_form.specs.Homes.{IsHome}
use Rattle.cluster_history.specs.Goes.{Goes}
use Rattle.cluster_history.specs.History.{Whole}
use Rattle.cluster_history.specs.Seen.{state_of}
use Rattle.cluster_runs.specs.Lists.{AreFit, AreLawful, HaveOneList}

-- Each repository on record is safe, and its state is one that its creation and then its own events
-- lead to; and what each node holds is whole: all that its references lead to is there.
pub record IsSafeCluster (whole : Whole) : Type 0 where
  pub form : HasForm whole.cluster
  pub reached : (repo : ℕ) (book : Repository) → repository whole.cluster.core repo ≡ Some book
      → IsReached (state_of whole repo book)
  pub safe : (repo : ℕ) (book : Repository) → repository whole.cluster.core repo ≡ Some book
      → IsSafe (state_of whole repo book)
  pub whole_ : (storage : ℕ) → IsWhole (whole.cluster.node storage)

-- each repository on record stays on record, and what happens to it is a list of its own events
abbrev pub IsFollowed : Whole → Whole → Type 0
IsFollowed old new = (repo : ℕ) (book : Repository) → repository old.cluster.core repo ≡ Some book
    → Goes old new repo book

-- Two states of one run, the one before the other: both are safe, and the one goes on to the other.
-- What is remembered beside them is not stored, so it is only said that there is such a thing.
pub record AreSafeTogether (old new : Cluster) : Type 0 where
  pub before : Whole
  pub is_before : before.cluster ≡ old
  pub after : Whole
  pub is_after : after.cluster ≡ new
  pub safe_before : IsSafeCluster before
  pub safe_after : IsSafeCluster after
  pub follows : IsFollowed before after
  -- each repository keeps its virtual storage and path, and newest and the last lease do not fall
  pub grows : Grows before.cluster.core after.cluster.core
  -- a storage of the repository's virtual storage stays one
  pub homes : (repo storage : ℕ) → IsHome before.cluster.core repo storage
      → IsHome after.cluster.core repo storage

-- Over every list of moves from an empty book on, whatever whole repositories the nodes hold, and
-- under the one premise on hashes, every state is safe, and goes on to every later one.
abbrev pub EveryRunIsSafe : Type 0
EveryRunIsSafe = (node : ℕ → NodeState) (moves more : List Move) (old new : Cluster)
    → AreFit node → AreLawful (moves ++ more) → HaveOneList (moves ++ more)
    → MovesOn (starting_with node) moves old → MovesOn old more new
    → AreSafeTogether old new
