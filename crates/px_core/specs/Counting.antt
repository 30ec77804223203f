-- A vote on a push that is counted.
use Rattle.std.specs.Prelude.{◌≡◌, ℕ, List, Some, Ok}
use Rattle.px_base.specs.declared.hash.Hash.{Hash}
use Rattle.px_base.specs.declared.phase.Phase.{Phase}
use Rattle.txmanager.specs.VoterCalls.{after_cast, cast_answer}
use Rattle.txmanager.specs.Voting.{Voting}
use Rattle.px_cluster.specs.Book.{Repository}
use Rattle.px_cluster.specs.Casts.{booked_by}
use Rattle.px_cluster.specs.Core.{Core, OpenPush, repository, voting}
use Rattle.px_core.specs.declared.casts.Counting.{Counting}

-- by the transaction and the repository of the push, it is counted and booked by the rule
pub record IsCounted (core : Core) (push : OpenPush) (name : List ℕ) (phase : Phase) (hash : Hash)
    (plan : Counting) : Type 0 where
  pub votes : Voting
  pub voted : voting core push.tx ≡ Some votes
  pub book : Repository
  pub there : repository core push.repo ≡ Some book
  pub answer : cast_answer name phase hash votes ≡ Ok (plan.sub, plan.result)
  pub then_ : plan.then ≡ after_cast name phase hash votes
  pub entry : plan.entry ≡ booked_by push name phase hash votes plan.then book
