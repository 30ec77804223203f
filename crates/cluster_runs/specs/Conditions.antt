-- What is so of a push that has the turn, in every state: the voters of a decision are booked at
-- newest, and who comes late at the generation before; whoever confirms is in doubt under the push;
-- and until one has, none is booked at newest.
use Rattle.std.specs.Prelude.{◌≡◌, ◌+◌, ℕ, true, false, Some}
use Rattle.px_base.specs.declared.hash.Hash.{Hash}
use Rattle.px_ops.specs.declared.booking.Booking.TheVariants.{At, Doubt}
use Rattle.voters.specs.declared.outcome.Outcome.TheVariants as outcome
use Rattle.txmanager.specs.Voting.{Voting}
use Rattle.px_cluster.specs.Book.{Repository, booking_on}
use Rattle.px_cluster.specs.Casts.{is_told}
use Rattle.px_cluster.specs.Core.{OpenPush, repository, turn_of, voting}
use Rattle.px_cluster.specs.Ids.{gen}
use Rattle.px_cluster.specs.Ledger.{is_committed}
use Rattle.px_cluster.specs.Numbers.{is_one_of}
use Rattle.px_cluster.specs.Pushes.{prepared_outcome}
use Rattle.cluster_history.specs.History.{Whole}
use Rattle.cluster_history.specs.Seen.{has_cast}
use Rattle.cluster_runs.specs.Safe.{IsSafeCluster}

-- the push that has the turn of a repository, with its votes
pub record HasTurn (whole : Whole) (repo : ℕ) (book : Repository) (push : OpenPush) (vote : Voting)
    : Type 0 where
  pub there : repository whole.cluster.core repo ≡ Some book
  pub turn : turn_of whole.cluster.core repo ≡ Some push
  pub voting_ : voting whole.cluster.core push.tx ≡ Some vote

-- before the decision each member is booked at newest
abbrev pub MembersAreAt : Type 0
MembersAreAt = (whole : Whole) (repo storage : ℕ) (book : Repository) (push : OpenPush)
    (vote : Voting) → IsSafeCluster whole → HasTurn whole repo book push vote
    → prepared_outcome vote ≡ outcome.Open → is_one_of storage push.members ≡ true
    → booking_on book storage ≡ At (gen book.newest)

-- after it, who is not told is booked at the generation at which the push began
abbrev pub LateVotersAreAt : Type 0
LateVotersAreAt = (whole : Whole) (repo storage : ℕ) (book : Repository) (push : OpenPush)
    (vote : Voting) (hash : Hash) → IsSafeCluster whole → HasTurn whole repo book push vote
    → prepared_outcome vote ≡ outcome.Commit hash → is_one_of storage push.members ≡ true
    → is_told push vote storage ≡ false
    → (booking_on book storage ≡ At (gen push.begun)) × (book.newest ≡ push.begun + 1)

-- who is told, has not voted in the committed phase, and whose node answered the commit, is in
-- doubt under the lease of the push
abbrev pub ConfirmersAreInDoubt : Type 0
ConfirmersAreInDoubt = (whole : Whole) (repo storage : ℕ) (book : Repository) (push : OpenPush)
    (vote : Voting) (hash : Hash) → IsSafeCluster whole → HasTurn whole repo book push vote
    → prepared_outcome vote ≡ outcome.Commit hash → is_told push vote storage ≡ true
    → has_cast push vote storage ≡ false
    → is_committed (whole.cluster.ledger repo storage push.lease) ≡ true
    → booking_on book storage ≡ Doubt push.lease (gen push.begun) (gen (push.begun + 1))

-- Where a replica is booked at newest once the push is decided, a member has confirmed: its node
-- voted in the committed phase, and it is booked at newest. So between the decision and the first
-- such vote none is.
abbrev pub OneHasConfirmed : Type 0
OneHasConfirmed = (whole : Whole) (repo storage : ℕ) (book : Repository) (push : OpenPush)
    (vote : Voting) (hash : Hash) → IsSafeCluster whole → HasTurn whole repo book push vote
    → prepared_outcome vote ≡ outcome.Commit hash → booking_on book storage ≡ At (gen book.newest)
    → (member : ℕ) × (is_one_of member push.members ≡ true)
    × (booking_on book member ≡ At (gen book.newest)) × (has_cast push vote member ≡ true)
