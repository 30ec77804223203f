-- A cast in the prepared phase of a push: what is seen of it, and when nothing is.
use Rattle.std.proofs.Common.{◌≡◌, ℕ, List, [], ◌∷◌, Bool, true, false, Option, None, Some, refl, sym, ◌∙◌, subst}
use Rattle.px_base.specs.declared.hash.Hash.{Hash}
use Rattle.px_base.specs.declared.voter.Voter.{Voter}
use Rattle.txmanager.specs.Rounds.{out_of, without_all}
use Rattle.txmanager.specs.Voting.{Voting}
use Rattle.voters.specs.Results.{committed_in}
use Rattle.voters.specs.Votes.{Votes, after}
use Rattle.voters.specs.declared.act.Act.TheVariants as act
use Rattle.voters.specs.declared.outcome.Outcome.TheVariants as outcome
use Rattle.px_cluster.specs.Book.{Replica, Repository, replica_on}
use Rattle.px_cluster.specs.Casts.{is_committed_in, is_told}
use Rattle.px_cluster.specs.Core.{Core, OpenPush, voting}
use Rattle.px_cluster.specs.Numbers.{is_one_of, place_in}
use Rattle.replica_invariant.specs.Booking.{Absent, At}
use Rattle.replica_invariant.specs.Invariant.{Invariant, IsUntold}
use Rattle.replica_invariant.specs.State.{OpenPush as SeenPush, State}
use Rattle.safe_states.specs.Grows.{LeadsTo, Stays}
use Rattle.safe_states.proofs.Reached.{every_state_has_the_invariant}
use Rattle.cluster_history.specs.Goes.{GoesOn, IsSound}
use Rattle.cluster_history.specs.History.{Whole}
use Rattle.cluster_history.specs.Seen.{decided_hash, has_cast, has_voted_in, seen_push, state_of}
use Rattle.cluster_history.proofs.Frame.{same_functions, same_push, same_state}
use Rattle.vote_steps.proofs.Cases.{both_some}
use Rattle.vote_steps.proofs.Doubts.{replica_there}
use Rattle.vote_steps.proofs.Members.{one_at, placed_at}
use Rattle.vote_steps.proofs.OnPush.{VotedPush, changed, push_goes, turn_only, turn_then, with_book}
use Rattle.vote_steps.proofs.Results.{none_committed, without_all_voted}
use Rattle.vote_steps.proofs.Turns.{IsOpen}

-- the push, its two phases before the cast, who casts, and the hash
pub record PreparedCast (core : Core) : Type 0 where
  pub push : OpenPush
  pub is_open : IsOpen core push
  pub voters : List Voter
  pub first : Votes
  pub second : Votes
  pub there : let v : Voting = record { voters = voters; subs = first ∷ second ∷ [] } in
      voting core push.tx ≡ Some v
  pub voter : ℕ
  pub hash : Hash
  pub untold : committed_in voter first ≡ false

module _ (old : Whole) (sound : IsSound old) (c : PreparedCast old.cluster.core) where
  abbrev pub vote : Voting
  vote = record { voters = c.voters; subs = c.first ∷ c.second ∷ [] }

  -- the prepared phase after it
  abbrev pub cast : Votes
  cast = after c.first (act.Cast c.voter c.hash)

  abbrev pub now : Voting
  now = record { voters = c.voters; subs = cast ∷ without_all (out_of cast) c.second ∷ [] }

  abbrev pub voted : VotedPush old.cluster.core
  voted = record { push = c.push; is_open = c.is_open; vote = vote; there = c.there; now = now }

  abbrev pub book : Repository
  book = c.is_open.book

  -- the repository as it is seen before, and its push
  abbrev pub st : State
  st = state_of old c.push.repo book

  abbrev pub p : SeenPush
  p = seen_push c.push vote

  abbrev pub told : ℕ → Bool
  told = is_told c.push now

  abbrev pub place : ℕ → Option ℕ
  place storage = place_in c.push.members storage

  -- who voted in the committed phase is the same
  voted_so : (o : Option ℕ) → has_voted_in o (Some (without_all (out_of cast) c.second))
      ≡ has_voted_in o (Some c.second)
  voted_so None = refl
  voted_so (Some voter) = without_all_voted (out_of cast) c.second voter

  -- so the same have voted there
  pub same_cast : has_cast c.push now ≡ has_cast c.push vote
  same_cast = same_functions (has_cast c.push now) (has_cast c.push vote) (λ s. voted_so (place s))

  -- nobody is told where no hash is decided
  pub none_told : (votes : Votes) → ((g : Hash) → votes.outcome ≡ outcome.Commit g → ⊥)
      → (o : Option ℕ) → is_committed_in o (Some votes) ≡ false
  none_told votes never None = refl
  none_told votes never (Some voter) = none_committed voter votes never

  -- who is told is a member
  member_by : (storage : ℕ) (o : Option ℕ) → place storage ≡ o
      → is_committed_in o (Some cast) ≡ true → is_one_of storage c.push.members ≡ true
  member_by storage None is committed = absurd (let z : false ≡ true = committed in cc)
  member_by storage (Some voter) is committed =
      one_at c.push.members voter storage (placed_at c.push.members storage voter is)

  -- whoever it is
  pub is_member : (storage : ℕ) → told storage ≡ true → is_one_of storage c.push.members ≡ true
  is_member storage is = member_by storage (place storage) refl is

  -- the push has the turn
  pub is_turn : st.turn ≡ Some p
  is_turn = turn_then old sound.form voted (with_book old.history c.push.repo book book refl)

  -- a member that was not told is booked at a generation, so there is a replica
  pub was_there : (storage : ℕ) → is_one_of storage c.push.members ≡ true
      → is_told c.push vote storage ≡ false
      → (replica : Replica) × (replica_on book storage ≡ Some replica)
  was_there storage member not_told = replica_there book storage
      (λ absent. let z : Absent ≡ At c.push.begun = sym absent ∙ is_untold.booking in cc)
    where
      invariant : Invariant st
      invariant =
          every_state_has_the_invariant st (sound.reached c.push.repo book c.is_open.known)

      is_untold : IsUntold p (st.replica storage)
      is_untold = ((invariant.turn p is_turn).member storage member).untold not_told

  -- ---- nothing is seen of it

  module _ (new_book : Repository) (path : new_book.path ≡ book.path) where
    abbrev pub still : Whole
    still = changed old sound.form voted (with_book old.history c.push.repo book new_book path)

    -- where the book has what it had, and the same are told
    pub unseen : new_book.newest ≡ book.newest → new_book.last ≡ book.last
        → new_book.creation ≡ book.creation
        → ((s : ℕ) → replica_on new_book s ≡ replica_on book s)
        → ((s : ℕ) → told s ≡ is_told c.push vote s)
        → decided_hash cast.outcome ≡ decided_hash c.first.outcome → GoesOn old still
    unseen newest last creation replicas tolds hashes =
        push_goes old sound.form voted (with_book old.history c.push.repo book new_book path)
        (subst (LeadsTo st) (sym same) (Stays st))
      where
        seen : seen_push c.push now ≡ p
        seen = same_push (seen_push c.push now) p refl refl refl hashes
            (same_functions told (is_told c.push vote) tolds) same_cast

        same : state_of still c.push.repo new_book ≡ st
        same = turn_only old sound.form voted
            (with_book old.history c.push.repo book new_book path) newest last creation refl refl
            replicas
            ∙ same_state _ st refl refl refl refl
            (both_some (seen_push c.push now) p seen ∙ sym is_turn)

  abbrev pub unchanged : Whole
  unchanged = still book refl

  -- .. and the book is the same
  pub unseen_same : ((s : ℕ) → told s ≡ is_told c.push vote s)
      → decided_hash cast.outcome ≡ decided_hash c.first.outcome → GoesOn old unchanged
  unseen_same = unseen book refl refl refl refl (λ s. refl)

  -- neither before nor after it a hash is decided
  pub uncommitted : ((g : Hash) → cast.outcome ≡ outcome.Commit g → ⊥)
      → ((g : Hash) → c.first.outcome ≡ outcome.Commit g → ⊥)
      → decided_hash cast.outcome ≡ decided_hash c.first.outcome → GoesOn old unchanged
  uncommitted not_now not_before hashes = unseen_same
      (λ s. none_told cast not_now (place s) ∙ sym (none_told c.first not_before (place s))) hashes
