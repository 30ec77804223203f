-- A cast in the committed phase of a push: what is seen of it, and that one for another hash than
-- the decided one is a vote more.
use Rattle.std.proofs.Common.{◌≡◌, ℕ, List, [], ◌∷◌, true, Option, None, Some, refl, sym, ◌∙◌, ap, subst, inl, inr, slice_get}
use Rattle.px_base.specs.declared.hash.Hash.{Hash}
use Rattle.px_base.specs.declared.voter.Voter.{Voter}
use Rattle.txmanager.specs.Rounds.{out_of, without_all}
use Rattle.txmanager.specs.Voting.{Voting}
use Rattle.voters.specs.Refusals.{cast_refusal}
use Rattle.voters.specs.Results.{committed_in}
use Rattle.voters.specs.Votes.{Votes, after}
use Rattle.voters.specs.declared.act.Act.TheVariants as act
use Rattle.voters.proofs.KeepLemmas.{cast_voted, same_index, same_index-is}
use Rattle.px_cluster.specs.Book.{Repository}
use Rattle.px_cluster.specs.Core.{Core, OpenPush, voting}
use Rattle.px_cluster.specs.Numbers.{place_in}
use Rattle.replica_invariant.specs.Pushes.{with_votes}
use Rattle.replica_invariant.specs.State.{OpenPush as SeenPush, State, with_value}
use Rattle.safe_states.specs.Grows.{LeadsTo, Stays}
use Rattle.safe_states.specs.Happens.{Votes as VotesMore}
use Rattle.cluster_form.proofs.Lists.{bool}
use Rattle.cluster_history.specs.Goes.{GoesOn, IsSound}
use Rattle.cluster_history.specs.History.{Whole}
use Rattle.cluster_history.specs.Seen.{has_cast, has_voted_in, seen_push, state_of}
use Rattle.cluster_history.proofs.Frame.{once_to, same_functions, same_push, same_state}
use Rattle.vote_steps.proofs.Cases.{both_some, by_one, value_so}
use Rattle.vote_steps.proofs.Members.{no_place, place_is, place_only}
use Rattle.vote_steps.proofs.OnPush.{Left, VotedPush, changed, push_goes, turn_only, turn_then, with_book}
use Rattle.vote_steps.proofs.Results.{now_voted, without_all_voted}
use Rattle.vote_steps.proofs.Turns.{IsOpen}

-- the push, its two phases before the cast, who casts, and the hash
pub record CommittedCast (core : Core) : Type 0 where
  pub push : OpenPush
  pub is_open : IsOpen core push
  pub voters : List Voter
  pub first : Votes
  pub second : Votes
  pub there : let v : Voting = record { voters = voters; subs = first ∷ second ∷ [] } in
      voting core push.tx ≡ Some v
  pub voter : ℕ
  pub hash : Hash
  pub told : committed_in voter first ≡ true
  pub counts : cast_refusal second voter ≡ None

module _ (old : Whole) (sound : IsSound old) (c : CommittedCast old.cluster.core) where
  abbrev pub vote : Voting
  vote = record { voters = c.voters; subs = c.first ∷ c.second ∷ [] }

  -- the committed phase with the vote, before and after who is out of the other one is canceled
  abbrev pub counted : Votes
  counted = after c.second (act.Cast c.voter c.hash)

  abbrev pub cast : Votes
  cast = without_all (out_of c.first) counted

  abbrev pub now : Voting
  now = record { voters = c.voters; subs = c.first ∷ cast ∷ [] }

  abbrev pub voted : VotedPush old.cluster.core
  voted = record { push = c.push; is_open = c.is_open; vote = vote; there = c.there; now = now }

  abbrev pub book : Repository
  book = c.is_open.book

  -- the repository as it is seen before, and its push
  abbrev pub st : State
  st = state_of old c.push.repo book

  abbrev pub p : SeenPush
  p = seen_push c.push vote

  abbrev pub place : ℕ → Option ℕ
  place storage = place_in c.push.members storage

  abbrev same_left : Left old.history c.push.repo book
  same_left = with_book old.history c.push.repo book book refl

  -- the push has the turn
  pub is_turn : st.turn ≡ Some p
  is_turn = turn_then old sound.form voted same_left

  -- another voter has voted where it had
  voted_other : (o : Option ℕ) → (o ≡ Some c.voter → ⊥)
      → has_voted_in o (Some cast) ≡ has_voted_in o (Some c.second)
  voted_other None differs = refl
  voted_other (Some voter) differs = without_all_voted (out_of c.first) counted voter
      ∙ cast_voted voter c.voter c.hash c.second (elim (bool (same_index c.voter voter)) [
        | inl holds ↦ absurd (differs
            (both_some voter c.voter (sym (same_index-is c.voter voter holds))))
        | inr fails ↦ fails
      ])

  -- ---- nothing is booked

  abbrev pub unchanged : Whole
  unchanged = changed old sound.form voted same_left

  -- the push with the new votes
  abbrev seen_now : SeenPush
  seen_now = seen_push c.push now

  -- only the votes of the turn changed
  unchanged_is : state_of unchanged c.push.repo book ≡ record st { turn = Some seen_now }
  unchanged_is = turn_only old sound.form voted same_left refl refl refl refl refl (λ s. refl)

  -- it is enough to know what such a change is
  unchanged_goes : LeadsTo st (state_of unchanged c.push.repo book) → GoesOn old unchanged
  unchanged_goes leads = push_goes old sound.form voted same_left leads

  -- it is of no member
  pub nobody_votes : slice_get c.push.members c.voter ≡ None → GoesOn old unchanged
  nobody_votes none = unchanged_goes (subst (LeadsTo st) (sym same) (Stays st))
    where
      same_cast : has_cast c.push now ≡ p.cast
      same_cast = same_functions _ _
          (λ s. voted_other (place s) (no_place c.push.members c.voter none s))

      same : state_of unchanged c.push.repo book ≡ st
      same = unchanged_is ∙ same_state _ st refl refl refl refl (both_some seen_now p
          (same_push seen_now p refl refl refl refl refl same_cast) ∙ sym is_turn)

  module _ (v : ℕ) (is_voter : slice_get c.push.members c.voter ≡ Some v) where
    -- the voter is this storage
    pub its_place : place v ≡ Some c.voter
    its_place = place_is c.push.members c.is_open.distinct c.voter v is_voter

    -- which has voted now
    voted_now : has_cast c.push now v ≡ true
    voted_now = ap (λ o. has_voted_in o (Some cast)) its_place
        ∙ without_all_voted (out_of c.first) counted c.voter
        ∙ now_voted c.second c.voter c.hash c.counts

    -- each other one has voted where it had
    others_voted : (s : ℕ) → (s ≡ v → ⊥) → has_cast c.push now s ≡ p.cast s
    others_voted s differs =
        voted_other (place s) (place_only c.push.members c.voter v is_voter s differs)

    -- so one more has voted
    pub cast_is : (s : ℕ) → has_cast c.push now s ≡ with_value p.cast v true s
    cast_is = value_so (has_cast c.push now) p.cast v true voted_now others_voted

    -- it is for another hash
    pub other_hash : GoesOn old unchanged
    other_hash = unchanged_goes (once_to st (with_votes st p (has_cast c.push now))
        (state_of unchanged c.push.repo book) unchanged_is
        (VotesMore st p (has_cast c.push now) is_turn
        (by_one (λ s. p.cast s ≡ true → has_cast c.push now s ≡ true) v (λ had. voted_now)
        (λ s differs had. others_voted s differs ∙ had))))
