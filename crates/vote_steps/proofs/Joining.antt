-- A cast in the prepared phase that comes after the decision: its own storage is in doubt from then
-- on, where the cast is for the decided hash, and else nothing is seen of it.
use Rattle.std.proofs.Common.{◌≡◌, ℕ, Bool, true, false, Option, None, Some, refl, sym, ◌∙◌, ap, slice_get}
use Rattle.std.specs.Option.{option_map}
use Rattle.px_base.specs.declared.hash.Hash.{Hash}
use Rattle.px_ops.specs.declared.booking.Booking.TheVariants as booking
use Rattle.voters.specs.declared.act.Act.TheVariants as act
use Rattle.voters.specs.declared.outcome.Outcome.TheVariants as outcome
use Rattle.voters.proofs.StepLemmas.{outcome_stays}
use Rattle.px_cluster.specs.Book.{Replica, Repository, booked, generation, is_assigned, is_assigned_in, replica_on, with_replica_on}
use Rattle.px_cluster.specs.Casts.{in_doubt_if_told, is_committed_in}
use Rattle.px_cluster.specs.Ids.{gen}
use Rattle.px_cluster.specs.Numbers.{is_one_of}
use Rattle.replica_invariant.specs.Pushes.{CanJoin, doubted, joined}
use Rattle.replica_invariant.specs.State.{OpenPush as SeenPush, State, with_value}
use Rattle.safe_states.specs.Happens.{Joins}
use Rattle.cluster_history.specs.Goes.{GoesOn, IsSound}
use Rattle.cluster_history.specs.History.{Whole}
use Rattle.cluster_history.specs.Seen.{decided_hash, replica_of, seen_push, state_of}
use Rattle.cluster_history.proofs.Books.{changed_elsewhere, changed_here}
use Rattle.cluster_history.proofs.Frame.{once_to, same_functions, same_push, same_state}
use Rattle.vote_steps.proofs.Cases.{both_some, by_one, value_so}
use Rattle.vote_steps.proofs.Doubts.{keeps_storage, told_replica, untold_replica}
use Rattle.vote_steps.proofs.Members.{no_place, one_at, place_is, place_only}
use Rattle.vote_steps.proofs.OnPush.{Left, assigned_booked, changed, push_goes, replica_doubted, replica_same, turn_now, with_book}
use Rattle.vote_steps.proofs.PreparedCast.{PreparedCast, book, cast, is_turn, now, p, place, same_cast, st, still, told, unchanged, unseen, unseen_same, voted, was_there}
use Rattle.vote_steps.proofs.Results.{cast_others}

module _ (old : Whole) (sound : IsSound old) (c : PreparedCast old.cluster.core) (g : Hash)
    (was_decided : c.first.outcome ≡ outcome.Commit g) where
  abbrev before : State
  before = st old sound c

  abbrev push : SeenPush
  push = p old sound c

  abbrev is_told_now : ℕ → Bool
  is_told_now = told old sound c

  abbrev was : Repository
  was = book old sound c

  -- the outcome is fixed
  fixed : c.first.outcome ≡ outcome.Open → ⊥
  fixed is = let z : outcome.Open ≡ outcome.Commit g = sym is ∙ was_decided in cc

  -- so it stays
  stays : (cast old sound c).outcome ≡ c.first.outcome
  stays = outcome_stays c.first (act.Cast c.voter c.hash) fixed

  -- another voter is told as it was
  told_other : (o : Option ℕ) → (o ≡ Some c.voter → ⊥)
      → is_committed_in o (Some (cast old sound c)) ≡ is_committed_in o (Some c.first)
  told_other None differs = refl
  told_other (Some voter) differs = cast_others c.first c.voter voter c.hash fixed
      (λ same. differs (both_some voter c.voter (sym same)))

  -- it is of no member
  pub nobody_joins : slice_get c.push.members c.voter ≡ None → GoesOn old (unchanged old sound c)
  nobody_joins none = unseen_same old sound c
      (λ s. told_other (place old sound c s) (no_place c.push.members c.voter none s))
      (ap decided_hash stays)

  module _ (v : ℕ) (is_voter : slice_get c.push.members c.voter ≡ Some v) where
    -- the voter is this storage
    its_place : place old sound c v ≡ Some c.voter
    its_place = place_is c.push.members c.is_open.distinct c.voter v is_voter

    -- each other one is told as it was
    others_told : (s : ℕ) → (s ≡ v → ⊥) → is_told_now s ≡ push.told s
    others_told s differs = told_other (place old sound c s)
        (place_only c.push.members c.voter v is_voter s differs)

    -- this one was not told
    was_untold : push.told v ≡ false
    was_untold = ap (λ o. is_committed_in o (Some c.first)) its_place ∙ c.untold

    -- it is a member
    is_one : is_one_of v c.push.members ≡ true
    is_one = one_at c.push.members c.voter v is_voter

    abbrev change : Replica → Replica
    change = in_doubt_if_told c.push (now old sound c) was.newest

    abbrev late_book : Repository
    late_book = with_replica_on v change was

    -- its replica changes by whether it is told
    here : replica_on late_book v ≡ option_map change (replica_on was v)
    here = changed_here change (keeps_storage c.push (now old sound c) was.newest) was v

    -- no other one changes
    beside : (s : ℕ) → (s ≡ v → ⊥) → replica_on late_book s ≡ replica_on was s
    beside s differs =
        changed_elsewhere change (keeps_storage c.push (now old sound c) was.newest) was v s differs

    -- it is for another hash
    pub other_joins : is_told_now v ≡ false → GoesOn old (still old sound c late_book refl)
    other_joins fails = unseen old sound c late_book refl refl refl refl
        (by_one (λ s. replica_on late_book s ≡ replica_on was s) v
        (here ∙ untold_replica c.push (now old sound c) was.newest was v fails) beside)
        (by_one (λ s. is_told_now s ≡ push.told s) v (fails ∙ sym was_untold) others_told)
        (ap decided_hash stays)

    -- .. or for the decided one
    module _ (holds : is_told_now v ≡ true) where
      abbrev left : Left old.history c.push.repo was
      left = with_book old.history c.push.repo was late_book refl

      abbrev after_ : Whole
      after_ = changed old sound.form (voted old sound c) left

      -- the storage may join
      can : CanJoin before push v g
      can = record {
        turn = is_turn old sound c;
        decided = ap decided_hash was_decided;
        member = is_one;
        untold = was_untold;
      }

      -- it was booked, so there is a replica
      had : (replica : Replica) × (replica_on was v ≡ Some replica)
      had = was_there old sound c v is_one was_untold

      -- which is in doubt now
      has : replica_on late_book v ≡ Some (booked (booking.Doubt c.push.lease
          (gen (generation had.0.booking)) (gen was.newest)) had.0)
      has = here ∙ told_replica c.push (now old sound c) was.newest was v had.0 had.1 holds

      -- what is assigned stays
      assigned_so : (s : ℕ) → is_assigned late_book s ≡ is_assigned was s
      assigned_so = by_one (λ s. is_assigned late_book s ≡ is_assigned was s) v
          (assigned_booked old sound.form (voted old sound c) left v had.0 _ had.1 has)
          (λ s differs. ap is_assigned_in (beside s differs))

      -- each replica is seen so
      replica_so : (s : ℕ) → replica_of after_ c.push.repo late_book s
          ≡ with_value before.replica v (doubted (before.replica v) c.push.lease was.newest) s
      replica_so = value_so (replica_of after_ c.push.repo late_book) before.replica v
          (doubted (before.replica v) c.push.lease was.newest)
          (replica_doubted old sound.form (voted old sound c) left v had.0 c.push.lease was.newest
          had.1 has refl)
          (λ s differs.
          replica_same old sound.form (voted old sound c) left s (beside s differs) refl)

      abbrev push_then : SeenPush
      push_then = record push { told = with_value push.told v true }

      -- one more is told
      turn_so : seen_push c.push (now old sound c) ≡ push_then
      turn_so = same_push (seen_push c.push (now old sound c)) push_then refl refl refl
          (ap decided_hash stays)
          (same_functions _ _ (value_so is_told_now push.told v true holds others_told))
          (same_cast old sound c)

      -- that is what a vote that joins leaves
      is_joined : state_of after_ c.push.repo late_book ≡ joined before push v
      is_joined = same_state (state_of after_ c.push.repo late_book) (joined before push v) refl
          refl (same_functions _ _ assigned_so) (same_functions _ _ replica_so)
          (turn_now old sound.form (voted old sound c) left ∙ both_some _ push_then turn_so)

      -- the vote joins
      pub joins : GoesOn old after_
      joins = push_goes old sound.form (voted old sound c) left
          (once_to before (joined before push v) (state_of after_ c.push.repo late_book) is_joined
          (Joins before push v g can))
