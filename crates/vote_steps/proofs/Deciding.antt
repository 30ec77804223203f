-- The cast in the prepared phase that decides for a hash.
use Rattle.std.proofs.Common.{◌≡◌, ◌+◌, ℕ, Bool, true, false, Some, refl, sym, ◌∙◌, ap, inl, inr}
use Rattle.std.specs.Option.{option_map}
use Rattle.px_base.specs.declared.hash.Hash.{Hash}
use Rattle.px_ops.specs.declared.booking.Booking.TheVariants as booking
use Rattle.voters.specs.declared.outcome.Outcome.TheVariants as outcome
use Rattle.px_cluster.specs.Book.{Repository, generation, is_assigned, is_assigned_in, replica_on}
use Rattle.px_cluster.specs.Casts.{decided as book_decided, in_doubt_if_told, is_told}
use Rattle.px_cluster.specs.Ids.{gen}
use Rattle.replica_invariant.specs.Pushes.{CanDecide, decided, doubted}
use Rattle.replica_invariant.specs.State.{OpenPush as SeenPush, State}
use Rattle.safe_states.specs.Happens.{Decides}
use Rattle.cluster_form.proofs.Lists.{bool, choose}
use Rattle.cluster_history.specs.Goes.{GoesOn, IsSound}
use Rattle.cluster_history.specs.History.{Whole, with_value_at}
use Rattle.cluster_history.specs.Remembered.{decided_entry}
use Rattle.cluster_history.specs.Seen.{decided_hash, replica_of, seen_push, state_of}
use Rattle.cluster_history.proofs.Books.{each_changed}
use Rattle.cluster_history.proofs.Frame.{once_to, same_functions, same_push, same_shared, same_state}
use Rattle.cluster_history.proofs.OneReplica.{value_elsewhere, value_here}
use Rattle.vote_steps.proofs.Cases.{both_some}
use Rattle.vote_steps.proofs.Doubts.{keeps_storage, told_replica, untold_replica}
use Rattle.vote_steps.proofs.OnPush.{Left, assigned_booked, changed, push_goes, replica_doubted, replica_same, turn_now}
use Rattle.vote_steps.proofs.PreparedCast.{PreparedCast, book, cast, is_member, is_turn, none_told, now, p, place, same_cast, st, told, vote, voted, was_there}

module _ (old : Whole) (sound : IsSound old) (c : PreparedCast old.cluster.core)
    (open_ : c.first.outcome ≡ outcome.Open) (g : Hash)
    (commits : (cast old sound c).outcome ≡ outcome.Commit g) where
  abbrev before : State
  before = st old sound c

  abbrev push : SeenPush
  push = p old sound c

  abbrev is_told_now : ℕ → Bool
  is_told_now = told old sound c

  abbrev was : Repository
  was = book old sound c

  abbrev due : ℕ
  due = was.newest + 1

  abbrev left : Left old.history c.push.repo was
  left = record {
    book = book_decided c.push (now old sound c) was;
    path = refl;
    entry = with_value_at old.history.entry c.push.repo due (decided_entry c.push g);
    entries = λ r differs. value_elsewhere old.history.entry c.push.repo _ r differs;
    floor = old.history.floor;
    floors = λ r differs. refl;
  }

  abbrev after_ : Whole
  after_ = changed old sound.form (voted old sound c) left

  -- the votes may decide
  can : CanDecide before push is_told_now
  can = record {
    turn = is_turn old sound c;
    undecided = ap decided_hash open_;
    members = is_member old sound c;
  }

  -- nobody was told before
  not_told : (s : ℕ) → is_told c.push (vote old sound c) s ≡ false
  not_told s = none_told old sound c c.first
      (λ x is. let z : outcome.Open ≡ outcome.Commit x = sym open_ ∙ is in cc) (place old sound c s)

  -- each replica changes by whether it is told
  each : (s : ℕ) → replica_on left.book s
      ≡ option_map (in_doubt_if_told c.push (now old sound c) due) (replica_on was s)
  each s = each_changed (in_doubt_if_told c.push (now old sound c) due)
      (keeps_storage c.push (now old sound c) due) (record was { newest = due }) s

  -- who is told is in doubt
  told_one : (s : ℕ) → is_told_now s ≡ true
      → (replica_of after_ c.push.repo left.book s ≡ doubted (before.replica s) c.push.lease due)
      × (is_assigned left.book s ≡ is_assigned was s)
  told_one s is =
      let had = was_there old sound c s (can.members s is) (not_told s) in
      let has = each s ∙ told_replica c.push (now old sound c) due was s had.0 had.1 is in (
        replica_doubted old sound.form (voted old sound c) left s had.0 c.push.lease due had.1 has
            refl,
        assigned_booked old sound.form (voted old sound c) left s had.0
            (booking.Doubt c.push.lease (gen (generation had.0.booking)) (gen due)) had.1 has,
      )

  -- who is not told stays as it was
  untold_one : (s : ℕ) → is_told_now s ≡ false → replica_on left.book s ≡ replica_on was s
  untold_one s is = each s ∙ untold_replica c.push (now old sound c) due was s is

  -- what is assigned stays
  assigned_so : (s : ℕ) → is_assigned left.book s ≡ is_assigned was s
  assigned_so s = elim (bool (is_told_now s)) [
    | inl holds ↦ (told_one s holds).1
    | inr fails ↦ ap is_assigned_in (untold_one s fails)
  ]

  -- each replica is seen so
  replica_so : (s : ℕ) → replica_of after_ c.push.repo left.book s
      ≡ (decided before push is_told_now g).replica s
  replica_so s = choose (λ r. replica_of after_ c.push.repo left.book s ≡ r) (is_told_now s)
      (doubted (before.replica s) c.push.lease due) (before.replica s)
      (λ holds. (told_one s holds).0)
      (λ fails. replica_same old sound.form (voted old sound c) left s (untold_one s fails) refl)

  abbrev push_then : SeenPush
  push_then = record push { decided = Some g; told = is_told_now }

  -- the push is decided, and these are told
  turn_so : seen_push c.push (now old sound c) ≡ push_then
  turn_so = same_push (seen_push c.push (now old sound c)) push_then refl refl refl
      (ap decided_hash commits) refl (same_cast old sound c)

  -- that is what a decision leaves
  here : state_of after_ c.push.repo left.book ≡ decided before push is_told_now g
  here = same_state (state_of after_ c.push.repo left.book) (decided before push is_told_now g)
      (same_shared (state_of after_ c.push.repo left.book).shared
      (decided before push is_told_now g).shared refl refl refl
      (value_here old.history.entry c.push.repo _) refl) refl (same_functions _ _ assigned_so)
      (same_functions _ _ replica_so)
      (turn_now old sound.form (voted old sound c) left ∙ both_some _ push_then turn_so)

  -- the vote decides
  pub decides : GoesOn old after_
  decides = push_goes old sound.form (voted old sound c) left
      (once_to before (decided before push is_told_now g) (state_of after_ c.push.repo left.book)
      here (Decides before push is_told_now g can))
