-- What the steps of the book need, by the invariant.
use Rattle.std.proofs.Common.{◌≡◌, ℕ, true, false, None, Some, sym, ◌∙◌, ap, inl, inr, arith}
use Rattle.replica_invariant.specs.Booking.{At}
use Rattle.replica_invariant.specs.Invariant.{Invariant, IsUntold}
use Rattle.replica_invariant.specs.State.{OpenPush, State}
use Rattle.push_events.proofs.Dead.{current_level}
use Rattle.push_events.proofs.Values.{bool}
use Rattle.safe_states.specs.Conditions.{ConfirmersAreInDoubt, JobsAreDecided, LateVotersAreAt, MembersAreAt, MembersAreNotFenced}

untold : (st : State) (p : OpenPush) (s : ℕ) → Invariant st → st.turn ≡ Some p → p.decided ≡ None
    → p.members s ≡ true → IsUntold p (st.replica s)
untold st p s i e d m = let c = (i.turn p e).member s m in
    elim (bool (p.told s)) [ inl t ↦ absurd ((c.told t).decided d) | inr n ↦ c.untold n ]

pub members_are_at_newest : MembersAreAt
members_are_at_newest st p s i e d m = (untold st p s i e d m).booking
    ∙ ap At (sym ((i.turn p e).undecided d))

pub late_voters_are_at_the_generation_before : LateVotersAreAt
late_voters_are_at_the_generation_before st p s h i e d m n =
    ((((i.turn p e).member s m).untold n).booking, ((i.turn p e).decided h d).newest)

pub who_confirms_is_in_doubt : ConfirmersAreInDoubt
who_confirms_is_in_doubt st p v h i c = let t = i.turn p c.turn in
    elim (((t.member v (t.told v c.told)).told c.told).booking) [
      | inl y ↦ y
      | inr y ↦ absurd (let z : false ≡ true = sym c.first ∙ y.2 in cc)
    ]

pub a_job_is_for_a_decided_generation : JobsAreDecided
a_job_is_for_a_decided_generation st t j i e = ((i.replicas t).job j e).generation

pub a_member_takes_the_lease_of_its_push : MembersAreNotFenced
a_member_takes_the_lease_of_its_push st m s i c e = let h = i.replicas s in
    let level = current_level st.shared (st.replica s) h (c.current s e) in
    omega (arith, h.lease.fence (h.node.level st.shared.newest level).had, h.lease.kept)
