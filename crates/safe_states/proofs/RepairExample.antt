-- One push whose storage is settled, and accepted after that.
use Rattle.std.proofs.Common.{◌≡◌, None, Some, inl, refl, arith}
use Rattle.replica_invariant.specs.Booking.{Absent, At, Doubt}
use Rattle.replica_invariant.specs.Contents.{Updates}
use Rattle.replica_invariant.specs.Jobs.{draw_at}
use Rattle.replica_invariant.specs.Repairs.{accepted, booked_at, fence_answered, fence_drawn}
use Rattle.replica_invariant.specs.State.{State, with_replica}
use Rattle.safe_states.specs.Examples.{SomeAreSettledAndAccepted}
use Rattle.safe_states.specs.Happens.{Accepts, AnswersFence, DrawsFence, Finishes, Goes, IsReached, Settles}
use Rattle.safe_states.proofs.PushExample.{r8, s8}

module _ (u : Updates) where
  -- the push ends without its last vote, and the fence of a settling is answered
  abbrev s9 : State
  s9 = record (s8 u) { turn = None }

  r9 : IsReached s9
  r9 = Goes (s8 u) s9 (r8 u) (Finishes (s8 u))

  abbrev s10 : State
  s10 = draw_at s9 0 (fence_drawn (s9.replica 0) 3 None)

  r10 : IsReached s10
  r10 = Goes s9 s10 r9
      (DrawsFence s9 0 None
      (record {
        known = omega arith;
        turn = refl;
        booking = λ e. (let z : Doubt 2 0 1 ≡ Absent = e in cc);
        job = inl refl;
      }))

  abbrev s11 : State
  s11 = with_replica s10 0 (fence_answered (s10.replica 0) 3 3 None)

  r11 : IsReached s11
  r11 = Goes s10 s11 r10
      (AnswersFence s10 0 3 3 None
      (record {
        purpose = (None, refl);
        up = omega arith;
        reach = omega arith;
        least = inl refl;
        ready_ = inl refl;
      }))

  abbrev s12 : State
  s12 = with_replica s11 0 (booked_at (s11.replica 0) 1)

  r12 : IsReached s12
  r12 = Goes s11 s12 r11
      (Settles s11 0 (Some 2) 2 0 1 1
      (record { purpose = refl; booking = refl; tells = inl (refl, refl) }))

  -- and the fence of an accepting
  abbrev s13 : State
  s13 = draw_at s12 0 (fence_drawn (s12.replica 0) 4 None)

  r13 : IsReached s13
  r13 = Goes s12 s13 r12
      (DrawsFence s12 0 None
      (record {
        known = omega arith;
        turn = refl;
        booking = λ e. (let z : At 1 ≡ Absent = e in cc);
        job = inl refl;
      }))

  abbrev s14 : State
  s14 = with_replica s13 0 (fence_answered (s13.replica 0) 4 4 None)

  r14 : IsReached s14
  r14 = Goes s13 s14 r13
      (AnswersFence s13 0 4 4 None
      (record {
        purpose = (None, refl);
        up = omega arith;
        reach = omega arith;
        least = inl refl;
        ready_ = inl refl;
      }))

  r15 : IsReached (accepted s14 0)
  r15 = Goes s14 (accepted s14 0) r14
      (Accepts s14 0
      (record {
        turn = refl;
        booking = λ e. (let z : At 1 ≡ Absent = e in cc);
        answer = Some 2;
        purpose = refl;
      }))

pub some_are_settled_and_accepted : SomeAreSettledAndAccepted
some_are_settled_and_accepted u = (s11 u, s12 u, s14 u, r11 u, refl, r12 u, refl, r15 u, refl, refl)
