-- That all of it can happen: two runs that are computed.
use Rattle.std.specs.Prelude.{◌≡◌, Some}
use Rattle.replica_invariant.specs.Booking.{At, Doubt}
use Rattle.replica_invariant.specs.Contents.{Updates, after, empty}
use Rattle.replica_invariant.specs.Repairs.{accepted, booked_at}
use Rattle.replica_invariant.specs.State.{State}
use Rattle.safe_states.specs.Happens.{IsReached}

-- one push of one storage, from the creation to its last vote: it holds what was pushed
abbrev pub SomePushEnds : Type 0
SomePushEnds = (updates : Updates) → (state : State) × (IsReached state)
    × ((state.replica 0).booking ≡ At 1) × ((state.replica 0).node.refs ≡ after empty updates)

-- a push whose commit was done and whose last vote never came: its storage is in doubt, is settled
-- at the generation that was due, and is accepted after that
abbrev pub SomeAreSettledAndAccepted : Type 0
SomeAreSettledAndAccepted = (updates : Updates) → (doubt settled fenced : State)
    × (IsReached doubt) × ((doubt.replica 0).booking ≡ Doubt 2 0 1)
    × (IsReached settled) × ((settled.replica 0) ≡ booked_at (doubt.replica 0) 1)
    × (IsReached (accepted fenced 0)) × (((accepted fenced 0).replica 0).booking ≡ At 2)
    × (((accepted fenced 0).shared.entry 2).content ≡ Some (after empty updates))
