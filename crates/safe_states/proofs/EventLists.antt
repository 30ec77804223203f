-- One list of events after another.
use Rattle.replica_invariant.specs.State.{State}
use Rattle.safe_states.specs.Grows.{LeadsTo, Stays, Then}
use Rattle.safe_states.specs.Happens.{Goes, IsReached}

-- two lists, one after the other, are a list
pub leads_on : (a b c : State) → LeadsTo a b → LeadsTo b c → LeadsTo a c
leads_on a _ _ first (Stays _) = first
leads_on a _ _ first (Then b between c more last) =
    Then a between c (leads_on a b between first more) last

-- a list leads from a state that is reached to one that is
pub reached_on : (a b : State) → IsReached a → LeadsTo a b → IsReached b
reached_on _ _ reached (Stays _) = reached
reached_on _ _ reached (Then a between b events last) =
    Goes between b (reached_on a between reached events) last
