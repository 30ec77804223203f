-- Transactions by their value: the subtransactions in their order, over one panel.
-- Each act on a transaction is one step of that list.
use Rattle.std.specs.Prelude.{ℕ, zero, suc, ◌+◌, Bool, true, false, ◌||◌, if◌then◌else◌, List, [], ◌∷◌, length, map, replicate, slice_get, None, Some, Option}
use Rattle.px_base.specs.declared.hash.Hash.{Hash}
use Rattle.voters.specs.Calls.{Call, all_canceled, called}
use Rattle.voters.specs.Calls as call
use Rattle.voters.specs.Refusals.{is_stopped}
use Rattle.voters.specs.Results.{committed_in, result_of}
use Rattle.voters.specs.Votes.{Poll, Votes, after, changed_at, start}
use Rattle.voters.specs.declared.act.Act.TheVariants as act
use Rattle.voters.specs.declared.mark.Mark.{Mark}
use Rattle.voters.specs.declared.voter_result.VoterResult.{VoterResult}
use Rattle.voters.specs.declared.voter_result.VoterResult.TheVariants as result

-- what is done to a transaction; a voter is its number in the panel
pub data TxAct : Type 0 where
  Cast : (voter : ℕ) → (hash : Hash) → TxAct
  CancelVoter : (voter : ℕ) → TxAct
  Cancel : TxAct
  Stop : TxAct

-- before any act, each of so many subtransactions is open
abbrev pub opened : Poll → ℕ → List Votes
opened poll n = replicate n (start poll)

-- A voter's current subtransaction is the first in which it is not committed.
-- This is how many stand in front of it: all, where the voter is committed in each.
abbrev pub current : ℕ → List Votes → ℕ
current voter [] = 0
current voter (sub ∷ later) = if committed_in voter sub then suc (current voter later) else 0

-- the subtransaction, stopped where it is open
abbrev pub stopped : Votes → Votes
stopped sub = called sub call.Stop

-- What an act does itself. A cast and a cancel of a voter count in its current subtransaction, a
-- stop in each open one, and a cancel in each one for the voters that are undecided there.
abbrev pub acted : TxAct → List Votes → List Votes
acted (Cast voter hash) subs =
    changed_at (current voter subs) (λ sub. after sub (act.Cast voter hash)) subs
acted (CancelVoter voter) subs =
    changed_at (current voter subs) (λ sub. after sub (act.Cancel voter)) subs
acted Cancel subs = map all_canceled subs
acted Stop subs = map stopped subs

-- failed, canceled or stopped
abbrev pub is_out : VoterResult → Bool
is_out result.Open = false
is_out (result.Committed verdict) = false
is_out result.Failed = true
is_out result.Canceled = true
is_out result.Stopped = true

-- the voters that failed, were canceled or were stopped, of those from number i on
abbrev pub out_from : Votes → ℕ → List Mark → List ℕ
out_from sub i [] = []
out_from sub i (mark ∷ marks) =
    if is_out (result_of sub mark) then i ∷ out_from sub (i + 1) marks
    else out_from sub (i + 1) marks

-- the voters that failed, were canceled or were stopped, in the order of the panel
abbrev pub out_of : Votes → List ℕ
out_of sub = out_from sub 0 sub.marks

-- the voter has a cancel, or there is no such voter
abbrev pub is_gone : Option Mark → Bool
is_gone None = true
is_gone (Some mark) = mark.canceled

-- the subtransaction with the voter canceled, where it is not stopped and has no cancel of it
abbrev pub without : ℕ → Votes → Votes
without voter sub =
    if is_stopped sub.outcome || is_gone (slice_get sub.marks voter) then sub
    else after sub (act.Cancel voter)

-- the same of each voter of a list
abbrev pub without_all : List ℕ → Votes → Votes
without_all [] sub = sub
without_all (voter ∷ voters) sub = without_all voters (without voter sub)

-- From the first to the last of n subtransactions: who is out of it is canceled in each later one
-- that is not stopped.
abbrev pub carried_over : ℕ → List Votes → List Votes
carried_over zero subs = subs
carried_over (suc n) [] = []
carried_over (suc n) (sub ∷ later) =
    sub ∷ carried_over n (map (without_all (out_of sub)) later)

-- the same, from the first to the last of all
abbrev pub carried : List Votes → List Votes
carried subs = carried_over (length subs) subs

-- an act, and then the carrying over
abbrev pub after_act : List Votes → TxAct → List Votes
after_act subs act = carried (acted act subs)

-- what a list of acts leaves
abbrev pub after_acts : List TxAct → List Votes → List Votes
after_acts [] subs = subs
after_acts (act ∷ acts) subs = after_acts acts (after_act subs act)
