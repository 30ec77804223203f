-- What is true of every script, whatever its lines are.
use Rattle.std.specs.Prelude.{◌≡◌, ◌≢◌, ◌⊎◌, ◌++◌, ◌*◌, ◌<◌, ◌≤◌, ℕ, List, slice_get, Option, None, Some}
use Rattle.std.specs.Option.{option_and_then}
use Rattle.px_base.specs.declared.hash.Hash.{Hash}
use Rattle.px_base.specs.declared.ids.TxId.{TxId}
use Rattle.txmanager.specs.Readings.{outcome_in}
use Rattle.txmanager.specs.Voting.{Voting}
use Rattle.voters.specs.Marks.{standing_weight, total_weight}
use Rattle.voters.specs.Votes.{Votes}
use Rattle.voters.specs.declared.outcome.Outcome.{Outcome}
use Rattle.px_cluster.specs.Cluster.{Cluster}
use Rattle.px_cluster.specs.Core.{Core, voting}
use Rattle.px_script.specs.declared.event.Event.{Event}
use Rattle.script_run.specs.Machine.{events}
use Rattle.script_run.specs.Script.{AllAsk}
use Rattle.cluster_runs.specs.Safe.{AreSafeTogether}
use Rattle.script_rules.specs.Machine.{machine}
use Rattle.script_rules.specs.Prepared.{AreLawful, HaveOneList}
use Rattle.script_rules.specs.Scripts.{IsRunOf, LeadsOn, LeadsTo}
use Rattle.script_rules.specs.declared.answer.Answer.{Answer}

-- ---- runs

-- what lines ask for is one list
abbrev pub LinesAreOne : Type 0
LinesAreOne = (lines : List (List ℕ)) (asked others : List (Option Event))
    → AllAsk machine asked lines → AllAsk machine others lines → asked ≡ others

-- a text has one run: one list of answers, and one cluster that it leads to
abbrev pub ScriptIsOne : Type 0
ScriptIsOne = (text : List ℕ) (answers others : List Answer) (new other : Cluster)
    → IsRunOf text answers new → IsRunOf text others other → (answers ≡ others) × (new ≡ other)

-- two states of one script, the one before the other
pub record AreInOrder (old new : Cluster) : Type 0 where
  pub first : List Event
  pub answers : List Answer
  pub to : LeadsTo first answers old
  pub more : List Event
  pub others : List Answer
  pub on : LeadsOn old more others new

-- ---- transactions

-- the outcome of a subtransaction, counted from 0, of a transaction, where there are such ones
abbrev pub outcome_at : Core → TxId → ℕ → Option Outcome
outcome_at core tx sub = option_and_then (λ vote. outcome_in sub vote.subs) (voting core tx)

-- once fixed, an outcome is the same in every later state in which the transaction is on record
abbrev pub OutcomesStay : Type 0
OutcomesStay = (old new : Cluster) (tx : TxId) (sub : ℕ) (outcome : Outcome) → AreInOrder old new
    → outcome ≢ Outcome.Open → outcome_at old.core tx sub ≡ Some outcome
    → (voting new.core tx ≡ None) ⊎ (outcome_at new.core tx sub ≡ Some outcome)

-- a number that was given and whose transaction is on record no more is given to none again
abbrev pub NumbersAreGivenOnce : Type 0
NumbersAreGivenOnce = (old new : Cluster) (tx : TxId) → AreInOrder old new
    → tx.0 ≤ old.core.last_tx → voting old.core tx ≡ None → voting new.core tx ≡ None

-- a subtransaction of a transaction on record
pub record HasVotes (cluster : Cluster) (tx : TxId) (place : ℕ) (sub : Votes) : Type 0 where
  pub vote : Voting
  pub on_record : voting cluster.core tx ≡ Some vote
  pub there : slice_get vote.subs place ≡ Some sub

-- standing votes of threshold weight name the hash that a subtransaction commits
abbrev pub QuorumsNameHashes : Type 0
QuorumsNameHashes = (asked : List Event) (answers : List Answer) (new : Cluster) (tx : TxId)
    (place : ℕ) (sub : Votes) (hash : Hash) → LeadsTo asked answers new → HasVotes new tx place sub
    → sub.outcome ≡ Outcome.Commit hash → sub.threshold ≤ standing_weight hash sub.marks

-- a threshold is above half of the weight of all voters
abbrev pub ThresholdsAreMost : Type 0
ThresholdsAreMost = (asked : List Event) (answers : List Answer) (new : Cluster) (tx : TxId)
    (place : ℕ) (sub : Votes) → LeadsTo asked answers new → HasVotes new tx place sub
    → total_weight sub.marks < 2 * sub.threshold

-- ---- the cluster

-- Under the one premise on hashes every state of a script is safe, and goes on to every later one.
abbrev pub EveryStateIsSafe : Type 0
EveryStateIsSafe = (old new : Cluster) (states : AreInOrder old new)
    → AreLawful (states.first ++ states.more) → HaveOneList (states.first ++ states.more)
    → AreSafeTogether old new

-- the updates that lines ask for are such as the type of pushes keeps them
abbrev pub LinesAreLawful : Type 0
LinesAreLawful = (lines : List (List ℕ)) (asked : List (Option Event))
    → AllAsk machine asked lines → AreLawful (events asked)
