-- What is true of the transactions of every script, by what is true of them over moves.
use Rattle.std.proofs.Common.{◌≡◌, ◌⊎◌, ◌≤◌, ℕ, List, Option, None, Some, refl, sym, ◌∙◌, subst, inl, inr}
use Rattle.std.specs.Option.{option_and_then}
use Rattle.px_base.specs.declared.ids.TxId.{TxId}
use Rattle.txmanager.proofs.CarryLemmas.{acts_step, opened_chain}
use Rattle.txmanager.proofs.LawLemmas.{chain_at}
use Rattle.txmanager.specs.Chain.{IsChain}
use Rattle.txmanager.specs.Readings.{outcome_in}
use Rattle.txmanager.specs.Rounds.{opened}
use Rattle.txmanager.specs.Voting.{Voting}
use Rattle.voters.specs.Sub.{IsSound}
use Rattle.voters.specs.Votes.{Votes}
use Rattle.voters.specs.declared.outcome.Outcome.{Outcome}
use Rattle.px_cluster.specs.Cluster.{Cluster, empty}
use Rattle.px_cluster.specs.Core.{voting}
use Rattle.px_script.specs.declared.event.Event.{Event}
use Rattle.vote_runs.proofs.Outcomes.{outcomes_stay as stay}
use Rattle.vote_runs.proofs.Transactions.{transactions_are_of_polls, transactions_go_on_by_acts}
use Rattle.vote_runs.specs.Acts.{IsOfPoll}
use Rattle.script_rules.specs.Laws.{AreInOrder, HasVotes, NumbersAreGivenOnce, OutcomesStay, QuorumsNameHashes, ThresholdsAreMost}
use Rattle.script_rules.specs.Scripts.{LeadsTo}
use Rattle.script_rules.specs.declared.answer.Answer.{Answer}
use Rattle.script_rules.proofs.ScriptMoves.{no_nodes, run_moves}

-- ---- two states of one script

module _ (old new : Cluster) (tx : TxId) (states : AreInOrder old new) where
  stays_in : (sub : ℕ) (outcome : Outcome) → (outcome ≡ Outcome.Open → ⊥)
      → (before now : Option Voting) → voting old.core tx ≡ before → voting new.core tx ≡ now
      → option_and_then (λ vote. outcome_in sub vote.subs) before ≡ Some outcome
      → (now ≡ None) ⊎ (option_and_then (λ vote. outcome_in sub vote.subs) now ≡ Some outcome)
  stays_in sub outcome fixed None now was is at = absurd (cc)
  stays_in sub outcome fixed (Some before) None was is at = inl refl
  stays_in sub outcome fixed (Some before) (Some now) was is at =
      let first = run_moves empty old states.first states.answers states.to in
      let second = run_moves old new states.more states.others states.on in
      inr (stay no_nodes first.moves second.moves old new tx before now sub outcome first.on
      second.on was is fixed at)

  given_once : tx.0 ≤ old.core.last_tx → voting old.core tx ≡ None → (now : Option Voting)
      → voting new.core tx ≡ now → now ≡ None
  given_once given none None is = refl
  given_once given none (Some now) is =
      let first = run_moves empty old states.first states.answers states.to in
      let second = run_moves old new states.more states.others states.on in
      let was = transactions_go_on_by_acts no_nodes first.moves second.moves old new tx now first.on
      second.on given is in
      absurd (let z : None ≡ Some was.before = sym none ∙ was.there in cc)

pub outcomes_stay : OutcomesStay
outcomes_stay old new tx sub outcome states fixed at =
    stays_in old new tx states sub outcome fixed (voting old.core tx) (voting new.core tx) refl refl at

pub numbers_are_given_once : NumbersAreGivenOnce
numbers_are_given_once old new tx states given none =
    given_once old new tx states given none (voting new.core tx) refl

-- ---- one state

-- the subtransactions of a transaction are what acts make of their opening
chain_of : (vote : Voting) → IsOfPoll vote → IsChain vote.subs
chain_of vote is = subst IsChain (sym is.subs)
    (acts_step is.acts (opened is.poll is.count) (opened_chain is.poll is.count is.lawful)).chain

sound_votes : (asked : List Event) (answers : List Answer) (new : Cluster) (tx : TxId) (place : ℕ)
    (sub : Votes) → LeadsTo asked answers new → HasVotes new tx place sub → IsSound sub
sound_votes asked answers new tx place sub run has =
    let moves = run_moves empty new asked answers run in
    let is = transactions_are_of_polls no_nodes moves.moves new tx has.vote moves.on has.on_record in
    chain_at has.vote.subs place sub (chain_of has.vote is) has.there

pub quorums_name_hashes : QuorumsNameHashes
quorums_name_hashes asked answers new tx place sub hash run has commits =
    (sound_votes asked answers new tx place sub run has).leads hash commits

pub thresholds_are_most : ThresholdsAreMost
thresholds_are_most asked answers new tx place sub run has =
    (sound_votes asked answers new tx place sub run has).most
