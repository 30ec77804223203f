-- A transaction that goes, with its push, and a restart, with which all go.
use Rattle.std.proofs.Common.{◌≡◌, ◌==◌, ℕ, not, true, false, Option, None, Some, refl, sym, ◌∙◌, ap, subst, inl, inr}
use Rattle.px_base.specs.declared.ids.TxId.{TxId}
use Rattle.txmanager.proofs.RegistryLemmas.{other_closed}
use Rattle.px_cluster.specs.Cluster.{Cluster}
use Rattle.px_cluster.specs.Core.{Core, OpenPush, restarted, turn_of}
use Rattle.px_cluster.specs.Pushes.{ended}
use Rattle.cluster_form.specs.Turns.{AreInOrder}
use Rattle.cluster_form.proofs.Lists.{choose, same_self}
use Rattle.cluster_history.specs.Goes.{GoesOn}
use Rattle.cluster_history.specs.History.{Whole}
use Rattle.cluster_history.specs.Remembered.{is_refused}
use Rattle.cluster_history.specs.Seen.{seen_turn}
use Rattle.push_steps.specs.Steps.{CloseGoesOn, FinishGoesOn, RestartGoesOn}
use Rattle.push_steps.proofs.Turns.{StaysOrEnds, found_before, turn_with, turns_go}

-- ---- a transaction goes

module _ (whole : Whole) (tx : TxId) (order : AreInOrder whole.cluster.core.pushes) where
  abbrev core : Core
  core = whole.cluster.core

  -- a push that is left is of another transaction
  another : (push : OpenPush) → not (push.tx.0 == tx.0) ≡ true → push.tx ≡ tx → ⊥
  another push left same = let number = ap (λ (t : TxId). t.0) same in
      let here : (push.tx.0 == tx.0) ≡ true = rw number (same_self tx.0) in
      let z : false ≡ true = rw here at left in cc

  -- a turn that is left was there before
  by : (repo : ℕ) (there : Option OpenPush) → turn_of (ended tx core) repo ≡ there
      → StaysOrEnds whole (ended tx core) refl repo
  by repo None is = inr is
  by repo (Some push) is =
      let before = found_before (λ (p : OpenPush). not (p.tx.0 == tx.0)) repo core.pushes push order
      is in inl (ap (seen_turn (ended tx core)) is
      ∙ ap (turn_with push) (other_closed core.transactions tx push.tx (another push before.1))
      ∙ sym (ap (seen_turn core) before.0))

  -- so each goes on
  ended_goes : GoesOn whole (record whole {
    cluster = record whole.cluster { core = ended tx core };
  })
  ended_goes = turns_go whole (ended tx core) refl
      (λ repo. by repo (turn_of (ended tx core) repo) refl)

pub finish_goes : FinishGoesOn
finish_goes tx whole sound none = ended_goes whole tx sound.form.core.turns.order

pub close_goes : CloseGoesOn
close_goes tx whole sound none = ended_goes whole tx sound.form.core.turns.order

-- ---- a restart

-- whatever is answered, nothing is remembered
pub restart_goes : RestartGoesOn
restart_goes whole answer new sound one step = choose
    (λ history. GoesOn whole (record { cluster = new; history = history })) (is_refused answer)
    whole.history whole.history (λ refused. goes) (λ done. goes)
  where
    goes : GoesOn whole (record { cluster = new; history = whole.history })
    goes = subst (λ (c : Cluster). GoesOn whole (record {
      cluster = c;
      history = whole.history;
    })) (sym step.leads) (turns_go whole (restarted whole.cluster.core) refl (λ repo. inr refl))
