-- What a call on a transaction makes of the core, and the reply to it.
use Rattle.std.proofs.Common.{◌≡◌, ◌∙◌, ◌==◌, ℕ, List, true, false, is_some, Option, None, Some, Result, Ok, Err, OnErr, refl, sym, ap, subst}
use Rattle.std.specs.Option.{option_or}
use Rattle.px_base.specs.declared.ids.TxId.{TxId}
use Rattle.px_ops.specs.declared.op.Op.TheVariants as op
use Rattle.px_ops.specs.declared.refusal.Refusal.TheVariants as refusal
use Rattle.px_ops.specs.declared.reply.Reply.TheVariants as reply
use Rattle.txmanager.specs.Registry.{Registry, answer_at, with_changed, without_transaction}
use Rattle.txmanager.specs.Voting.{Voting, done}
use Rattle.txmanager.specs.declared.refusal.TxRefusal.{TxRefusal}
use Rattle.px_cluster.specs.Core.{Core, OpenPush, push_of, voting, with_push_changed}
use Rattle.px_cluster.specs.Ops.{is_push, refusal_of, refused_at, reply_of, unless_refused, with_voting}
use Rattle.px_cluster.specs.Pushes.{ended}
use Rattle.px_cluster.specs.Refusals.{refusal_in}
use Rattle.cluster_form.specs.Form.{IsFormed}
use Rattle.cluster_form.specs.Turns.{IsTurn}
use Rattle.cluster_form.proofs.Lists.{all_find, same_number}
use Rattle.px_core.proofs.Tables.{none_ends}

module _ {A : Type 0} (core : Core) (tx : TxId) (answer : Voting → Result A TxRefusal)
    (becomes : Voting → Voting) where
  -- the core with these transactions
  abbrev with : Registry → Core
  with transactions = record core { transactions = transactions }

  -- a call that answers so, and changes nothing where it refuses, leaves what the operation leaves
  pub call_leads : (result : Result A TxRefusal) (new : Registry)
      → result ≡ answer_at (voting core tx) tx answer
      → new ≡ with_changed core.transactions tx becomes
      → OnErr result (new ≡ core.transactions)
      → with new ≡ unless_refused (refused_at core tx answer) core (with_voting tx becomes core)
  call_leads result new is state same =
      subst (λ (r : Result A TxRefusal). with new
      ≡ unless_refused (refusal_in r) core (with_voting tx becomes core)) is (by result same)
    where
      by : (r : Result A TxRefusal) → OnErr r (new ≡ core.transactions)
          → with new ≡ unless_refused (refusal_in r) core (with_voting tx becomes core)
      by (Ok a) same_ = ap with state
      by (Err why) same_ = ap with same_

  -- .. and where it is done, a push is marked
  pub mark_leads : (change : OpenPush → OpenPush) (result : Result A TxRefusal) (a : A)
      (new : Registry) (pushes : List OpenPush) → result ≡ answer_at (voting core tx) tx answer
      → result ≡ Ok a → new ≡ with_changed core.transactions tx becomes
      → pushes ≡ (with_push_changed tx change core).pushes
      → record core { transactions = new; pushes = pushes }
      ≡ unless_refused (refused_at core tx answer) core
      (with_push_changed tx change (with_voting tx becomes core))
  mark_leads change result a new pushes is ok state marked =
      subst (λ (r : Result A TxRefusal). record core { transactions = new; pushes = pushes }
      ≡ unless_refused (refusal_in r) core
      (with_push_changed tx change (with_voting tx becomes core))) (sym ok ∙ is)
      (λ i. record core { transactions = state i; pushes = marked i })

-- ---- the end of a transaction that is no push

module _ (core : Core) (tx : TxId) where
  -- where it is no push, none of the pushes ends with it
  pub close_leads : push_of core tx ≡ None → (result : Result (Unit {0}) TxRefusal) (new : Registry)
      → result ≡ answer_at (voting core tx) tx done
      → new ≡ without_transaction core.transactions tx
      → OnErr result (new ≡ core.transactions)
      → record core { transactions = new }
      ≡ unless_refused (refusal_of core (op.Close tx)) core (ended tx core)
  close_leads none result new is state same =
      subst (λ (there : Option OpenPush). record core { transactions = new }
      ≡ unless_refused (option_or (refused_at core tx done) (is_push there)) core (ended tx core))
      (sym none) (subst (λ (r : Result (Unit {0}) TxRefusal). record core { transactions = new }
      ≡ unless_refused (option_or (refusal_in r) None) core (ended tx core)) is (by result same))
    where
      by : (r : Result (Unit {0}) TxRefusal) → OnErr r (new ≡ core.transactions)
          → record core { transactions = new }
          ≡ unless_refused (option_or (refusal_in r) None) core (ended tx core)
      by (Ok a) same_ = λ i. record core {
        transactions = state i;
        pushes = sym (none_ends tx core.pushes none) i;
      }
      by (Err why) same_ = λ i. record core { transactions = same_ i }

  -- the transaction of a push is on record, and refused as one
  pub push_refused : IsFormed core → (there : Option OpenPush) → push_of core tx ≡ there
      → is_some there ≡ true → reply_of core (op.Close tx) ≡ reply.Refused refusal.IsPush
  push_refused form None none some = absurd (let z : false ≡ true = some in cc)
  push_refused form (Some push) found some =
      let all = all_find (IsTurn core.storages core.transactions core.last_tx)
      (λ (p : OpenPush). p.tx.0 == tx.0) core.pushes push form.turns.each found in
      let same : push.tx ≡ tx = ap (λ (n : ℕ). let t : TxId = record { 0 = n } in t)
      (same_number push.tx.0 tx.0 all.1) in
      let registered : voting core tx ≡ Some all.0.vote =
      subst (λ (t : TxId). voting core t ≡ Some all.0.vote) same all.0.registered in
      rw (registered, found) refl
