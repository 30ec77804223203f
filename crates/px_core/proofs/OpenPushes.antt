-- What is so of an open push.
use Rattle.std.proofs.Common.{◌≡◌, ◌∙◌, ◌<◌, ◌-◌, ◌^◌, ◌==◌, ℕ, Bool, List, None, Some, ap}
use Rattle.px_base.specs.declared.ids.TxId.{TxId}
use Rattle.px_ops.specs.declared.op.Op.TheVariants as op
use Rattle.txmanager.specs.Registry.{Registry, without_transaction}
use Rattle.px_cluster.specs.Book.{Repository}
use Rattle.px_cluster.specs.Core.{Core, OpenPush, push_of, repository, voting}
use Rattle.px_cluster.specs.Ops.{next_core}
use Rattle.px_cluster.specs.Pushes.{ended, finish_refusal}
use Rattle.cluster_form.specs.Left.{IsLeft}
use Rattle.cluster_form.specs.Within.{IsPushWithin}
use Rattle.cluster_form.proofs.Lists.{all_find, same_number}
use Rattle.px_core.specs.Sound.{AreBegun, IsSound}

-- it did not begin at the last generation
pub begun_below : (core : Core) → AreBegun core → (tx : TxId) (push : OpenPush)
    → push_of core tx ≡ Some push → push.begun < 2 ^ 64 - 1
begun_below core begun tx push found = (all_find (λ (p : OpenPush). p.begun < 2 ^ 64 - 1)
    (λ (p : OpenPush). p.tx.0 == tx.0) core.pushes push begun found).0

-- where nothing refuses its end, the transaction goes, and the turn is free
pub finish_leads : (core : Core) (tx : TxId) (transactions : Registry) (pushes : List OpenPush)
    → finish_refusal tx (voting core tx) (push_of core tx) ≡ None
    → transactions ≡ without_transaction core.transactions tx
    → pushes ≡ (ended tx core).pushes
    → record core { transactions = transactions; pushes = pushes } ≡ next_core core (op.Finish tx)
finish_leads core tx transactions pushes none gone free =
    rw none (λ i. record core { transactions = gone i; pushes = free i })

-- ---- the push of a transaction

-- its transaction is that one, its repository is on record, and a generation is left for it as long
-- as it is not decided
pub record IsOpen (core : Core) (tx : TxId) (push : OpenPush) : Type 0 where
  pub same : push.tx ≡ tx
  pub of_tx : push_of core push.tx ≡ Some push
  pub book : Repository
  pub there : repository core push.repo ≡ Some book
  pub left : IsLeft core push

pub open_push : (core : Core) → IsSound core → (tx : TxId) (push : OpenPush)
    → push_of core tx ≡ Some push → IsOpen core tx push
open_push core sound tx push found =
    let test : OpenPush → Bool = λ p. p.tx.0 == tx.0 in
    let within = all_find (IsPushWithin core.repositories) test core.pushes push
    sound.form.within.pushes found in
    let same : push.tx ≡ tx = ap (λ (n : ℕ). let t : TxId = record { 0 = n } in t)
    (same_number push.tx.0 tx.0 within.1) in
    record {
      same = same;
      of_tx = ap (push_of core) same ∙ found;
      book = within.0.book;
      there = within.0.there;
      left = (all_find (IsLeft core) test core.pushes push sound.left found).0;
    }
