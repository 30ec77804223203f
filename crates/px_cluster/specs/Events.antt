-- What may happen to a cluster, and what is answered to it.
use Rattle.std.specs.Prelude.{ℕ, Option}
use Rattle.px_base.specs.RefList.{References}
use Rattle.px_base.specs.declared.hash.Hash.{Hash}
use Rattle.px_base.specs.declared.ids.TxId.{TxId}
use Rattle.px_base.specs.declared.push.Push.{Push}
use Rattle.px_ops.specs.declared.op.Op.{Op}
use Rattle.px_ops.specs.declared.refusal.Refusal.{Refusal}
use Rattle.px_ops.specs.declared.reply.Reply.{Reply}
use Rattle.px_ops.specs.declared.reply.Reply.TheVariants as reply

-- an operation of the core; a settling with the answer that the node gave to the fence; a delivery to
-- a node, or a reading there; and a restart
pub data Event : Type 0 where
  Asks : (op : Op) → Event
  Settled : (repo storage lease : ℕ) → Event
  Make : (storage repo lease : ℕ) → Event
  Prepare : (tx : TxId) → (storage : ℕ) → (push : Push) → Event
  Commit : (tx : TxId) → (storage : ℕ) → Event
  Abort : (tx : TxId) → (storage : ℕ) → Event
  Refs : (storage repo : ℕ) → Event
  TakeSnapshot : (job lease : ℕ) → Event
  Apply : (job lease : ℕ) → Event
  Remove : (job lease : ℕ) → Event
  Fence : (storage repo lease : ℕ) → Event
  Restart : Event

-- the reply of the core, or a refusal; that a call was done; the vote of a node; its references; how
-- many references and objects a snapshot has; and the last lease that a node committed
pub data Answer : Type 0 where
  Replied : Reply → Answer
  Delivered : Answer
  Voted : Hash → Answer
  RefsAre : References → Answer
  SnapshotIs : (refs objects : ℕ) → Answer
  LastIs : Option ℕ → Answer

abbrev pub refused : Refusal → Answer
refused why = Replied (reply.Refused why)
