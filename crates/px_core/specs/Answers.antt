-- What is replied where a transaction does what it is asked, or refuses it.
use Rattle.std.specs.Prelude.{Result}
use Rattle.px_ops.specs.declared.reply.Reply.{Reply}
use Rattle.px_ops.specs.declared.reply.Reply.TheVariants as reply
use Rattle.txmanager.specs.declared.refusal.TxRefusal.{TxRefusal}
use Rattle.px_cluster.specs.Ops.{told}
use Rattle.px_cluster.specs.Refusals.{refusal_in}

abbrev pub done : Result (Unit {0}) TxRefusal → Reply
done answer = told (refusal_in answer) reply.Done
