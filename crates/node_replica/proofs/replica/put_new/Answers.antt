-- The store has one object more.
use Rattle.std.proofs.Common.{subst}
use Rattle.objstore.specs.Put.{Puts}
use Rattle.node_replica.proofs.AddedLemmas.{added_is}
use Rattle.node_replica.proofs.replica.put_new.Goals as goal

pub returns-in-Ok-Added-clause-ok : goal.returns-in-Ok-Added-clause-ok
returns-in-Ok-Added-clause-ok c =
    let store = c.args.store.now in
    let object = c.args.object.now in
    added_is store c.put.new.self object c.len-count.ensures.store c.in-Ok-Added.ensures.store
    (subst (Puts store c.put.new.self object) c.in-Ok-Added.field-0-is c.in-Ok-Added.ensures.ok)
