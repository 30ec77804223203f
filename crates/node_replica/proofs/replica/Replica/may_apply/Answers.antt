-- The ids of a snapshot have 20 bytes.
use Rattle.std.proofs.Common.{subst}
use Rattle.std.specs.List.{AllByRecursion}
use Rattle.std.specs.Map.{values_of}
use Rattle.px_base.specs.Hash.{IsHash}
use Rattle.px_base.specs.RefList.{References}
use Rattle.node_replica.proofs.HashLemmas.{NameHashes-values}
use Rattle.node_replica.proofs.replica.Replica.may_apply.Goals as goal

pub returns-clause-ids : goal.returns-clause-ids
returns-clause-ids c =
    NameHashes-values c.args.snapshot.now.refs
    (subst (λ (r : References). AllByRecursion IsHash (values_of r)) c.as_slice-2.ensures.value
    c.in_ok-tips.ensures.ids)
