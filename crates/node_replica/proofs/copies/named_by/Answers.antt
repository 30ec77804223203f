-- One id more.
use Rattle.std.proofs.Common.{◌+◌, ◌++◌, ◌∷◌, [], List, drop, ap, sym, ◌∙◌, subst, append_assoc, arith}
use Rattle.std.specs.List.{AllByRecursion}
use Rattle.std.specs.Map.{values_of}
use Rattle.px_base.specs.RefList.{References}
use Rattle.px_base.specs.declared.hash.Hash.{Hash}
use Rattle.objstore.proofs.Places.{drop-next}
use Rattle.px_base.specs.Hash.{IsHash}
use Rattle.node_rows.proofs.RowLemmas.{all_append}
use Rattle.node_replica.proofs.copies.named_by.Goals as goal

pub loop-id-preserved : goal.loop-id-preserved
loop-id-preserved c =
    let ids = c.loop-id.ids in
    let ref = c.loop-id-item.result in
    let rest = drop (c.loop-id.id-index + 1) c.args.refs.now in
    record {
      all = ap (λ (made : List Hash). made ++ values_of rest) c.in_ok-push.ensures.ok
          ∙ append_assoc ids (ref.1 ∷ []) (values_of rest)
          ∙ ap (λ (left : References). ids ++ values_of left)
          (sym (drop-next c.args.refs.now c.loop-id.id-index ref (omega arith) c.loop-id-item.is))
          ∙ c.loop-id.invariant.all;
      ids = subst (AllByRecursion IsHash) (sym c.in_ok-push.ensures.ok)
          (all_append IsHash ids (ref.1 ∷ []) c.loop-id.invariant.ids (c.as_bytes-bytes.ensures.hash, tt));
    }
