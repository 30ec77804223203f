-- One object more came; all that came are kept.
use Rattle.std.proofs.Common.{◌≡◌, ◌+◌, ◌++◌, ◌∷◌, [], List, drop, map, ap, sym, ◌∙◌, arith, append_assoc}
use Rattle.std.proofs.lemmas.List.{append-nil, drop_all}
use Rattle.px_base.specs.Object.{GitObject}
use Rattle.px_base.specs.declared.hash.Hash.{Hash}
use Rattle.objstore.proofs.BundleLemmas.{bundle_fault-both}
use Rattle.objstore.proofs.Moved.{AreKept-came, came_back}
use Rattle.objstore.proofs.Places.{drop-next}
use Rattle.objstore.specs.Bundle.{bundle_fault, with_objects}
use Rattle.objstore.specs.Entries.{Entries, own_name}
use Rattle.objstore.proofs.quarantine.Quarantine.of.Goals as goal

pub loop-index-preserved : goal.loop-index-preserved
loop-index-preserved c =
    let at = c.loop-index.index in
    let objects = c.args.objects.now in
    let object = c.index-objects-index.result in
    let rest = drop (at + 1) objects in
    let left : drop at objects ≡ object ∷ rest =
    drop-next objects at object (omega arith) c.index-objects-index.is in
    record {
      made = ap (λ (s : Entries). with_objects s rest) c.in_ok-id.ensures.ok
          ∙ ap (with_objects c.loop-index.extra) (sym left) ∙ c.loop-index.invariant.made;
      names = ap (λ (ids : List Hash). ids ++ map own_name rest) c.in_ok-push.ensures.ok
          ∙ append_assoc c.loop-index.ids (c.in_ok-id.id ∷ []) (map own_name rest)
          ∙ ap (λ (id : Hash). c.loop-index.ids ++ id ∷ map own_name rest) c.in_ok-id.ensures.value
          ∙ ap (λ (l : List GitObject). c.loop-index.ids ++ map own_name l) (sym left)
          ∙ c.loop-index.invariant.names;
      fault = ap (λ (s : Entries). bundle_fault (c.args.store.now ++ s) (at + 1) rest)
          c.in_ok-id.ensures.ok
          ∙ bundle_fault-both c.args.store.now c.loop-index.extra at object rest
          c.in_ok-id.ensures.accepted
          ∙ ap (bundle_fault (c.args.store.now ++ c.loop-index.extra) at) (sym left)
          ∙ c.loop-index.invariant.fault;
    }

pub invariant_of-result : goal.invariant_of-result
invariant_of-result c =
    let at = c.loop-index.index in
    let objects = c.args.objects.now in
    let ids = c.loop-index.ids in
    let store = c.args.store.now ++ c.loop-index.extra in
    let done : drop at objects ≡ [] = drop_all at objects (omega arith) in
    AreKept-came c.args.store.now ids c.loop-index.extra objects
    (sym c.loop-index.invariant.fault ∙ ap (bundle_fault store at) done)
    (sym (append-nil ids) ∙ ap (λ (l : List GitObject). ids ++ map own_name l) (sym done)
    ∙ c.loop-index.invariant.names)
    (ap (with_objects c.loop-index.extra) (sym done) ∙ c.loop-index.invariant.made)

pub returns-clause-ok : goal.returns-clause-ok
returns-clause-ok c =
    let at = c.loop-index.index in
    let objects = c.args.objects.now in
    let ids = c.loop-index.ids in
    let store = c.args.store.now ++ c.loop-index.extra in
    let done : drop at objects ≡ [] = drop_all at objects (omega arith) in
    came_back c.args.store.now ids c.loop-index.extra objects
    (sym c.loop-index.invariant.fault ∙ ap (bundle_fault store at) done)
    (sym (append-nil ids) ∙ ap (λ (l : List GitObject). ids ++ map own_name l) (sym done)
    ∙ c.loop-index.invariant.names)
    (ap (with_objects c.loop-index.extra) (sym done) ∙ c.loop-index.invariant.made)
