-- The refusals of a node: which stand for those of the layers below, and which a call may give.
use Rattle.std.specs.Prelude.{◌≡◌, ◌⊎◌, Option, None, Some}
use Rattle.objstore.specs.declared.bundles.BundleFault.{BundleFault}
use Rattle.objstore.specs.declared.bundles.BundleFault.TheVariants as bundle
use Rattle.refstore.specs.declared.prepared.RefRefusal.{RefRefusal}
use Rattle.refstore.specs.declared.prepared.RefRefusal.TheVariants as refs
use Rattle.node_calls.specs.declared.node.NodeError.{NodeError}
use Rattle.node_calls.specs.declared.node.NodeError.TheVariants.{Fault, Memory, Refused}
use Rattle.px_ops.specs.declared.node_refusal.NodeRefusal.{NodeRefusal}
use Rattle.px_ops.specs.declared.node_refusal.NodeRefusal.TheVariants.{Fenced, NoRepo, RepoExists, NotPrepared, VoteDiffers, Empty, Void, Twice, Stale, Conflict, TooManyRefs, Missing, BadObject, Collision}

-- ---- those of the layers below; want of memory is none

-- why objects may not come
abbrev pub of_bundle : Option BundleFault → Option NodeRefusal
of_bundle None = None
of_bundle (Some (bundle.BadObject index at)) = Some (BadObject index at)
of_bundle (Some (bundle.Collision id)) = Some (Collision id)
of_bundle (Some bundle.Memory) = None

-- why updates may not be done
abbrev pub of_updates : Option RefRefusal → Option NodeRefusal
of_updates None = None
of_updates (Some refs.Empty) = Some Empty
of_updates (Some (refs.Void name)) = Some (Void name)
of_updates (Some (refs.Twice name)) = Some (Twice name)
of_updates (Some (refs.Stale name have)) = Some (Stale name have)
of_updates (Some (refs.Conflict name other)) = Some (Conflict name other)
of_updates (Some refs.TooManyRefs) = Some TooManyRefs
of_updates (Some refs.Memory) = None

-- ---- which refusals a call may give, also at a node that tells nothing of what it has

-- the calls; `Read` is each that reads one repository, and `Ask` each that names none
pub data Call : Type 0 where
  Create : Call
  Prepare : Call
  Commit : Call
  Abort : Call
  Fence : Call
  Read : Call
  Apply : Call
  Remove : Call
  Ask : Call

-- why updates may not be done
abbrev pub IsOfUpdates : NodeRefusal → Type 0
IsOfUpdates Empty = Unit {0}
IsOfUpdates (Void name) = Unit {0}
IsOfUpdates (Twice name) = Unit {0}
IsOfUpdates (Stale name have) = Unit {0}
IsOfUpdates (Conflict name other) = Unit {0}
IsOfUpdates TooManyRefs = Unit {0}
IsOfUpdates other = ⊥

-- why objects may not come, or an object is missed
abbrev pub IsOfObjects : NodeRefusal → Type 0
IsOfObjects (BadObject index at) = Unit {0}
IsOfObjects (Collision id) = Unit {0}
IsOfObjects (Missing id) = Unit {0}
IsOfObjects other = ⊥

abbrev pub IsFenced : NodeRefusal → Type 0
IsFenced (Fenced fence) = Unit {0}
IsFenced other = ⊥

-- the verdict is on another hash
abbrev pub IsOfVerdict : NodeRefusal → Type 0
IsOfVerdict (VoteDiffers have) = Unit {0}
IsOfVerdict other = ⊥

-- the refusals of each call
abbrev pub MayRefuse : Call → NodeRefusal → Type 0
MayRefuse Create r = IsFenced r ⊎ (r ≡ RepoExists)
MayRefuse Prepare r = IsFenced r ⊎ (r ≡ NoRepo) ⊎ IsOfObjects r ⊎ IsOfUpdates r
MayRefuse Commit r = IsFenced r ⊎ (r ≡ NoRepo) ⊎ (r ≡ NotPrepared) ⊎ IsOfVerdict r
MayRefuse Abort r = IsFenced r ⊎ (r ≡ NoRepo)
MayRefuse Fence r = r ≡ NoRepo
MayRefuse Read r = r ≡ NoRepo
MayRefuse Apply r = IsFenced r ⊎ IsOfObjects r
MayRefuse Remove r = IsFenced r
MayRefuse Ask r = ⊥

-- a call may always fault or want memory
abbrev pub MayAnswer : Call → NodeError → Type 0
MayAnswer call Fault = Unit {0}
MayAnswer call Memory = Unit {0}
MayAnswer call (Refused r) = MayRefuse call r
