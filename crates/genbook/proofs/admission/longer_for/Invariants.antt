use Rattle.std.proofs.Common.{◌≡◌, map, take}
use Rattle.genbook.specs.Longer.{longer_for}
use Rattle.genbook.proofs.admission.longer_for.Given as goal

abbrev pub invariant-loop-repository : goal.invariant-loop-repository
invariant-loop-repository l = l.longer.items ≡ map (longer_for l.virt l.storage.0) (take l.repository-index l.repositories)
