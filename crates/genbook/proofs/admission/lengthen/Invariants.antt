use Rattle.std.proofs.Common.{◌≡◌, ◌++◌, ℕ, List, map, take, drop}
use Rattle.px_cluster.specs.Creating.{with_storage}
use Rattle.genbook.specs.Longer.{longer_for}
use Rattle.genbook.proofs.admission.lengthen.Given as goal

abbrev pub invariant-loop-repository : goal.invariant-loop-repository
invariant-loop-repository l = (virt : List ℕ) (storage : ℕ) → l.initial.longer.items ≡ map (longer_for virt storage) l.initial.repositories
    → (l.repositories ≡ map (with_storage virt storage) (take l.repository-index l.initial.repositories) ++ drop l.repository-index l.initial.repositories)
    × (l.longer.items ≡ map (longer_for virt storage) (drop l.repository-index l.initial.repositories))
