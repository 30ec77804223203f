-- What is so of the core after every list of operations.
use Rattle.std.specs.Prelude.{◌<◌, ◌-◌, ◌^◌}
use Rattle.std.specs.List.{AllByRecursion}
use Rattle.px_cluster.specs.Core.{Core, OpenPush}
use Rattle.cluster_form.specs.Form.{IsFormed}
use Rattle.cluster_form.specs.Left.{AreLeft}
use Rattle.px_core.specs.Few.{AreFew}

-- a push did not begin at the last generation, so there is the one that it makes
abbrev pub AreBegun : Core → Type 0
AreBegun core = AllByRecursion (λ (push : OpenPush). push.begun < 2 ^ 64 - 1) core.pushes

-- its data has the form that the rules keep; a generation is left for each push that is not
-- decided; and a virtual storage has at most 64 storages
pub record IsSound (core : Core) : Type 0 where
  pub form : IsFormed core
  pub left : AreLeft core
  pub begun : AreBegun core
  pub few : AreFew core
