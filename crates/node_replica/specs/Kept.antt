-- What a keeper's rows are once a batch was kept, where the keeper tells them.
use Rattle.std.specs.Prelude.{◌≡◌, List, Option}
use Rattle.std.specs.Option.{option_map}
use Rattle.px_keeper.specs.Change.{applied}
use Rattle.px_keeper.specs.Row.{Rows}
use Rattle.px_keeper.specs.declared.change.Change.{Change}

-- the batch was kept
abbrev pub Keeps : List Change → Option Rows → Option Rows → Type 0
Keeps batch old new = new ≡ option_map (λ rows. applied rows batch) old
