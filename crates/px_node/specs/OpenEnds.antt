-- How a node is opened over the rows of a keeper.
use Rattle.std.specs.Prelude.{◌≡◌, Option, Some}
use Rattle.px_keeper.specs.Row.{Rows}
use Rattle.node_rows.specs.BadRow.{AreGood}
use Rattle.node_calls.specs.ReplicaState.{NodeState}
use Rattle.node_rows.specs.Rows.{StandFor}

-- the rows, where they are told, are all good, and stand for the node
abbrev pub Opens : Option Rows → NodeState → Type 0
Opens kept node = (rows : Rows) → kept ≡ Some rows → AreGood rows × StandFor rows node
