-- How the rows of a keeper are read, where it tells them, and when they are not.
use Rattle.std.specs.Prelude.{◌≡◌, ◌<◌, ◌≤◌, ℕ, List, Option, Some, Result, Ok, Err}
use Rattle.px_base.specs.Causes.{Rose}
use Rattle.px_keeper.specs.FirstBad.{FirstBad}
use Rattle.px_keeper.specs.Reading.{ReadTo}
use Rattle.px_keeper.specs.Row.{Rows, row_key}
use Rattle.px_keeper.specs.declared.reading.Unread.{Unread}
use Rattle.px_keeper.specs.declared.reading.Unread.TheVariants.{BadRow, Fault, Memory}
use Rattle.px_keeper.specs.declared.row_key.RowKey.{RowKey}

-- the rows up to a place were read
abbrev pub ReadUpTo : (Rows → RowKey → List ℕ → Type 0) → ((RowKey → Option (List ℕ)) → Type 0)
    → Option Rows → ℕ → Option (List ℕ) → Type 0
ReadUpTo Good Has kept table last =
    (rows : Rows) → kept ≡ Some rows → ReadTo Good Has rows table last

-- the row that is named is the first bad one
abbrev pub IsUnread : (Rows → RowKey → List ℕ → Type 0) → Option Rows → Unread → Type 0
IsUnread Good kept (BadRow table key) = (table < 256)
    × ((rows : Rows) → kept ≡ Some rows → FirstBad Good rows (row_key table key))
IsUnread Good kept Fault = Unit {0}
IsUnread Good kept Memory = Unit {0}

-- the keeper failed only where its count rose, and the count stays otherwise
abbrev pub UnreadHasCause : {A : Type 0} → ℕ → ℕ → Result A Unread → Type 0
UnreadHasCause before now (Ok answer) = now ≡ before
UnreadHasCause before now (Err Fault) = (before ≤ now) × Rose before now
UnreadHasCause before now (Err Memory) = now ≡ before
UnreadHasCause before now (Err (BadRow table key)) = now ≡ before
