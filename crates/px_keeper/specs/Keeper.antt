-- What a keeper answers, and when it fails.
use Rattle.std.specs.Prelude.{◌≡◌, ◌≢◌, ◌≤◌, ℕ, Bool, true, false, List, IsSome, Option, None, Some, Result, Ok, Err}
use Rattle.std.specs.Cmp.Lexicographic.{slice_cmp}
use Rattle.std.specs.Ordering.{nat_cmp}
use Rattle.std.specs.declared.cmp.Ordering.TheVariants.{Less, Greater}
use Rattle.px_base.specs.Causes.{Rose}
use Rattle.px_keeper.specs.Row.{Rows, row_at}
use Rattle.px_keeper.specs.declared.keeper.KeepFault.{KeepFault}
use Rattle.px_keeper.specs.declared.keeper.KeepFault.TheVariants.{Failed, Memory}

-- a failure comes only where the count rose, and the count stays otherwise
abbrev pub KeepHasCause : {A : Type 0} → ℕ → ℕ → Result A KeepFault → Type 0
KeepHasCause before now (Ok answer) = now ≡ before
KeepHasCause before now (Err Memory) = now ≡ before
KeepHasCause before now (Err Failed) = (before ≤ now) × Rose before now

-- the key is above the one that is given, and any key is where none is given
abbrev pub IsAbove : Option (List ℕ) → List ℕ → Type 0
IsAbove None key = Unit {0}
IsAbove (Some after) key = slice_cmp nat_cmp after key ≡ Less

-- the row is there with this value, its key is above `after`, and no row of the table has a key
-- between the two
pub record IsNext (rows : Rows) (table : ℕ) (after : Option (List ℕ)) (key value : List ℕ)
    : Type 0 where
  pub here : row_at rows table key ≡ Some value
  pub above : IsAbove after key
  pub least : (other : List ℕ) → IsAbove after other → IsSome (row_at rows table other)
      → slice_cmp nat_cmp key other ≢ Greater

-- the next row of the table above `after`; or none, and then no row of the table is above `after`
abbrev pub ScanGives : Rows → ℕ → Option (List ℕ) → Option (List ℕ × List ℕ) → Type 0
ScanGives rows table after (Some found) = IsNext rows table after found.0 found.1
ScanGives rows table after None =
    (key : List ℕ) → IsAbove after key → row_at rows table key ≡ None

-- where a keeper tells whether its next commit fails, the commit fails exactly so, and then it tells
-- that the next one does not
abbrev pub KeepsPlan : {A : Type 0} → Option Bool → Option Bool → Result A KeepFault → Type 0
KeepsPlan None told result = told ≡ None
KeepsPlan (Some true) told result = (told ≡ Some false) × (result ≡ Err Failed)
KeepsPlan (Some false) told result = (told ≡ Some false) × (result ≢ Err Failed)
