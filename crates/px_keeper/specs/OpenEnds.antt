-- Why what rows say was not read out of a keeper.
use Rattle.std.specs.Prelude.{◌≡◌, ◌≤◌, ℕ, List, Option, Some}
use Rattle.px_base.specs.Causes.{Rose}
use Rattle.px_keeper.specs.FirstBad.{FirstBad}
use Rattle.px_keeper.specs.Row.{Rows, row_key}
use Rattle.px_keeper.specs.declared.open_fault.OpenFault.{OpenFault}
use Rattle.px_keeper.specs.declared.open_fault.OpenFault.TheVariants.{BadRow, KeeperFault, Memory}
use Rattle.px_keeper.specs.declared.row_key.RowKey.{RowKey}

module _ {K : Type 0} (Good : Rows → RowKey → List ℕ → Type 0) (rows_of : K → Option Rows)
    (faults_of : K → ℕ) (before : K) where
  -- the keeper is handed back as it was: the row is the first bad one, where rows are told; or the
  -- keeper failed, and its count rose; or memory wanted
  abbrev pub OpensNot : OpenFault K → Type 0
  OpensNot (BadRow keeper table key) = (rows_of keeper ≡ rows_of before)
      × (faults_of keeper ≡ faults_of before)
      × ((rows : Rows) → rows_of before ≡ Some rows → FirstBad Good rows (row_key table key))
  OpensNot (KeeperFault keeper) = (rows_of keeper ≡ rows_of before)
      × (faults_of before ≤ faults_of keeper) × Rose (faults_of before) (faults_of keeper)
  OpensNot (Memory keeper) =
      (rows_of keeper ≡ rows_of before) × (faults_of keeper ≡ faults_of before)

-- the keeper that is handed back
abbrev pub keeper_in : {K : Type 0} → OpenFault K → K
keeper_in (BadRow keeper table key) = keeper
keeper_in (KeeperFault keeper) = keeper
keeper_in (Memory keeper) = keeper

-- no row was bad
abbrev pub IsNotBad : {K : Type 0} → OpenFault K → Type 0
IsNotBad (BadRow keeper table key) = ⊥
IsNotBad (KeeperFault keeper) = Unit {0}
IsNotBad (Memory keeper) = Unit {0}

-- the keeper did not fail
abbrev pub IsNoFault : {K : Type 0} → OpenFault K → Type 0
IsNoFault (BadRow keeper table key) = Unit {0}
IsNoFault (KeeperFault keeper) = ⊥
IsNoFault (Memory keeper) = Unit {0}
