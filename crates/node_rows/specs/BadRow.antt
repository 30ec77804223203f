-- Which rows a node may have, and which is the first one that it may not. A row is judged by itself
-- and by those before it, in the order of tables and keys: of rows that contradict each other, the
-- last one is bad.
use Rattle.std.specs.Prelude.{◌≡◌, ◌<◌, ◌-◌, ◌^◌, ℕ, Bool, true, false, List, length, IfSome, IsSome, Option, Some}
use Rattle.std.specs.List.{AllByRecursion}
use Rattle.std.specs.List.Sorted.{IsStrictlySortedBy}
use Rattle.std.specs.declared.cmp.Ordering.TheVariants.{Less}
use Rattle.px_base.specs.Hash.{IsHash, is_zero}
use Rattle.px_base.specs.Object.{GitObject, IsSmall}
use Rattle.px_base.specs.RefList.{is_in_conflict, name_cmp}
use Rattle.px_base.specs.RefName.{IsRefName}
use Rattle.px_base.specs.RepoPath.{IsRepoPath}
use Rattle.px_base.specs.declared.hash.Hash.{Hash}
use Rattle.objstore.specs.Entries.{IsNamed}
use Rattle.px_keeper.specs.FirstBad.{AllGood, FirstBad}
use Rattle.px_keeper.specs.Row.{Rows, row_at}
use Rattle.px_keeper.specs.declared.row_key.RowKey.{RowKey}
use Rattle.node_rows.specs.Rows.{cut, object_bytes, replica_bytes, under}

-- ---- what the rows before tell

-- the row of the repository says that it is held
pub record IsHeldBy (rows : Rows) (path : List ℕ) : Type 0 where
  pub fence : ℕ
  pub last : Option ℕ
  pub row : row_at rows 6 path ≡ Some (replica_bytes fence last true)

-- a reference of the repository has a row before that of this name
pub record StandsBefore (rows : Rows) (path name other : List ℕ) : Type 0 where
  pub there : IsSome (row_at rows 7 (under path other))
  pub before : name_cmp other name ≡ Less

-- ---- the rows of each table

-- table 6: under a path, a fence, a last lease and whether it is held
pub record IsReplicaRow (path value : List ℕ) : Type 0 where
  pub lawful : IsRepoPath path
  pub fence : ℕ
  pub last : Option ℕ
  pub held : Bool
  pub is : value ≡ replica_bytes fence last held
  pub fence_fits : fence < 2 ^ 64
  pub last_fits : IfSome last (λ lease. lease < 2 ^ 64 - 1)

-- table 7: under the path of a repository that is held, and a name, an id other than the zero name.
-- The name is in conflict with none before it, and these are fewer than a repository may have
pub record IsRefRow (rows : Rows) (key value : List ℕ) : Type 0 where
  pub path : List ℕ
  pub name : List ℕ
  pub parts : cut key ≡ Some (path, name)
  pub held : IsHeldBy rows path
  pub named : IsRefName name
  pub id : Hash
  pub is : value ≡ id.0
  pub hash : IsHash id
  pub some : is_zero id ≡ false
  pub apart : (other : List ℕ) → StandsBefore rows path name other
      → is_in_conflict name other ≡ false
  pub few : (others : List (List ℕ)) → IsStrictlySortedBy name_cmp others
      → AllByRecursion (StandsBefore rows path name) others → length others < 32768

-- table 8: under the path of a repository that is held, and an id, an object that has this name and
-- the form of its kind, and no more content than an object may have
pub record IsObjectRow (rows : Rows) (key value : List ℕ) : Type 0 where
  pub path : List ℕ
  pub id : Hash
  pub parts : cut key ≡ Some (path, id.0)
  pub held : IsHeldBy rows path
  pub object : GitObject
  pub is : value ≡ object_bytes object
  pub small : IsSmall object.content
  pub named : IsNamed id object

-- a row that a node may have, where these rows stand before it
pub data IsGood (rows : Rows) (row : RowKey) (value : List ℕ) : Type 0 where
  replica : row.table ≡ 6 → IsReplicaRow row.key value → IsGood rows row value
  reference : row.table ≡ 7 → IsRefRow rows row.key value → IsGood rows row value
  object : row.table ≡ 8 → IsObjectRow rows row.key value → IsGood rows row value

-- ---- all rows, and the first bad one

-- a node may have each of the rows
abbrev pub AreGood : Rows → Type 0
AreGood = AllGood IsGood

-- the row is there and is bad, and each row before it is good
abbrev pub IsFirstBad : Rows → RowKey → Type 0
IsFirstBad = FirstBad IsGood
