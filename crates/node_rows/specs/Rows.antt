-- The rows that stand for a node.
use Rattle.std.specs.Prelude.{◌≡◌, ◌<◌, ◌&&◌, ◌++◌, ◌==◌, ℕ, Bool, false, not, List, [], ◌∷◌, if◌then◌else◌, is_none, IfSome, MatchOption, Option, None, Some}
use Rattle.std.specs.FinMap.{get}
use Rattle.std.specs.Option.{option_map}
use Rattle.px_base.specs.Object.{GitObject}
use Rattle.px_base.specs.RefList.{ref_at}
use Rattle.px_base.specs.RepoPath.{IsRepoPath}
use Rattle.px_fields.specs.Fields.{flag, kind_code, optional_u64, u64_bytes}
use Rattle.objstore.specs.Entries.{object_at}
use Rattle.px_keeper.specs.Row.{Rows}
use Rattle.px_keeper.specs.declared.row_key.RowKey.{RowKey}
use Rattle.node_calls.specs.ReplicaState.{NodeState, ReplicaState}

-- ---- table 6: the fence, the last lease and whether it is held, under the path

abbrev pub replica_bytes : ℕ → Option ℕ → Bool → List ℕ
replica_bytes fence last held = u64_bytes fence ++ optional_u64 last ++ flag held ∷ []

-- nothing was ever done there
abbrev pub is_untouched : ReplicaState → Bool
is_untouched place = (place.fence == 0) && is_none place.last && not place.held

abbrev pub replica_row : ReplicaState → Option (List ℕ)
replica_row place =
    if is_untouched place then None else Some (replica_bytes place.fence place.last place.held)

-- ---- tables 7 and 8: what is named in a repository, under the path, a NUL and the name

abbrev pub under : List ℕ → List ℕ → List ℕ
under path name = path ++ 0 ∷ name

-- what stands before the first NUL of a key, and what stands behind it
abbrev pub cut : List ℕ → Option (List ℕ × List ℕ)
cut [] = None
cut (b ∷ key) =
    if b == 0 then Some ([], key) else option_map (λ parts. (b ∷ parts.0, parts.1)) (cut key)

-- the object that a reference names
abbrev pub ref_row : NodeState → Option (List ℕ × List ℕ) → Option (List ℕ)
ref_row node None = None
ref_row node (Some parts) = option_map (λ id. id.0) (ref_at (node parts.0).refs parts.1)

abbrev pub object_bytes : GitObject → List ℕ
object_bytes object = kind_code object.kind ∷ object.content

-- the kind and the content of an object
abbrev pub object_row : NodeState → Option (List ℕ × List ℕ) → Option (List ℕ)
object_row node None = None
object_row node (Some parts) =
    option_map object_bytes (object_at (node parts.0).objects (record { 0 = parts.1 }))

-- ---- the rows

-- what a node has at a row
abbrev pub row_of : NodeState → RowKey → Option (List ℕ)
row_of node row =
    if row.table == 6 then replica_row (node row.key)
    else if row.table == 7 then ref_row node (cut row.key)
    else if row.table == 8 then object_row node (cut row.key)
    else None

-- ---- rows that stand for a node

-- a row of a repository that says that nothing was ever done there
pub record IsBlank (row : RowKey) (value : List ℕ) : Type 0 where
  pub table : row.table ≡ 6
  pub path : IsRepoPath row.key
  pub blank : value ≡ replica_bytes 0 None false

-- the bytes that a node has at a row stand there; where it has none, none stand there, or a row that
-- says that nothing was ever done
abbrev pub IsRow : RowKey → Option (List ℕ) → Option (List ℕ) → Type 0
IsRow row wanted value =
    MatchOption wanted (IfSome value (IsBlank row)) (λ bytes. value ≡ Some bytes)

-- what stands at each row is that of the node; a table has a number of one byte
abbrev pub AreRowsOf : NodeState → (RowKey → Option (List ℕ)) → Type 0
AreRowsOf node values = (row : RowKey) → row.table < 256 → IsRow row (row_of node row) (values row)

-- the rows are those of the node, and no others
abbrev pub StandFor : Rows → NodeState → Type 0
StandFor rows node = AreRowsOf node (get rows)
