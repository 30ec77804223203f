-- The changes of rows that each effect makes: those of what changes, and no others.
use Rattle.std.specs.Prelude.{◌+◌, ◌++◌, ℕ, Bool, true, false, List, [], ◌∷◌, if◌then◌else◌, is_some, Option, None, Some}
use Rattle.std.specs.Map.{keys_of}
use Rattle.px_base.specs.Hash.{same_hash}
use Rattle.px_base.specs.Object.{GitObject}
use Rattle.px_base.specs.RefList.{References, ref_at}
use Rattle.px_base.specs.declared.hash.Hash.{Hash}
use Rattle.px_base.specs.declared.push.Update.{Update}
use Rattle.objstore.specs.Entries.{Entries, object_at, own_name}
use Rattle.refstore.specs.Updates.{given}
use Rattle.px_keeper.specs.Row.{row_key}
use Rattle.px_keeper.specs.declared.change.Change.{Change}
use Rattle.px_keeper.specs.declared.change.Change.TheVariants.{Put, Remove}
use Rattle.node_calls.specs.ReplicaState.{ReplicaState, ReadyPush}
use Rattle.node_rows.specs.Rows.{object_bytes, replica_bytes, under}

-- ---- one row

abbrev pub replica_change : List ℕ → ℕ → Option ℕ → Bool → Change
replica_change path fence last held = Put (row_key 6 path) (replica_bytes fence last held)

abbrev pub ref_change : List ℕ → List ℕ → Option Hash → Change
ref_change path name None = Remove (row_key 7 (under path name))
ref_change path name (Some id) = Put (row_key 7 (under path name)) id.0

abbrev pub object_change : List ℕ → GitObject → Change
object_change path object = Put (row_key 8 (under path (own_name object).0)) (object_bytes object)

abbrev pub object_gone : List ℕ → Hash → Change
object_gone path id = Remove (row_key 8 (under path id.0))

-- ---- references and objects

-- a reference that comes to name another object, or none
abbrev pub update_changes : List ℕ → List Update → List Change
update_changes path [] = []
update_changes path (update ∷ updates) =
    if same_hash update.new update.old then update_changes path updates
    else ref_change path update.name (given update) ∷ update_changes path updates

-- an object that is not there
abbrev pub coming_changes : List ℕ → Entries → List GitObject → List Change
coming_changes path store [] = []
coming_changes path store (object ∷ objects) =
    if is_some (object_at store (own_name object)) then coming_changes path store objects
    else object_change path object ∷ coming_changes path store objects

-- the name has this object
abbrev pub names : Option Hash → Hash → Bool
names None id = false
names (Some have) id = same_hash have id

-- a reference that is not among the new ones
abbrev pub gone_changes : List ℕ → References → References → List Change
gone_changes path new [] = []
gone_changes path new (ref ∷ old) =
    if is_some (ref_at new ref.0) then gone_changes path new old
    else ref_change path ref.0 None ∷ gone_changes path new old

-- a new reference that is not there, or names another object there
abbrev pub put_changes : List ℕ → References → References → List Change
put_changes path old [] = []
put_changes path old (ref ∷ new) =
    if names (ref_at old ref.0) ref.1 then put_changes path old new
    else ref_change path ref.0 (Some ref.1) ∷ put_changes path old new

-- references take the place of others
abbrev pub refs_changes : List ℕ → References → References → List Change
refs_changes path old new = gone_changes path new old ++ put_changes path old new

abbrev pub objects_gone : List ℕ → List Hash → List Change
objects_gone path [] = []
objects_gone path (id ∷ ids) = object_gone path id ∷ objects_gone path ids

-- ---- the batch of each effect

-- the repository is held or not, with no references and no objects
abbrev pub emptied_rows : List ℕ → ℕ → Bool → ReplicaState → List Change
emptied_rows path lease held place = (replica_change path (lease + 1) place.last held ∷ [])
    ++ refs_changes path place.refs [] ++ objects_gone path (keys_of place.objects)

-- the fence is this
abbrev pub fenced_rows : List ℕ → ℕ → ReplicaState → List Change
fenced_rows path fence place = replica_change path fence place.last place.held ∷ []

-- the push is done
abbrev pub committed_rows : List ℕ → ℕ → ReadyPush → ReplicaState → List Change
committed_rows path lease push place = (replica_change path (lease + 1) (Some lease) true ∷ [])
    ++ update_changes path push.updates ++ coming_changes path place.objects push.objects

-- the references and the objects of a snapshot are taken over
abbrev pub applied_rows : List ℕ → ℕ → References → List GitObject → ReplicaState → List Change
applied_rows path lease refs objects place =
    (replica_change path (lease + 1) place.last true ∷ [])
    ++ refs_changes path place.refs refs ++ coming_changes path place.objects objects
