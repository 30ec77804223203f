-- Objects that come together, as those of a push.
use Rattle.std.specs.Prelude.{◌+◌, ◌&&◌, ℕ, Bool, true, false, List, [], ◌∷◌, if◌then◌else◌, Option, None, Some}
use Rattle.std.specs.BTreeMap.{insert_entry, is_at}
use Rattle.std.specs.Map.{remove_entry}
use Rattle.std.specs.Option.{option_map, option_or}
use Rattle.std.specs.Str.{bytes_eq}
use Rattle.px_base.specs.Hash.{hash_cmp}
use Rattle.px_base.specs.Object.{GitObject}
use Rattle.px_base.specs.declared.hash.Hash.{Hash}
use Rattle.px_base.specs.declared.kind.Kind.{Kind}
use Rattle.px_base.specs.declared.kind.Kind.TheVariants.{Commit, Tree, Blob, Tag}
use Rattle.object_format.specs.Links.{bad_byte}
use Rattle.objstore.specs.Entries.{Entries, object_at, own_name}
use Rattle.objstore.specs.declared.bundles.BundleFault.{BundleFault}
use Rattle.objstore.specs.declared.bundles.BundleFault.TheVariants.{BadObject, Collision}

-- the store with an object under its name
abbrev pub with_object : Entries → GitObject → Entries
with_object store object = insert_entry hash_cmp store (own_name object) object

-- the store with each of the objects under its name, one after the other
abbrev pub with_objects : Entries → List GitObject → Entries
with_objects store [] = store
with_objects store (object ∷ objects) = with_objects (with_object store object) objects

-- the store without what it has under the id
abbrev pub without_id : Entries → Hash → Entries
without_id store id = remove_entry (is_at (hash_cmp id)) store

-- the store without what it has under the ids
abbrev pub without : Entries → List Hash → Entries
without store [] = store
without store (id ∷ ids) = without (without_id store id) ids

-- the two are one kind
abbrev pub same_kind : Kind → Kind → Bool
same_kind Commit Commit = true
same_kind Tree Tree = true
same_kind Blob Blob = true
same_kind Tag Tag = true
same_kind _ _ = false

-- the two have one kind and one content
abbrev pub same_object : GitObject → GitObject → Bool
same_object a b = same_kind a.kind b.kind && bytes_eq a.content b.content

-- the object breaks the form of its kind
abbrev pub form_fault : ℕ → GitObject → Option BundleFault
form_fault index object =
    option_map (λ at. BadObject index at) (bad_byte object.kind object.content)

-- what stands under the name of the object is another one
abbrev pub collision : Option GitObject → GitObject → Option BundleFault
collision None object = None
collision (Some other) object =
    if same_object other object then None else Some (Collision (own_name object))

-- why an object of a list, at this index, may not come to the store
abbrev pub object_fault : Entries → ℕ → GitObject → Option BundleFault
object_fault store index object =
    option_or (form_fault index object) (collision (object_at store (own_name object)) object)

-- the first fault of a list whose indices begin with this one: each object comes to the store with
-- the earlier ones in it
abbrev pub bundle_fault : Entries → ℕ → List GitObject → Option BundleFault
bundle_fault store index [] = None
bundle_fault store index (object ∷ objects) =
    option_or (object_fault store index object)
    (bundle_fault (with_object store object) (index + 1) objects)
