-- What a list of updates does to references, and why it may not.
use Rattle.std.specs.Prelude.{◌≡◌, ◌∷◌, ◌++◌, [], ◌&&◌, ℕ, Bool, List, length, nat_lt, map, if◌then◌else◌, Option, None, Some, is_some}
use Rattle.std.specs.BTreeMap.{insert_entry, is_at}
use Rattle.std.specs.List.{find, list_any}
use Rattle.std.specs.Map.{keys_of, remove_entry}
use Rattle.std.specs.Option.{option_map, option_or, unwrap_or}
use Rattle.px_base.specs.Hash.{is_zero, same_hash, zero_hash}
use Rattle.px_base.specs.RefList.{References, is_in_conflict, is_name, name_cmp, ref_at}
use Rattle.px_base.specs.declared.hash.Hash.{Hash}
use Rattle.px_base.specs.declared.push.Update.{Update}
use Rattle.refstore.specs.declared.prepared.RefRefusal.{RefRefusal}
use Rattle.refstore.specs.declared.prepared.RefRefusal.TheVariants.{Empty, Void, Twice, Stale, Conflict, TooManyRefs}

-- ---- what the references are after the updates

-- the name is set to its new object, or taken away where that is the zero name
abbrev pub updated : References → Update → References
updated refs update =
    if is_zero update.new then remove_entry (is_at (name_cmp update.name)) refs
    else insert_entry name_cmp refs update.name update.new

-- each update is done, in order
abbrev pub after : References → List Update → References
after refs [] = refs
after refs (update ∷ updates) = after (updated refs update) updates

-- what an update gives its name: its new object, or nothing where that is the zero name
abbrev pub given : Update → Option Hash
given update = if is_zero update.new then None else Some update.new

-- the update that creates a reference
abbrev pub creation : List ℕ → Hash → Update
creation name id = record { old = zero_hash; new = id; name = name }

-- ---- why the updates may not be done

-- the object that a name has, and the zero name where there is no such name
abbrev pub have : References → List ℕ → Hash
have refs name = unwrap_or (ref_at refs name) zero_hash

-- the name is one of these
abbrev pub is_among : List ℕ → List (List ℕ) → Bool
is_among name names = list_any (is_name name) names

-- the names of the updates
abbrev pub names_of : List Update → List (List ℕ)
names_of updates = map (λ (update : Update). update.name) updates

-- both its objects are zero; or its name stood before; or its old object is not what the name has
abbrev pub update_fault : References → List (List ℕ) → Update → Option RefRefusal
update_fault refs before update =
    if is_zero update.old && is_zero update.new then Some (Void update.name)
    else if is_among update.name before then Some (Twice update.name)
    else if same_hash (have refs update.name) update.old then None
    else Some (Stale update.name (have refs update.name))

-- the first such fault of the updates, behind those that name these names
abbrev pub first_fault : References → List (List ℕ) → List Update → Option RefRefusal
first_fault refs before [] = None
first_fault refs before (update ∷ updates) = option_or (update_fault refs before update)
    (first_fault refs (before ++ update.name ∷ []) updates)

-- the least name of the references that is in conflict with this one
abbrev pub least_conflict : References → List ℕ → Option (List ℕ)
least_conflict refs name = find (is_in_conflict name) (keys_of refs)

-- the update's name is among the references, and in conflict with another one there
abbrev pub update_conflict : References → Update → Option RefRefusal
update_conflict refs update =
    if is_some (ref_at refs update.name)
    then option_map (Conflict update.name) (least_conflict refs update.name)
    else None

-- the first such conflict of the updates
abbrev pub first_conflict : References → List Update → Option RefRefusal
first_conflict refs [] = None
first_conflict refs (update ∷ updates) =
    option_or (update_conflict refs update) (first_conflict refs updates)

-- the references are more than a repository may have
abbrev pub too_many : References → Option RefRefusal
too_many refs = if nat_lt 32768 (length refs) then Some TooManyRefs else None

-- why the updates may not be done: there is none; or the first of them that is at fault; or, once all
-- are done, the first whose name is in conflict; or there are then too many references
abbrev pub refusal_of : References → List Update → Option RefRefusal
refusal_of refs [] = Some Empty
refusal_of refs (update ∷ updates) =
    let done = after refs (update ∷ updates) in
    option_or (first_fault refs [] (update ∷ updates))
    (option_or (first_conflict done (update ∷ updates)) (too_many done))

-- the updates may be done: none of the refusals applies
abbrev pub Fits : List Update → References → Type 0
Fits updates refs = refusal_of refs updates ≡ None
