-- How the updates of a list are done in a map in two stages: all that takes memory first.
use Rattle.std.specs.Prelude.{◌≡◌, ℕ, false, not, List, if◌then◌else◌, IsSome, is_some}
use Rattle.std.specs.BTreeMap.{insert_entry, is_at}
use Rattle.std.specs.List.{filter}
use Rattle.std.specs.Map.{remove_entry}
use Rattle.px_base.specs.Hash.{is_zero}
use Rattle.px_base.specs.RefList.{References, name_cmp, ref_at}
use Rattle.px_base.specs.declared.push.Update.{Update}
use Rattle.refstore.specs.Updates.{is_among, names_of}

-- those of the updates that give a name an object, in their order
abbrev pub sets_of : List Update → List Update
sets_of updates = filter (λ (update : Update). not (is_zero update.new)) updates

-- those that take a name away
abbrev pub removals_of : List Update → List Update
removals_of updates = filter (λ (update : Update). is_zero update.new) updates

-- from these references on the way to those after the updates: what no update names is as it was, and
-- each name that was there is there
pub record IsOnTheWay (refs map : References) (updates : List Update) : Type 0 where
  pub others : (name : List ℕ) → is_among name (names_of updates) ≡ false
      → ref_at map name ≡ ref_at refs name
  pub there : (name : List ℕ) → IsSome (ref_at refs name) → IsSome (ref_at map name)

-- the name of the update has its old object again, if it is there; it is taken away where the old
-- object is the zero name
abbrev pub restored : References → Update → References
restored map update =
    if is_zero update.old then remove_entry (is_at (name_cmp update.name)) map
    else if is_some (ref_at map update.name) then insert_entry name_cmp map update.name update.old
    else map
