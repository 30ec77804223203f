-- Updates of references, as values of the type have them.
use Rattle.std.specs.Prelude.{List}
use Rattle.std.specs.List.{AllByRecursion}
use Rattle.px_base.specs.Hash.{IsHash}
use Rattle.px_base.specs.RefName.{IsRefName}
use Rattle.px_base.specs.declared.push.Update.{Update}

-- an update: two object names of 20 bytes, and the name of a reference
pub record IsUpdate (update : Update) : Type 0 where
  pub old : IsHash update.old
  pub new : IsHash update.new
  pub name : IsRefName update.name

-- each of the list is one
abbrev pub AreUpdates : List Update → Type 0
AreUpdates updates = AllByRecursion IsUpdate updates
