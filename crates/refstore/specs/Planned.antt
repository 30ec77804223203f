-- References as they would be once some names were changed.
use Rattle.std.specs.Prelude.{[], ◌∷◌}
use Rattle.px_base.specs.RefList.{References}
use Rattle.refstore.specs.Updates.{creation, updated}

-- the references with these changes, the last one first: a name gets its object, and is taken away
-- where that is the zero name
abbrev pub overlaid : References → References → References
overlaid refs [] = refs
overlaid refs (change ∷ changes) = updated (overlaid refs changes) (creation change.0 change.1)
