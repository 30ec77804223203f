-- Which storages can be reached, as it is known for now.
use Rattle.std.specs.Prelude.{◌≡◌, ◌<◌, ◌++◌, ◌∷◌, [], ℕ, Bool, true, false, if◌then◌else◌, set, length, List}
use Rattle.px_cluster.specs.Core.{Core, empty}

-- of each storage, by its number, whether it is up; and whether one more is ready to be added
pub record Reachable : Type 0 where
  pub up : List Bool
  pub ready : Bool

-- a core that knows only this
abbrev pub core_with_health : Reachable → Core
core_with_health health = record empty { health = health.up }

-- the storage of a number was raised, or went down
abbrev pub with_up : ℕ → Bool → Reachable → Reachable
with_up storage up health = record health { up = set health.up storage up }

-- the one that is ready is added, and is down
abbrev pub with_one_down : Reachable → Reachable
with_one_down health = record {
  up = if health.ready then health.up ++ false ∷ [] else health.up;
  ready = false;
}

-- where one is ready, there is room for it
abbrev pub HasRoom : ℕ → Reachable → Type 0
HasRoom room health = health.ready ≡ true → length health.up < room
