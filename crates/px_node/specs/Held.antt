-- The paths of the replicas that are held.
use Rattle.std.specs.Prelude.{ℕ, List}
use Rattle.std.specs.List.{filter}
use Rattle.std.specs.Map.{keys_of}
use Rattle.px_node.specs.Shelf.{Replicas}

-- in the order of the paths
abbrev pub held_paths : Replicas → List (List ℕ)
held_paths replicas = keys_of (filter (λ entry. entry.1.held) replicas)
