use Rattle.std.proofs.Common.{◌≡◌, ◌++◌}
use Rattle.px_base.specs.PathList.{IsPathList}
use Rattle.px_node.specs.Held.{held_paths}
use Rattle.px_node.proofs.replicas.held.Given as goal

-- those so far, and those of what is left, are all
abbrev pub invariant-loop-path : goal.invariant-loop-path
invariant-loop-path l = record {
  paths : l.paths ++ held_paths l.path-iterator ≡ held_paths l.replicas.entries;
  list : IsPathList l.paths;
}
