use Rattle.std.proofs.Common.{◌≡◌, ◌++◌, map, string_bytes}
use Rattle.std.specs.Vec.Iter.{into_iter_items}
use Rattle.px_run.specs.Start.{behind_name}
use Rattle.px_run.proofs.arguments.words_of.Given as goal

abbrev pub invariant-loop-arg : goal.invariant-loop-arg
invariant-loop-arg l =
    l.words ++ map string_bytes (into_iter_items l.arg-iterator) ≡ behind_name (map string_bytes (into_iter_items l.fn.args))
