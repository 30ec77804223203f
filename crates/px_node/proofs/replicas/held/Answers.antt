use Rattle.std.proofs.Common.{◌≡◌, ◌++◌, ◌∷◌, ◌∙◌, sym, subst}
use Rattle.px_base.specs.PathList.{IsPathList}
use Rattle.px_node.specs.Held.{held_paths}
use Rattle.px_node.proofs.HeldLemmas.{ArePaths-end, IsPathList-more, ascends_held, next_held, next_not, pushed_held}
use Rattle.px_node.proofs.replicas.held.Goals as goal

pub push-requires : goal.push-requires
push-requires c =
    IsPathList-more c.loop-path.paths (held_paths c.next.new.self)
    (held_paths c.args.replicas.now.entries) c.in-Some.path.now c.in_ok-path.path
    (next_held c.loop-path.paths (held_paths c.args.replicas.now.entries)
    c.loop-path.path-iterator c.next.new.self c.in-Some.path.now c.in-Some.replica.now
    c.loop-path.invariant.paths c.in-Some.ensures.steps
    (sym c.holds.ensures ∙ c.if-holds.true))
    c.in_ok-path.ensures.value
    (ascends_held c.args.replicas.now.entries c.into_iter-path-iterator.ensures.into_iter_gives.5)
    c.loop-path.invariant.list.lawful c.in_ok-path.ensures.path

pub loop-path-preserved-in-Continue-branch-2 : goal.loop-path-preserved-in-Continue-branch-2
loop-path-preserved-in-Continue-branch-2 c =
    let all = held_paths c.args.replicas.now.entries in
    let whole : c.loop-path.paths ++ c.in-Some.path.now ∷ held_paths c.next.new.self ≡ all =
    next_held c.loop-path.paths all c.loop-path.path-iterator c.next.new.self c.in-Some.path.now
    c.in-Some.replica.now c.loop-path.invariant.paths c.in-Some.ensures.steps
    (sym c.holds.ensures ∙ c.if-holds.true) in
    record {
      paths = pushed_held c.loop-path.paths c.push.new.self all (held_paths c.next.new.self)
          c.in-Some.path.now c.in_ok-path.path c.in_ok-push.ensures.ok c.in_ok-path.ensures.value
          whole;
      list = subst IsPathList (sym c.in_ok-push.ensures.ok)
          (IsPathList-more c.loop-path.paths (held_paths c.next.new.self) all c.in-Some.path.now
          c.in_ok-path.path whole c.in_ok-path.ensures.value
          (ascends_held c.args.replicas.now.entries
          c.into_iter-path-iterator.ensures.into_iter_gives.5)
          c.loop-path.invariant.list.lawful c.in_ok-path.ensures.path);
    }

pub loop-path-preserved : goal.loop-path-preserved
loop-path-preserved c = record {
  paths = next_not c.loop-path.paths (held_paths c.args.replicas.now.entries)
      c.loop-path.path-iterator c.next.new.self c.in-Some.path.now c.in-Some.replica.now
      c.loop-path.invariant.paths c.in-Some.ensures.steps
      (sym c.holds.ensures ∙ c.if-holds.false);
  list = c.loop-path.invariant.list;
}

pub returns : goal.returns
returns c =
    ArePaths-end c.loop-path.paths c.args.replicas.now.entries c.loop-path.path-iterator
    c.into_iter-path-iterator.ensures.into_iter_gives.5 c.loop-path.invariant.paths
    c.in-None.ensures.steps.0 c.loop-path.invariant.list
