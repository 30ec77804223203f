use Rattle.std.proofs.Common.{ℕ, ◌<◌}
use Rattle.px_base.specs.RepoPath.{IsBadComponentAt}
use Rattle.px_base.proofs.repo_path.first_bad_component.Given as goal

-- no bad component begins so far
abbrev pub invariant-loop-at : goal.invariant-loop-at
invariant-loop-at l = (k : ℕ) → k < l.at → ¬ (IsBadComponentAt l.text k)
