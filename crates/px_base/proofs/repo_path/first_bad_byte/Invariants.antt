use Rattle.std.proofs.Common.{ℕ, ◌<◌}
use Rattle.px_base.specs.RepoPath.{IsBadByteAt}
use Rattle.px_base.proofs.repo_path.first_bad_byte.Given as goal

-- no byte so far is bad
abbrev pub invariant-loop-at : goal.invariant-loop-at
invariant-loop-at l = (k : ℕ) → k < l.at → ¬ (IsBadByteAt l.text k)
