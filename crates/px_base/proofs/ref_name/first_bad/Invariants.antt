use Rattle.std.proofs.Common.{ℕ, ◌<◌}
use Rattle.px_base.specs.RefName.{IsBadAt}
use Rattle.px_base.proofs.ref_name.first_bad.Given as goal

-- no place so far is bad
abbrev pub invariant-loop-at : goal.invariant-loop-at
invariant-loop-at l = (k : ℕ) → k < l.at → ¬ (IsBadAt l.text k)
