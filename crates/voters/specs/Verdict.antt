-- What a verdict shows, and which weights are a quorum.
use Rattle.std.specs.Prelude.{ℕ, ◌*◌, ◌<◌, ◌≤◌}
use Rattle.px_base.specs.declared.hash.Hash.{Hash}

-- a hash, the weight that stands for it, the threshold and the weight of the panel
pub record Standing : Type 0 where
  pub hash : Hash
  pub reached : ℕ
  pub threshold : ℕ
  pub total : ℕ

abbrev pub standing_with : Hash → ℕ → ℕ → ℕ → Standing
standing_with hash reached threshold total = record {
  hash = hash;
  reached = reached;
  threshold = threshold;
  total = total;
}

-- what was reached is at least the threshold, which is above half of the total
pub record IsQuorum (reached threshold total : ℕ) : Type 0 where
  pub reaches : threshold ≤ reached
  pub most : total < 2 * threshold
  pub within : reached ≤ total
