-- What no code stores, and the argument needs: logs, floors and levels, beside the cluster.
use Rattle.std.specs.Prelude.{ℕ, Bool, true, false, Option, None, Some}
use Rattle.px_cluster.specs.Cluster.{Cluster, with_value}
use Rattle.replica_invariant.specs.Contents.{Updates, Vote, empty, undecided}
use Rattle.replica_invariant.specs.State.{Entry}

-- Of each repository its log, by generation, and the one list of updates that a push has with a vote,
-- by its lease. Of each replica its floor, which is the greatest generation that it was ever booked
-- at; its level, which is the generation whose content its node holds; and whether it ever had a level.
-- Of each lease that was drawn to copy a replica the level at which the snapshot was read.
pub record History : Type 0 where
  pub entry : ℕ → ℕ → Entry
  pub text : ℕ → ℕ → Vote → Updates
  pub floor : ℕ → ℕ → Option ℕ
  pub level : ℕ → ℕ → Option ℕ
  pub had : ℕ → ℕ → Bool
  pub read_at : ℕ → ℕ → ℕ → ℕ

-- a cluster with its history
pub record Whole : Type 0 where
  pub cluster : Cluster
  pub history : History

-- ---- what changes

-- the function with another value at one replica
abbrev pub with_value_at : {A : Type 0} → (ℕ → ℕ → A) → ℕ → ℕ → A → ℕ → ℕ → A
with_value_at f repo storage value = with_value f repo (with_value (f repo) storage value)

abbrev pub with_entry : History → ℕ → ℕ → Entry → History
with_entry history repo generation entry = record history {
  entry = with_value_at history.entry repo generation entry;
}

abbrev pub with_floor : History → ℕ → ℕ → ℕ → History
with_floor history repo storage generation = record history {
  floor = with_value_at history.floor repo storage (Some generation);
}

-- a level that is reached: there was one from now on
abbrev pub with_level : History → ℕ → ℕ → ℕ → History
with_level history repo storage level = record history {
  level = with_value_at history.level repo storage (Some level);
  had = with_value_at history.had repo storage true;
}

abbrev pub without_level : History → ℕ → ℕ → History
without_level history repo storage = record history {
  level = with_value_at history.level repo storage None;
}

-- ---- a repository that comes on record

-- the first content is given, and is empty
abbrev pub given : Entry
given = record { lease = None; hash = undecided; content = Some empty }

-- nothing was recorded of it before
abbrev pub with_new : History → ℕ → History
with_new history repo = record history {
  entry = with_value history.entry repo (λ generation. given);
  floor = with_value history.floor repo (λ storage. None);
  level = with_value history.level repo (λ storage. None);
  had = with_value history.had repo (λ storage. false);
}
