-- What never falls: a repository stays on record, and its newest generation and its last lease never
-- fall, nor do the last numbers of transactions and of jobs.
use Rattle.std.specs.Prelude.{◌≡◌, ◌≤◌, ℕ, List, Some}
use Rattle.px_cluster.specs.Book.{Repository}
use Rattle.px_cluster.specs.Cluster.{Cluster}
use Rattle.px_cluster.specs.Core.{Core, repository}
use Rattle.px_cluster.specs.Events.{Answer, Event}
use Rattle.px_cluster.specs.Step.{Runs, Step}

-- the repository is the same, and further on
pub record IsLater (old new : Repository) : Type 0 where
  pub virt : new.virt ≡ old.virt
  pub path : new.path ≡ old.path
  pub newest : old.newest ≤ new.newest
  pub last : old.last ≤ new.last

-- it is on record under its number
pub record IsOnRecord (core : Core) (repo : ℕ) (was : Repository) : Type 0 where
  pub book : Repository
  pub there : repository core repo ≡ Some book
  pub later : IsLater was book

pub record Grows (old new : Core) : Type 0 where
  pub books : (repo : ℕ) (book : Repository) → repository old repo ≡ Some book
      → IsOnRecord new repo book
  pub last_tx : old.last_tx ≤ new.last_tx
  pub last_job : old.last_job ≤ new.last_job

-- at each event, and over every list of events
abbrev pub StepGrows : Type 0
StepGrows = (old new : Cluster) (happened : Event) (answer : Answer)
    → Step old happened answer new → Grows old.core new.core

abbrev pub RunGrows : Type 0
RunGrows = (old new : Cluster) (events : List Event) (answers : List Answer)
    → Runs old events answers new → Grows old.core new.core
