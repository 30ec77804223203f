-- The core by what stores it.
use Rattle.std.specs.Prelude.{ℕ, Bool, List}
use Rattle.txmanager.specs.Registry.{Registry}
use Rattle.genbook.specs.Books.{Books}
use Rattle.replqueue.specs.Queue.{Queued}
use Rattle.px_cluster.specs.Core.{Core, OpenPush, empty}

-- a book, which storages are up, the transactions, the last number that one was given, the open
-- pushes, the counts of reads, and the queue; there are no default factors
abbrev pub core_with : Books → List Bool → Registry → ℕ → List OpenPush → List ℕ → Queued → Core
core_with book up transactions last pushes reads queue = record empty {
  storages = book.storages;
  repositories = book.repositories;
  jobs = queue.jobs;
  last_job = queue.last;
  last_tx = last;
  transactions = transactions;
  pushes = pushes;
  health = up;
  reads = reads;
}
