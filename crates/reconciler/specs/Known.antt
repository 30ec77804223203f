-- The core, as far as the plan and the taking of jobs ask for it.
use Rattle.px_cluster.specs.Core.{Core, empty}
use Rattle.replqueue.specs.Queue.{Queued}
use Rattle.reconciler.specs.declared.known.Known.{Known}

-- a core that has this book, this health and these open pushes, and in which there are no jobs
abbrev pub core_of : Known → Core
core_of known = record empty {
  storages = known.book.now.storages;
  repositories = known.book.now.repositories;
  pushes = known.turns.now;
  health = known.health.now.up;
}

-- with the jobs of the queue
abbrev pub core_with : Known → Queued → Core
core_with known queue = record (core_of known) { jobs = queue.jobs; last_job = queue.last }
