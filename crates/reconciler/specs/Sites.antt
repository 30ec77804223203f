-- The core as it is seen from a repository whose jobs are planned.
use Rattle.px_cluster.specs.Core.{Core}
use Rattle.reconciler.specs.declared.site.Site.{Site}
use Rattle.reconciler.specs.Known.{core_with}

-- all that is known
abbrev pub core_at : Site → Core
core_at site = core_with site.known site.queue.now
