-- Each move keeps the form of the data, and so it is there after every list of moves.
use Rattle.std.proofs.Common.{sym, subst, Some, ◌≡◌, None}
use Rattle.px_ops.specs.declared.op.Op.{Op}
use Rattle.px_cluster.specs.Acknowledged.{done_in, event_refusal}
use Rattle.px_cluster.specs.Cluster.{Cluster}
use Rattle.px_cluster.specs.Core.{Core, empty, restarted}
use Rattle.px_cluster.specs.Ops.{left_by, refusal_of}
use Rattle.cluster_form.specs.Always.{HoldsAlways, IsKept, OfCore}
use Rattle.cluster_form.specs.Books.{AreBooks}
use Rattle.cluster_form.specs.Homes.{AreJobsHome}
use Rattle.cluster_form.specs.Tables.{AreTables}
use Rattle.cluster_form.specs.Turns.{AreTurns}
use Rattle.cluster_form.specs.Jobs.{AreInOrder, AreJobs}
use Rattle.cluster_form.specs.Drawn.{AreLeasesDrawn, AreOfMembers, AreUsesDrawn}
use Rattle.cluster_form.specs.Form.{HasForm, IsFormed}
use Rattle.cluster_form.proofs.BooksKept.{books_again, books_left, no_books}
use Rattle.cluster_form.proofs.Induction.{always, first_none}
use Rattle.cluster_form.proofs.LedgerKept.{no_uses, uses_again, uses_left}
use Rattle.cluster_form.proofs.LedgerUses.{same_uses}
use Rattle.cluster_form.proofs.MembersKept.{members_left, same_members}
use Rattle.cluster_form.proofs.Uses.{SameUses, uses_kept}
use Rattle.cluster_form.proofs.JobsHome.{homes_again, homes_left}
use Rattle.cluster_form.proofs.JobsKept.{jobs_again, jobs_left, no_jobs}
use Rattle.cluster_form.proofs.JobRoutes.{job_routes_again, job_routes_left}
use Rattle.cluster_form.proofs.PushRoutes.{push_routes_again, push_routes_left}
use Rattle.cluster_form.specs.Routes.{AreJobRoutes, ArePushRoutes, AreRoutes}
use Rattle.cluster_form.proofs.TablesKept.{no_tables, tables_again, tables_left}
use Rattle.cluster_form.proofs.TurnsKept.{no_turns, turns_again, turns_left}
use Rattle.cluster_form.proofs.WithinBooks.{books_within}
use Rattle.cluster_form.proofs.WithinRows.{rows_within}
use Rattle.cluster_form.specs.Within.{AreWithin}

within_left : (core : Core) (asked : Op) → AreInOrder core.jobs → AreWithin core
    → AreWithin (left_by core asked)
within_left core asked order within =
    let rows = rows_within core asked order (within.jobs, within.pushes) in
    record { books = books_within core asked within; jobs = rows.0; pushes = rows.1 }

pub formed_left : (core : Core) (asked : Op) → refusal_of core asked ≡ None → IsFormed core
    → IsFormed (left_by core asked)
formed_left core asked none form = record {
  tables = tables_left core asked none form.tables;
  books = books_left core asked none form.books;
  jobs = jobs_left core asked form.books.dense form.jobs;
  turns = turns_left core asked none form.books.dense form.turns;
  within = within_left core asked form.jobs.order form.within;
  homes = homes_left core asked form.books.dense form.homes;
}

pub formed_again : (core : Core) → IsFormed core → IsFormed (restarted core)
formed_again core form = record {
  tables = tables_again core form.tables;
  books = books_again core form.books;
  jobs = jobs_again core form.jobs;
  turns = turns_again core form.turns;
  within = record { books = form.within.books; jobs = form.within.jobs; pushes = tt };
  homes = homes_again core form.homes;
}

pub formed_at_first : IsFormed empty
formed_at_first = record {
  tables = no_tables;
  books = no_books;
  jobs = no_jobs;
  turns = no_turns;
  within = record { books = tt; jobs = tt; pushes = tt };
  homes = tt;
}

-- ---- the core and the ledger together

same_form : (old new : Cluster) → new.core ≡ old.core → SameUses old.ledger new.ledger
    → new.pushed ≡ old.pushed → new.worked ≡ old.worked → HasForm old → HasForm new
same_form old new core uses pushed worked form = record {
  core = subst IsFormed (sym core) form.core;
  leases = record {
    uses = same_uses new.core old.ledger new.ledger uses
        (subst (λ core_. AreUsesDrawn core_ old.ledger) (sym core) form.leases.uses);
    members = same_members new.core.pushes old.ledger new.ledger uses
        (subst (λ core_. AreOfMembers core_ old.ledger) (sym core) form.leases.members);
  };
  routes = record {
    pushes = subst (ArePushRoutes new.core) (sym pushed)
        (subst (λ core_. ArePushRoutes core_ old.pushed) (sym core) form.routes.pushes);
    jobs = subst (AreJobRoutes new.core) (sym worked)
        (subst (λ core_. AreJobRoutes core_ old.worked) (sym core) form.routes.jobs);
  };
}

form_left : (old : Cluster) (asked : Op) → event_refusal old asked ≡ None → HasForm old
    → HasForm (done_in old asked)
form_left old asked none form = record {
  core = formed_left old.core asked (first_none (refusal_of old.core asked) _ none) form.core;
  leases = record {
    uses = uses_left old asked none form.core form.leases.uses;
    members = members_left old asked form.core form.leases.uses form.leases.members;
  };
  routes = record {
    pushes = push_routes_left old asked form.core form.routes.pushes;
    jobs = job_routes_left old asked form.core form.routes.jobs;
  };
}

form_again : (old : Cluster) → HasForm old → HasForm (record old { core = restarted old.core })
form_again old form = record {
  core = formed_again old.core form.core;
  leases = record { uses = uses_again old.core old.ledger form.leases.uses; members = tt };
  routes = record {
    pushes = push_routes_again old.core old.pushed form.routes.pushes;
    jobs = job_routes_again old.core old.worked form.routes.jobs;
  };
}

pub form_kept : IsKept HasForm
form_kept = uses_kept HasForm same_form form_left form_again

pub form_always : HoldsAlways HasForm
form_always = always HasForm form_kept (λ node. record {
  core = formed_at_first;
  leases = record { uses = no_uses empty; members = tt };
  routes = record {
    pushes = record {
      each = λ tx to there. absurd (let z : None ≡ Some to = there in cc);
      apart = λ one other a b here. absurd (let z : None ≡ Some a = here in cc);
      open_ = tt;
    };
    jobs = λ job to there. absurd (let z : None ≡ Some to = there in cc);
  };
})

-- ---- by its parts

pub tables_always : HoldsAlways (OfCore AreTables)
tables_always node moves new is = (form_always node moves new is).core.tables

pub books_always : HoldsAlways (OfCore AreBooks)
books_always node moves new is = (form_always node moves new is).core.books

pub jobs_always : HoldsAlways (OfCore AreJobs)
jobs_always node moves new is = (form_always node moves new is).core.jobs

pub homes_always : HoldsAlways (OfCore AreJobsHome)
homes_always node moves new is = (form_always node moves new is).core.homes

pub turns_always : HoldsAlways (OfCore AreTurns)
turns_always node moves new is = (form_always node moves new is).core.turns

pub within_always : HoldsAlways (OfCore AreWithin)
within_always node moves new is = (form_always node moves new is).core.within

pub leases_always : HoldsAlways AreLeasesDrawn
leases_always node moves new is = (form_always node moves new is).leases

pub routes_always : HoldsAlways AreRoutes
routes_always node moves new is = (form_always node moves new is).routes
