-- What the end of a job makes of the book.
use Rattle.std.specs.Prelude.{◌≡◌, Bool, true, false, Option, None, Some}
use Rattle.px_ops.specs.declared.job.Job.{Job}
use Rattle.px_cluster.specs.Jobs.{with_end_booked}
use Rattle.genbook.specs.Books.{Books, Has, core_of}

-- the repository of the job, if there is one, is on the book
abbrev pub IsOnRecord : Books → Option Job → Type 0
IsOnRecord book None = Unit {0}
IsOnRecord book (Some job) = Has book job.repo.0

-- the good end of a job is booked, and a bad one books nothing
abbrev pub Ends : Bool → Option Job → Books → Books → Type 0
Ends good None old new = core_of new ≡ core_of old
Ends true (Some job) old new = core_of new ≡ with_end_booked job job.kind (core_of old)
Ends false (Some job) old new = core_of new ≡ core_of old
