use Rattle.std.proofs.Common.{◌≡◌, rules, subst, sym}
use Rattle.px_ops.specs.declared.booking.Booking.TheVariants.{Absent}
use Rattle.px_ops.specs.declared.job.JobKind.{JobKind}
use Rattle.px_ops.specs.declared.job.JobKind.TheVariants.{Delete}
use Rattle.px_cluster.specs.Book.{booked, with_lease_for, with_replica_on}
use Rattle.px_cluster.specs.Taking.{book_as_taken}
use Rattle.genbook.specs.Books.{Becomes}
use Rattle.px_core.proofs.BookChanges.{becomes_twice}
use Rattle.px_core.proofs.dequeue.book_taken.Goals as goal

pub returns-in-Delete : goal.returns-in-Delete
returns-in-Delete c =
    let job = c.args.job.now in
    let first : Becomes job.repo.0 (with_lease_for job.target.0) c.args.book.now
    c.draw_for.new.self = search rules in
    let kind : job.kind ≡ Delete = search rules in
    subst (λ (k : JobKind). Becomes job.repo.0 (book_as_taken job k) c.args.book.now
    c.book.new.self) (sym kind)
    (becomes_twice job.repo.0 (with_lease_for job.target.0)
    (with_replica_on job.target.0 (booked Absent)) c.args.book.now c.draw_for.new.self
    c.book.new.self first c.book.ensures)
