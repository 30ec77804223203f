-- Why an operation is not done, where the book or the router says so.
use Rattle.genbook.specs.declared.fault.BookFault.{BookFault}
use Rattle.genbook.specs.declared.fault.BookFault.TheVariants as book
use Rattle.router.specs.declared.push_fault.PushFault.{PushFault}
use Rattle.router.specs.declared.push_fault.PushFault.TheVariants as push
use Rattle.px_core.specs.declared.fault.Fault.{Fault}
use Rattle.px_core.specs.declared.fault.Fault.TheVariants.{Memory, Refused}

abbrev pub of_push : PushFault → Fault
of_push (push.Refused why) = Refused why
of_push push.Memory = Memory

abbrev pub of_book : BookFault → Fault
of_book (book.Refused why) = Refused why
of_book book.Memory = Memory
