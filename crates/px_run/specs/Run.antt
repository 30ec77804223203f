-- What a run of the program reads, prints, says and answers.
use Rattle.std.specs.Prelude.{◌≡◌, ◌≢◌, ◌⊎◌, ◌^◌, ◌++◌, ℕ, List, [], ◌∷◌, Option, Some, None, codes, decimal}
use Rattle.std.specs.Io.KnownBytes.{Appends}
use Rattle.px_base.specs.Sink.{TakesPart}
use Rattle.script_run.specs.Stream.{HasFailed, HasNotFailed, Stream, Streams}
use Rattle.script_run.specs.declared.run.RehearseEnd.{RehearseEnd}
use Rattle.script_run.specs.declared.run.RehearseEnd.TheVariants as end
use Rattle.px_world.specs.Rehearsal.{Rehearses}
use Rattle.px_run.specs.declared.status.Status.{Status}
use Rattle.px_run.specs.declared.status.Status.TheVariants as status

-- the one command
abbrev pub command : List (List ℕ)
command = codes "rehearse" ∷ []

-- the exit status of the process
abbrev pub status_code : Status → ℕ
status_code status.Done = 0
status_code status.Usage = 2
status_code status.ReadFault = 3
status_code status.WriteFault = 4
status_code status.BadInput = 6
status_code status.Memory = 7

-- the status of words that are no command, or else of how the rehearsal ended
abbrev pub status_of : Option RehearseEnd → Status
status_of None = status.Usage
status_of (Some end.Done) = status.Done
status_of (Some (end.BadLine n)) = status.BadInput
status_of (Some end.TooLong) = status.BadInput
status_of (Some end.ReadFault) = status.ReadFault
status_of (Some end.WriteFault) = status.WriteFault
status_of (Some end.Memory) = status.Memory

-- what is said of it on the error stream
abbrev pub message_of : Option RehearseEnd → List ℕ
message_of None = codes "praefect: usage\n"
message_of (Some end.Done) = []
message_of (Some (end.BadLine n)) = codes "praefect: line " ++ decimal n ++ codes ": bad line\n"
message_of (Some end.TooLong) = codes "praefect: input too long\n"
message_of (Some end.ReadFault) = codes "praefect: read fault\n"
message_of (Some end.WriteFault) = codes "praefect: write fault\n"
message_of (Some end.Memory) = codes "praefect: out of memory\n"

-- The whole text went out and the stream did not fail, or a part from its front went out and it failed.
abbrev pub Says : Stream → Stream → List ℕ → Type 0
Says old new text =
    (Appends old.bytes new.bytes text × HasNotFailed old new)
    ⊎ (TakesPart old.bytes new.bytes text × HasFailed old new)

-- the words are no command, and nothing is read or printed; or the rehearsal came to this end
abbrev pub Ended : List (List ℕ) → Streams → Streams → Option RehearseEnd → Type 0
Ended words old new None = (words ≢ command) × (new ≡ old)
Ended words old new (Some end) = (words ≡ command) × Rehearses (2 ^ 40) old new end

-- What the run came to, with the status that it answered and what it said: by the words, by what it reads and prints to,
-- before and after, and by the error stream.
pub record Runs (words : List (List ℕ)) (old new : Streams) (said said' : Stream)
    (answer : Status) : Type 0 where
  pub end : Option RehearseEnd
  pub ended : Ended words old new end
  pub answers : answer ≡ status_of end
  pub says : Says said said' (message_of end)

-- a fault is answered only where that count rose, and the counts stay otherwise
abbrev pub RunHasCause : Streams → Streams → Status → Type 0
RunHasCause old new status.ReadFault =
    HasFailed old.input new.input × HasNotFailed old.out new.out
RunHasCause old new status.WriteFault =
    HasNotFailed old.input new.input × HasFailed old.out new.out
RunHasCause old new answer = HasNotFailed old.input new.input × HasNotFailed old.out new.out
