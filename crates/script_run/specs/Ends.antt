-- How the run of a script ends: what was read of it, what the machine did, and what went out.
use Rattle.std.specs.Prelude.{◌≡◌, ◌⊎◌, ℕ, ◌+◌, ◌≤◌, Bool, List, length, Some}
use Rattle.std.specs.Io.KnownBytes.{Consumes, IsAtEnd}
use Rattle.px_base.specs.Sink.{TakesPart}
use Rattle.script_run.specs.Acts.{Does}
use Rattle.script_run.specs.Machine.{Machine}
use Rattle.script_run.specs.Next.{IsLine, IsOverlong, IsPart, IsTooLong}
use Rattle.script_run.specs.Script.{AreLinesOf, ended, IsBad, IsLawful, Played}
use Rattle.script_run.specs.Stream.{HasFailed, HasNotFailed, Stream, Streams}
use Rattle.script_run.specs.declared.run.RehearseEnd.{RehearseEnd}
use Rattle.script_run.specs.declared.run.RehearseEnd.TheVariants as end

-- the whole input is these lines, which were done, and none is left
pub record PlaysAll {S E R : Type 0} (m : Machine S E R) (limit : ℕ) (s s' : S)
    (old new : Streams) : Type 0 where
  pub lines : List (List ℕ)
  pub played : Played m s s' old.out new.out lines
  pub text : List ℕ
  pub whole : AreLinesOf lines text
  pub fits : length text ≤ limit
  pub consumed : Consumes old.input.bytes new.input.bytes text
  pub at_end : IsAtEnd new.input.bytes

-- behind these bytes a line was read, be it the last one or not
abbrev pub ReadsLine : ℕ → Stream → Stream → List ℕ → List ℕ → Type 0
ReadsLine limit old new before line = (last : Bool) × IsLine limit old new before line last

-- the line with this number is the first bad one: it asks nothing that the machine knows, or is too long
pub record StopsAtBad {S E R : Type 0} (m : Machine S E R) (limit : ℕ) (s s' : S)
    (old new : Streams) (number : ℕ) : Type 0 where
  pub lines : List (List ℕ)
  pub played : Played m s s' old.out new.out lines
  pub counted : number ≡ length lines + 1
  pub line : List ℕ
  pub bad : (ReadsLine limit old.input new.input (ended lines) line × IsBad m line)
      ⊎ IsOverlong limit old.input new.input (ended lines) line

-- behind the lines that were done came the byte behind the limit
pub record StopsTooLong {S E R : Type 0} (m : Machine S E R) (limit : ℕ) (s s' : S)
    (old new : Streams) : Type 0 where
  pub lines : List (List ℕ)
  pub played : Played m s s' old.out new.out lines
  pub over : IsTooLong limit old.input new.input (ended lines)

-- the lines that were read whole were done, and a part of one more was read, all within the limit
pub record StopsUnread {S E R : Type 0} (m : Machine S E R) (limit : ℕ) (s s' : S)
    (old new : Streams) : Type 0 where
  pub lines : List (List ℕ)
  pub played : Played m s s' old.out new.out lines
  pub reads : IsPart limit old.input new.input (ended lines)

-- Of the very line that was read last, a part of what it prints went out; all that the lines before it print had gone
-- out.
pub record StopsInLine {S E R : Type 0} (m : Machine S E R) (limit : ℕ) (s s' : S)
    (old new : Streams) : Type 0 where
  pub lines : List (List ℕ)
  pub state : S
  pub out : Stream
  pub played : Played m s state old.out out lines
  pub line : List ℕ
  pub reads : ReadsLine limit old.input new.input (ended lines) line
  pub event : E
  pub lawful : IsLawful m (Some event) line
  pub reply : R
  pub does_ : m.does state event reply s'
  pub printed : TakesPart out.bytes new.out.bytes (m.text reply)

-- memory wanted as a line was read: the machine is where the lines before led
pub record WantsReading {S : Type 0} (limit : ℕ) (state s' : S) (old new : Stream)
    (before : List ℕ) : Type 0 where
  pub reads : IsPart limit old new before
  pub led : s' ≡ state

-- memory wanted as a line that was read was done: the machine is as before its event or as after it
pub record WantsActing {S E R : Type 0} (m : Machine S E R) (limit : ℕ) (state s' : S)
    (old new : Stream) (before : List ℕ) : Type 0 where
  pub line : List ℕ
  pub reads : ReadsLine limit old new before line
  pub led : (s' ≡ state) ⊎ Does m state s' line

-- Memory wanted in the line behind those that were done, and nothing of it went out.
pub record StopsForMemory {S E R : Type 0} (m : Machine S E R) (limit : ℕ) (s s' : S)
    (old new : Streams) : Type 0 where
  pub lines : List (List ℕ)
  pub state : S
  pub played : Played m s state old.out new.out lines
  pub wants : WantsReading limit state s' old.input new.input (ended lines)
      ⊎ WantsActing m limit state s' old.input new.input (ended lines)

-- what a run of a script of at most so many bytes came to, by the machine's states and by the streams, before and after
abbrev pub Ends : {S E R : Type 0} → Machine S E R → ℕ → S → S → Streams → Streams → RehearseEnd
    → Type 0
Ends m limit s s' old new end.Done = PlaysAll m limit s s' old new
Ends m limit s s' old new (end.BadLine number) = StopsAtBad m limit s s' old new number
Ends m limit s s' old new end.TooLong = StopsTooLong m limit s s' old new
Ends m limit s s' old new end.ReadFault = StopsUnread m limit s s' old new
Ends m limit s s' old new end.WriteFault = StopsInLine m limit s s' old new
Ends m limit s s' old new end.Memory = StopsForMemory m limit s s' old new

-- a fault comes only where that count rose, and the counts stay otherwise
abbrev pub EndHasCause : Streams → Streams → RehearseEnd → Type 0
EndHasCause old new end.ReadFault =
    HasFailed old.input new.input × HasNotFailed old.out new.out
EndHasCause old new end.WriteFault =
    HasNotFailed old.input new.input × HasFailed old.out new.out
EndHasCause old new end = HasNotFailed old.input new.input × HasNotFailed old.out new.out
