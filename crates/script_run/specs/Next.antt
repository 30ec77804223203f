-- The next line of a script of which so many bytes more may come.
use Rattle.std.specs.Prelude.{◌≡◌, ◌≢◌, ◌⊎◌, ℕ, ◌+◌, ◌<◌, ◌≤◌, Bool, true, false, List, [], ◌∷◌, ◌++◌, length}
use Rattle.std.specs.Io.KnownBytes.{Consumes, Keeps, IsAtEnd}
use Rattle.px_base.specs.Line.{HasNoLf}
use Rattle.script_run.specs.Script.{line_limit}
use Rattle.script_run.specs.Stream.{HasFailed, HasNotFailed, Stream}
use Rattle.script_run.specs.declared.next.Next.{Next}
use Rattle.script_run.specs.declared.next.Next.TheVariants as next

-- the bytes of a line: with its line feed, which the last one lacks
abbrev pub bytes_of : Bool → List ℕ → List ℕ
bytes_of true line = line
bytes_of false line = line ++ 10 ∷ []

-- Behind these bytes a line was read, and all of it is within the limit. The last line has a byte, and nothing is left
-- behind it.
pub record IsLine (limit : ℕ) (old new : Stream) (before line : List ℕ) (last : Bool)
    : Type 0 where
  pub part : HasNoLf line
  pub short : length line ≤ line_limit
  pub fits : length (before ++ bytes_of last line) ≤ limit
  pub consumed : Consumes old.bytes new.bytes (before ++ bytes_of last line)
  pub at_end : last ≡ true → (line ≢ []) × IsAtEnd new.bytes

-- Behind these bytes came one byte more than a line may have. All but that one are within the limit.
pub record IsOverlong (limit : ℕ) (old new : Stream) (before line : List ℕ) : Type 0 where
  pub part : HasNoLf line
  pub size : length line ≡ line_limit + 1
  pub within : length before + line_limit ≤ limit
  pub consumed : Consumes old.bytes new.bytes (before ++ line)

-- Behind these bytes came the byte behind the limit. It ends a line that is not too long, or stands in one that is not
-- too long with it.
pub record IsTooLong (limit : ℕ) (old new : Stream) (before : List ℕ) : Type 0 where
  pub cut : List ℕ
  pub over : ℕ
  pub part : HasNoLf cut
  pub reaches : length (before ++ cut) ≡ limit
  pub short : (length cut < line_limit) ⊎ ((over ≡ 10) × (length cut ≤ line_limit))
  pub consumed : Consumes old.bytes new.bytes (before ++ (cut ++ over ∷ []))

-- behind these bytes a part of a line was read, or nothing; it is within both limits
pub record IsPart (limit : ℕ) (old new : Stream) (before : List ℕ) : Type 0 where
  pub rest : List ℕ
  pub part : HasNoLf rest
  pub short : length rest ≤ line_limit
  pub fits : length (before ++ rest) ≤ limit
  pub consumed : Consumes old.bytes new.bytes (before ++ rest)

-- what reading a line came to, by the source before and after, and by the bytes of the line
abbrev pub NextGives : ℕ → Stream → Stream → List ℕ → Next → Type 0
NextGives room old new line (next.Line last) = IsLine room old new [] line last
NextGives room old new line next.End = Keeps old.bytes new.bytes × IsAtEnd new.bytes
NextGives room old new line next.Overlong = (long : List ℕ) × IsOverlong room old new [] long
NextGives room old new line next.TooLong = IsTooLong room old new []
NextGives room old new line next.ReadFault = IsPart room old new []
NextGives room old new line next.Memory = IsPart room old new []

-- a read fault comes only where the count rose, and the count stays otherwise
abbrev pub NextHasCause : Stream → Stream → Next → Type 0
NextHasCause old new next.ReadFault = HasFailed old new
NextHasCause old new end = HasNotFailed old new
