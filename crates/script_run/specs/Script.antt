-- The lines of a script, and what they ask.
use Rattle.std.specs.Prelude.{◌≡◌, ◌≢◌, ◌⊎◌, ℕ, ◌≤◌, List, [], ◌∷◌, ◌++◌, length, flat_map, Option}
use Rattle.std.specs.List.{AllByRecursion}
use Rattle.std.specs.Io.KnownBytes.{Appends}
use Rattle.px_base.specs.Line.{HasNoLf}
use Rattle.script_run.specs.Machine.{Machine, Runs, events, output}
use Rattle.script_run.specs.Stream.{Stream}

-- the most bytes of a line, beside its line feed
abbrev pub line_limit : ℕ
line_limit = 1048576

-- the bytes of lines, each with its line feed
abbrev pub ended : List (List ℕ) → List ℕ
ended lines = flat_map (λ line. line ++ 10 ∷ []) lines

-- no line feed stands within a line
abbrev pub AreLines : List (List ℕ) → Type 0
AreLines lines = AllByRecursion HasNoLf lines

-- the bytes of lines of which the last one has a byte, and lacks its line feed
pub record LacksFeed (lines : List (List ℕ)) (text : List ℕ) : Type 0 where
  pub front : List (List ℕ)
  pub last : List ℕ
  pub whole : lines ≡ front ++ last ∷ []
  pub some : last ≢ []
  pub is : text ≡ ended front ++ last

-- the lines of a text: each ends with a line feed, but the last may lack it
abbrev pub AreLinesOf : List (List ℕ) → List ℕ → Type 0
AreLinesOf lines text = AreLines lines × ((text ≡ ended lines) ⊎ LacksFeed lines text)

-- the line asks this, and is not above the greatest length
pub record IsLawful {S E R : Type 0} (m : Machine S E R) (asked : Option E) (line : List ℕ)
    : Type 0 where
  pub short : length line ≤ line_limit
  pub asks : m.asks asked line

-- each line is lawful, and asks what stands at its place
abbrev pub AllAsk : {S E R : Type 0} → Machine S E R → List (Option E) → List (List ℕ) → Type 0
AllAsk m [] [] = Unit {0}
AllAsk m [] (line ∷ lines) = ⊥
AllAsk m (asked ∷ more) [] = ⊥
AllAsk m (asked ∷ more) (line ∷ lines) = IsLawful m asked line × AllAsk m more lines

-- the line is bad: there is no event that it asks, and it is not one that asks nothing
abbrev pub IsBad : {S E R : Type 0} → Machine S E R → List ℕ → Type 0
IsBad {E = E} m line = (asked : Option E) → m.asks asked line → ⊥

-- These lines were done: each is lawful, their events were answered so and led to where the machine is, and all that
-- is printed of the replies went out.
pub record Played {S E R : Type 0} (m : Machine S E R) (s s' : S) (old new : Stream)
    (lines : List (List ℕ)) : Type 0 where
  pub parts : AreLines lines
  pub asked : List (Option E)
  pub lawful : AllAsk m asked lines
  pub replies : List R
  pub run : Runs m s (events asked) replies s'
  pub written : Appends old.bytes new.bytes (output m replies)
