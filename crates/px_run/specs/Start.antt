-- What the process comes to, from its arguments to its exit status.
use Rattle.std.specs.Prelude.{◌≡◌, ◌⊎◌, ℕ, List, [], ◌∷◌, codes}
use Rattle.script_run.specs.Stream.{Stream, Streams}
use Rattle.px_run.specs.Run.{Runs, Says, status_code}
use Rattle.px_run.specs.declared.status.Status.{Status}

-- the words behind the program's name, which is the first argument
abbrev pub behind_name : List (List ℕ) → List (List ℕ)
behind_name [] = []
behind_name (name ∷ words) = words

-- memory wanted before anything was read or printed, and that was said
pub record WantsMemory (old new : Streams) (said said' : Stream) (code : ℕ) : Type 0 where
  pub status : code ≡ 7
  pub same : new ≡ old
  pub says : Says said said' (codes "praefect: out of memory\n")

-- the words were run, and the exit status is that of their run
pub record RunsWords (words : List (List ℕ)) (old new : Streams) (said said' : Stream) (code : ℕ)
    : Type 0 where
  pub answer : Status
  pub runs : Runs words old new said said' answer
  pub status : code ≡ status_code answer

-- what the process came to, with this exit status
abbrev pub Starts : List (List ℕ) → Streams → Streams → Stream → Stream → ℕ → Type 0
Starts words old new said said' code =
    WantsMemory old new said said' code ⊎ RunsWords words old new said said' code
