-- How what fails at chosen calls counts them, and what a sink in memory takes.
use Rattle.std.specs.Prelude.{◌≡◌, ℕ, List, length, Contains, ⊤}
use Rattle.px_base.specs.Causes.{one_more}
use Rattle.px_base.specs.declared.sink.WriteEnd.{WriteEnd}
use Rattle.px_base.specs.declared.sink.WriteEnd.TheVariants.{Took, Failed}

-- the call was counted, and the list of the chosen ones stays
pub record CountsCall {A : Type 0} (calls calls' : ℕ) (failing failing' : List A) : Type 0 where
  pub counted : calls' ≡ one_more calls
  pub same : failing' ≡ failing

-- the calls that fail, by their numbers, and how many there were; the first has the number 1
pub record CountedCalls : Type 0 where
  pub failing : List ℕ
  pub calls : ℕ

-- no call has come yet
abbrev pub uncalled : List ℕ → CountedCalls
uncalled failing = record { failing = failing; calls = 0 }

-- the call that comes next is one of those that fail
abbrev pub NextFails : CountedCalls → Type 0
NextFails calls = Contains calls.failing (one_more calls.calls)

-- the call that came was counted, and those that fail stay
abbrev pub CountsNext : CountedCalls → CountedCalls → Type 0
CountsNext old new = CountsCall old.calls new.calls old.failing new.failing

-- a write that did not fail took all that was offered
abbrev pub TakesAll : List ℕ → WriteEnd → Type 0
TakesAll bytes (Took n) = n ≡ length bytes
TakesAll bytes Failed = ⊤
