-- What a machine does with one line.
use Rattle.std.specs.Prelude.{◌≡◌, ◌⊎◌, ◌++◌, ℕ, List, Some, None}
use Rattle.script_run.specs.Machine.{Machine}
use Rattle.script_run.specs.Script.{IsBad}
use Rattle.script_run.specs.declared.machine.Act.{Act}
use Rattle.script_run.specs.declared.machine.Act.TheVariants as act

-- the line asks an event, which is answered so and led from s to s'
pub record Does {S E R : Type 0} (m : Machine S E R) (s s' : S) (line : List ℕ) : Type 0 where
  pub event : E
  pub asks : m.asks (Some event) line
  pub reply : R
  pub does_ : m.does s event reply s'

-- the line asks an event, which led from s to s', and what is printed of its reply was added to the text
pub record Prints {S E R : Type 0} (m : Machine S E R) (s s' : S) (line old new : List ℕ)
    : Type 0 where
  pub event : E
  pub asks : m.asks (Some event) line
  pub reply : R
  pub does_ : m.does s event reply s'
  pub printed : new ≡ old ++ m.text reply

-- what a machine in state s did with the line, its state after that, and the text before and after
abbrev pub Acts : {S E R : Type 0} → Machine S E R → S → S → List ℕ → List ℕ → List ℕ → Act → Type 0
Acts m s s' line old new act.Nothing = m.asks None line × (s' ≡ s)
Acts m s s' line old new act.Prints = Prints m s s' line old new
Acts m s s' line old new act.Bad = IsBad m line × (s' ≡ s)
Acts m s s' line old new act.Memory = (s' ≡ s) ⊎ Does m s s' line
