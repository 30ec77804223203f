-- What playing one line does: the machine's event, and what it prints.
use Rattle.std.specs.Prelude.{◌≡◌, ◌⊎◌, ℕ, List, Some, None}
use Rattle.std.specs.Io.KnownBytes.{Appends}
use Rattle.px_base.specs.Sink.{TakesPart}
use Rattle.script_run.specs.Acts.{Does}
use Rattle.script_run.specs.Machine.{Machine}
use Rattle.script_run.specs.Script.{IsBad}
use Rattle.script_run.specs.Stream.{HasFailed, HasNotFailed, Stream}
use Rattle.script_run.specs.declared.playing.Play.{Play}
use Rattle.script_run.specs.declared.playing.Play.TheVariants as play

-- the line asks an event, and all that is printed of it went out
pub record PrintsLine {S E R : Type 0} (m : Machine S E R) (s s' : S) (old new : Stream)
    (line : List ℕ) : Type 0 where
  pub event : E
  pub asks : m.asks (Some event) line
  pub reply : R
  pub does_ : m.does s event reply s'
  pub written : Appends old.bytes new.bytes (m.text reply)

-- the line asks nothing, and nothing happens
pub record StaysSilent {S E R : Type 0} (m : Machine S E R) (s s' : S) (old new : Stream)
    (line : List ℕ) : Type 0 where
  pub asks : m.asks None line
  pub led : s' ≡ s
  pub written : new.bytes ≡ old.bytes

-- the line asks an event, and a part of what is printed of it went out
pub record PrintsPart {S E R : Type 0} (m : Machine S E R) (s s' : S) (old new : Stream)
    (line : List ℕ) : Type 0 where
  pub event : E
  pub asks : m.asks (Some event) line
  pub reply : R
  pub does_ : m.does s event reply s'
  pub printed : TakesPart old.bytes new.bytes (m.text reply)

-- what playing a line came to, by the machine's states and by the sink before and after
abbrev pub Plays : {S E R : Type 0} → Machine S E R → S → S → Stream → Stream → List ℕ → Play → Type 0
Plays m s s' old new line play.Done =
    (StaysSilent m s s' old new line ⊎ PrintsLine m s s' old new line) × HasNotFailed old new
Plays m s s' old new line play.Bad = IsBad m line × (s' ≡ s) × (new ≡ old)
Plays m s s' old new line play.WriteFault = PrintsPart m s s' old new line × HasFailed old new
Plays m s s' old new line play.Memory = ((s' ≡ s) ⊎ Does m s s' line) × (new ≡ old)
