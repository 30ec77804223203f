-- The streams of a run at a moment.
use Rattle.std.specs.Prelude.{◌≡◌, ◌≤◌, ℕ, List, Option}
use Rattle.px_base.specs.Causes.{Rose}

-- a stream: the bytes that a source has left, or a sink has taken, where it tells, and how often it has failed
pub record Stream : Type 0 where
  pub bytes : Option (List ℕ)
  pub faults : ℕ

-- what a run reads, and what it prints to
pub record Streams : Type 0 where
  pub input : Stream
  pub out : Stream

-- a stream, by its bytes and its faults
abbrev pub stream : Option (List ℕ) → ℕ → Stream
stream bytes faults = record { bytes = bytes; faults = faults }

-- both streams, by the bytes and the faults of each
abbrev pub streams : Option (List ℕ) → ℕ → Option (List ℕ) → ℕ → Streams
streams left reads taken writes = record { input = stream left reads; out = stream taken writes }

-- the stream failed, and its count rose
abbrev pub HasFailed : Stream → Stream → Type 0
HasFailed old new = (old.faults ≤ new.faults) × Rose old.faults new.faults

-- the stream did not fail
abbrev pub HasNotFailed : Stream → Stream → Type 0
HasNotFailed old new = new.faults ≡ old.faults
