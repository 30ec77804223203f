-- What never falls, and what a read that was routed is answered later.
use Rattle.std.specs.Prelude.{◌≡◌, ◌≢◌, ◌≤◌, ℕ, false, true, Some}
use Rattle.replica_invariant.specs.Booking.{Absent, At, generation}
use Rattle.replica_invariant.specs.Contents.{Content}
use Rattle.replica_invariant.specs.Invariant.{Invariant}
use Rattle.replica_invariant.specs.State.{Shared, State}
use Rattle.safe_states.specs.Happens.{Happens}
use Rattle.safe_states.specs.Safe.{Holds}

-- Newest and the last lease do not fall. An entry keeps its lease and its hash, and once it has a
-- content, that too.
pub record LogGrows (old new : Shared) : Type 0 where
  pub newest : old.newest ≤ new.newest
  pub last : old.last ≤ new.last
  pub lease : (generation : ℕ) → generation ≤ old.newest
      → (new.entry generation).lease ≡ (old.entry generation).lease
  pub hash : (generation : ℕ) → generation ≤ old.newest
      → (new.entry generation).hash ≡ (old.entry generation).hash
  pub content : (generation : ℕ) (refs : Content) → generation ≤ old.newest
      → (old.entry generation).content ≡ Some refs → (new.entry generation).content ≡ Some refs

-- Nor does the greatest generation that a replica was ever booked at.
pub record Grows (old new : State) : Type 0 where
  pub log : LogGrows old.shared new.shared
  pub floor : (storage held : ℕ) → (old.replica storage).floor ≡ Some held
      → (now : ℕ) × ((new.replica storage).floor ≡ Some now) × (held ≤ now)

-- any events, one after the other
pub data LeadsTo : State → State → Type 0 where
  Stays : (state : State) → LeadsTo state state
  Then : (old between new : State) → LeadsTo old between → Happens between new → LeadsTo old new

abbrev pub NothingFalls : Type 0
NothingFalls = (old new : State) → Invariant old → LeadsTo old new → Grows old new

-- the generation of a booking at one or in doubt, also over a time of absence
abbrev pub BookingsGrow : Type 0
BookingsGrow = (old new : State) (storage : ℕ) → Invariant old → LeadsTo old new
    → (old.replica storage).booking ≢ Absent → (new.replica storage).booking ≢ Absent
    → generation (old.replica storage).booking ≤ generation (new.replica storage).booking

-- A read is routed to a replica that is booked at a generation, and its node is asked later: it
-- holds the content of that generation or of a later one, or nothing, and then a delete was taken.
abbrev pub RoutedReads : Type 0
RoutedReads = (old new : State) (storage routed : ℕ) → Invariant old → LeadsTo old new
    → (old.replica storage).booking ≡ At routed
    → ((new.replica storage).node.held ≡ true → (generation : ℕ) × (routed ≤ generation)
    × (generation ≤ new.shared.newest) × Holds new.shared (new.replica storage) generation)
    × ((new.replica storage).node.held ≡ false → (new.replica storage).booking ≡ Absent)
