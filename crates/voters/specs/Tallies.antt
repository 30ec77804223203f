-- Running sums, one for each hash.
use Rattle.std.specs.Prelude.{◌≡◌, ℕ, ◌+◌, ◌-◌, ◌<◌, ◌≤◌, ◌^◌, Bool, true, if◌then◌else◌, List, [], ◌∷◌, ◌++◌, map, Option, None, Some}
use Rattle.std.specs.List.{All, list_any}
use Rattle.px_base.specs.declared.hash.Hash.{Hash}
use Rattle.px_base.specs.Hash.{same_hash}
use Rattle.voters.specs.declared.tally.Tally.{Tally}

-- the tally is that of the hash
abbrev pub is_for : Hash → Tally → Bool
is_for hash tally = same_hash tally.hash hash

-- the tally, with so much more where it is that of the hash
abbrev pub raised : Hash → ℕ → Tally → Tally
raised hash by tally =
    if is_for hash tally then record tally { weight = tally.weight + by } else tally

-- the tally, with so much less where it is that of the hash
abbrev pub lowered : Hash → ℕ → Tally → Tally
lowered hash by tally =
    if is_for hash tally then record tally { weight = tally.weight - by } else tally

-- the weight of the first tally for a hash, or 0
abbrev pub tally_of : Hash → List Tally → ℕ
tally_of hash [] = 0
tally_of hash (tally ∷ tallies) = if is_for hash tally then tally.weight else tally_of hash tallies

-- each tally may gain so much and stay within 64 bits
abbrev pub FitsRaised : ℕ → List Tally → Type 0
FitsRaised by tallies = All (λ tally. tally.weight + by < 2 ^ 64) tallies

-- each tally of the hash has at least so much
abbrev pub CanBeLowered : Hash → ℕ → List Tally → Type 0
CanBeLowered hash by tallies = All (λ tally. is_for hash tally ≡ true → by ≤ tally.weight) tallies

-- a vote of that weight is counted
abbrev pub with_vote : Hash → ℕ → List Tally → List Tally
with_vote hash by tallies =
    if list_any (is_for hash) tallies then map (raised hash by) tallies
    else tallies ++ record { hash = hash; weight = by } ∷ []

-- a vote of that weight, where there was one, is counted no more
abbrev pub without_vote : Option Hash → ℕ → List Tally → List Tally
without_vote None by tallies = tallies
without_vote (Some hash) by tallies = map (lowered hash by) tallies
