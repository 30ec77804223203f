-- The counts of the reads of repositories, and what a read asks for of the open push.
use Rattle.std.specs.Prelude.{ℕ, ◌+◌, ◌^◌, ◌%◌, nat_lt, if◌then◌else◌, List, [], ◌∷◌, ◌++◌, length, set, slice_get, unwrap_or, Option, None, Some}
use Rattle.px_cluster.specs.Core.{Core, OpenPush, voting}
use Rattle.px_cluster.specs.Reads.{is_decided}
use Rattle.router.specs.declared.read_route.PushUnderway.{PushUnderway}

-- a repository has a count: 0 at first, and its own where it has one
abbrev pub with_count : ℕ → List ℕ → List ℕ
with_count repo reads = if nat_lt repo (length reads) then reads else reads ++ 0 ∷ []

-- one more read was routed; 0 follows 2^64 - 1
abbrev pub with_one_more : ℕ → List ℕ → List ℕ
with_one_more repo reads = set reads repo ((unwrap_or (slice_get reads repo) 0 + 1) % 2 ^ 64)

-- the transaction of the push, and whether it is decided
abbrev pub underway_in : Core → Option OpenPush → Option PushUnderway
underway_in core None = None
underway_in core (Some push) =
    Some (record { tx = push.tx; decided = is_decided (voting core push.tx) })
