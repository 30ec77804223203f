-- What is kept of each lease, by its repository and storage.
use Rattle.std.specs.Prelude.{◌≡◌, ℕ, Bool, true, cond, List, IsSome, Option, Some}
use Rattle.std.specs.Map.{lookup}
use Rattle.std.specs.Option.{option_flatten}
use Rattle.std.specs.Ordering.{eq_by_cmp, nat_cmp, ordering_then}
use Rattle.std.specs.declared.cmp.Ordering.{Ordering}
use Rattle.px_cluster.specs.Ids.{repo_id, storage_id}
use Rattle.px_cluster.specs.Ledger.{Ledger}
use Rattle.px_cluster.specs.Numbers.{is_one_of}
use Rattle.issued.specs.Purposes.{purpose_of}
use Rattle.issued.specs.declared.draw.Draw.{Draw}
use Rattle.issued.specs.declared.purpose.Purpose.{Purpose}

-- the draw of these numbers
abbrev pub draw_of : ℕ → ℕ → ℕ → Draw
draw_of repo storage lease =
    record { repo = repo_id repo; storage = storage_id storage; lease = lease }

-- the order of draws: by repository, by storage, and by lease
abbrev pub draw_cmp : Draw → Draw → Ordering
draw_cmp a b = ordering_then (nat_cmp a.repo.0 b.repo.0)
    (ordering_then (nat_cmp a.storage.0 b.storage.0) (nat_cmp a.lease b.lease))

-- the two are one draw
abbrev pub is_draw : Draw → Draw → Bool
is_draw = eq_by_cmp draw_cmp

-- each draw that there is room for, with what is kept of it, where something is
abbrev pub Draws : Type 0
Draws = List (Draw × Option Purpose)

abbrev pub room_at : Draws → Draw → Option (Option Purpose)
room_at draws draw = lookup (is_draw draw) draws

abbrev pub kept_at : Draws → Draw → Option Purpose
kept_at draws draw = option_flatten (room_at draws draw)

-- the ledger that they make
abbrev pub ledger_of : Draws → Ledger
ledger_of draws repo storage lease = purpose_of (kept_at draws (draw_of repo storage lease))

-- there is room for the lease at each of these storages
abbrev pub HasRoom : Draws → ℕ → List ℕ → ℕ → Type 0
HasRoom draws repo storages lease = (storage : ℕ) → is_one_of storage storages ≡ true
    → IsSome (room_at draws (draw_of repo storage lease))

-- ---- what a step leaves

-- no room is lost
abbrev pub KeepsRoom : Draws → Draws → Type 0
KeepsRoom old new = (draw : Draw) → IsSome (room_at old draw) → IsSome (room_at new draw)

-- this is kept of one draw, and of each other what was kept before
abbrev pub Keeps : Draw → Option Purpose → Draws → Draws → Type 0
Keeps draw kept old new = (other : Draw)
    → room_at new other ≡ cond (is_draw draw other) (Some kept) (room_at old other)
