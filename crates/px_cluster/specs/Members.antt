-- Who takes part in a push: its primary, its members and their panel, and its targets.
use Rattle.std.specs.Prelude.{ℕ, ◌+◌, ◌/◌, ◌==◌, ◌&&◌, not, max, if◌then◌else◌, Bool, List, [], ◌∷◌, filter, length, map, Option, None, Some}
use Rattle.px_base.specs.declared.voter.Voter.{Voter}
use Rattle.voters.specs.Panel.{Roster}
use Rattle.px_cluster.specs.Book.{Replica, Repository, storages_where}
use Rattle.px_cluster.specs.Core.{Core, is_current, name_of}
use Rattle.px_cluster.specs.Numbers.{first_of, is_one_of}

-- a push may be done there: the storage is healthy, assigned, and at the newest generation
abbrev pub is_host : Core → Repository → Replica → Bool
is_host core repo replica = replica.assigned && is_current core repo replica

abbrev pub hosts : Core → Repository → List ℕ
hosts core repo = storages_where (is_host core repo) repo

-- the kept one, where it is among these, and else the first of them
abbrev pub kept_or_first : List ℕ → Option ℕ → Option ℕ
kept_or_first storages None = first_of storages
kept_or_first storages (Some kept) =
    if is_one_of kept storages then Some kept else first_of storages

-- the primary of the last push, where it may be one again; else the host of the least number
abbrev pub primary_of : Core → Repository → Option ℕ
primary_of core repo = kept_or_first (hosts core repo) repo.primary

-- the primary, and then the others
abbrev pub led_by : Option ℕ → List ℕ → List ℕ
led_by None storages = []
led_by (Some primary) storages =
    primary ∷ filter (λ storage. not (storage == primary)) storages

-- the primary and the other hosts by number
abbrev pub members : Core → Repository → List ℕ
members core repo = led_by (primary_of core repo) (hosts core repo)

-- the other assigned storages, by number: what the push brings reaches them by jobs
abbrev pub targets : Core → Repository → List ℕ
targets core repo = storages_where
    (λ (replica : Replica). replica.assigned && not (is_host core repo replica)) repo

-- ---- the panel

abbrev pub voter_with : Core → ℕ → ℕ → Voter
voter_with core weight storage = record { name = name_of core storage; weight = weight }

-- the primary weighs as much as all secondaries, and at least 1; each secondary weighs 1
abbrev pub voters_of : Core → List ℕ → List Voter
voters_of core [] = []
voters_of core (primary ∷ secondaries) =
    voter_with core (max 1 (length secondaries)) primary ∷ map (voter_with core 1) secondaries

-- no quorum is without the primary, and with it are half of the secondaries; alone it decides
abbrev pub threshold_for : ℕ → ℕ
threshold_for secondaries =
    if secondaries == 0 then 1 else secondaries + (secondaries + 1) / 2

abbrev pub panel_of : Core → List ℕ → Roster
panel_of core [] = record { voters = []; threshold = 1 }
panel_of core (primary ∷ secondaries) = record {
  voters = voters_of core (primary ∷ secondaries);
  threshold = threshold_for (length secondaries);
}
