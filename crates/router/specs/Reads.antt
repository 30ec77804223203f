-- Where a read goes, or why it goes nowhere.
use Rattle.std.specs.Prelude.{ℕ, ◌%◌, ◌==◌, ◌&&◌, if◌then◌else◌, length, slice_get, unwrap_or, Option, None, Some}
use Rattle.px_cluster.specs.Book.{Repository}
use Rattle.px_cluster.specs.Core.{Core}
use Rattle.px_cluster.specs.Ids.{gen, storage_id}
use Rattle.px_cluster.specs.Pushes.{count_newest}
use Rattle.px_cluster.specs.Reads.{current}
use Rattle.router.specs.declared.read_route.PushUnderway.{PushUnderway}
use Rattle.router.specs.declared.read_route.ReadRoute.{ReadRoute}
use Rattle.router.specs.declared.read_route.ReadRoute.TheVariants.{InFlight, NoCurrentReplica, Route}

-- no storage is current: the open push is decided and no replica is known to have it yet, or no
-- storage that is up has a copy
abbrev pub no_route : Repository → Option PushUnderway → ReadRoute
no_route repo None = NoCurrentReplica (gen repo.newest) (count_newest repo)
no_route repo (Some push) =
    if push.decided && (count_newest repo == 0) then InFlight push.tx
    else NoCurrentReplica (gen repo.newest) (count_newest repo)

-- the current storage whose turn it is after so many reads
abbrev pub in_turn : Core → Repository → ℕ → ℕ
in_turn core repo reads = unwrap_or
    (slice_get (current core repo) (reads % length (current core repo))) 0

-- a read goes to the current storages in turn, where there is one
abbrev pub read_route : Core → Repository → ℕ → Option PushUnderway → ReadRoute
read_route core repo reads push =
    if length (current core repo) == 0 then no_route repo push
    else Route (storage_id (in_turn core repo reads)) (gen repo.newest)
