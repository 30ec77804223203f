-- What the reader computes of the words of a line on reads and repairs. The rule of these lines
-- stands in RepairSpelling.
use Rattle.std.specs.Prelude.{ℕ, List, if◌then◌else◌, Option, None, option_map, codes}
use Rattle.std.specs.Str.{bytes_eq}
use Rattle.px_base.specs.declared.ids.RepoId.{RepoId}
use Rattle.px_ops.specs.declared.op.Op.TheVariants.{RouteRead}
use Rattle.px_script.specs.Reading.{and_then, at_end, repo_name_lease_of, repo_name_of, repo_of}
use Rattle.px_script.specs.Words.{lease_of, name_of, small_of}
use Rattle.px_script.specs.declared.event.Event.{Event}
use Rattle.px_script.specs.declared.event.Event.TheVariants.{Accept, AcceptBegin, Fence, Operation, Settle, SettleBegin}

-- a storage, a repository and a lease
abbrev pub fence_of : List (List ℕ) → Option Event
fence_of words =
    and_then name_of words (λ name words.
    and_then small_of words (λ repo words.
    and_then lease_of words (λ lease words.
    at_end (Fence name (record { 0 = repo }) lease) words)))

-- the event of a repository
abbrev pub route : RepoId → Event
route repo = Operation (RouteRead repo)

-- the events of a repository at a storage
abbrev pub accept : RepoId × List ℕ → Event
accept replica = AcceptBegin replica.0 replica.1

abbrev pub settle : RepoId × List ℕ → Event
settle replica = SettleBegin replica.0 replica.1

-- the events of a repository at a storage that was fenced by a lease
abbrev pub accepted : RepoId × List ℕ × ℕ → Event
accepted fenced = Accept fenced.0 fenced.1 fenced.2

abbrev pub settled : RepoId × List ℕ × ℕ → Event
settled fenced = Settle fenced.0 fenced.1 fenced.2

-- the event that begins with this word and goes on with those
abbrev pub repair_of : List ℕ → List (List ℕ) → Option Event
repair_of first words =
    if bytes_eq first (codes "read") then option_map route (repo_of words)
    else if bytes_eq first (codes "accept") then option_map accept (repo_name_of words)
    else if bytes_eq first (codes "settle") then option_map settle (repo_name_of words)
    else if bytes_eq first (codes "fence") then fence_of words
    else if bytes_eq first (codes "accepted") then option_map accepted (repo_name_lease_of words)
    else if bytes_eq first (codes "settled") then option_map settled (repo_name_lease_of words)
    else None
