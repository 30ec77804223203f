-- What the reader computes of the words of a line on storages and repositories. The rule of these
-- lines stands in ClusterSpelling.
use Rattle.std.specs.Prelude.{ℕ, List, if◌then◌else◌, Option, None, option_map, codes}
use Rattle.std.specs.Str.{bytes_eq}
use Rattle.px_ops.specs.declared.op.Op.TheVariants.{Admit, Booked, Create, Holder}
use Rattle.px_script.specs.Names.{path_of}
use Rattle.px_script.specs.Reading.{and_then, at_end, repo_of}
use Rattle.px_script.specs.Words.{health_of, lease_of, name_of, small_of}
use Rattle.px_script.specs.declared.event.Event.{Event}
use Rattle.px_script.specs.declared.event.Event.TheVariants.{Enrol, Health, Make, Operation, Refs}

-- a virtual storage and a storage
abbrev pub storage_of : List (List ℕ) → Option Event
storage_of words =
    and_then name_of words (λ virt words.
    and_then name_of words (λ name words. at_end (Operation (Admit virt name)) words))

-- a storage, and whether it can be reached
abbrev pub up_or_down_of : List (List ℕ) → Option Event
up_or_down_of words =
    and_then name_of words (λ name words.
    and_then health_of words (λ up words. at_end (Health name up) words))

-- a virtual storage, a path and a factor
abbrev pub create_of : List (List ℕ) → Option Event
create_of words =
    and_then name_of words (λ virt words.
    and_then path_of words (λ path words.
    and_then small_of words (λ factor words. at_end (Operation (Create virt path factor)) words)))

-- a storage, a repository and a lease
abbrev pub make_of : List (List ℕ) → Option Event
make_of words =
    and_then name_of words (λ name words.
    and_then small_of words (λ repo words.
    and_then lease_of words (λ lease words.
    at_end (Make name (record { 0 = repo }) lease) words)))

-- a repository, a storage and a lease
abbrev pub enrol_of : List (List ℕ) → Option Event
enrol_of words =
    and_then small_of words (λ repo words.
    and_then name_of words (λ name words.
    and_then lease_of words (λ lease words.
    at_end (Enrol (record { 0 = repo }) name lease) words)))

-- a storage and a repository
abbrev pub refs_of : List (List ℕ) → Option Event
refs_of words =
    and_then name_of words (λ name words.
    and_then small_of words (λ repo words. at_end (Refs name (record { 0 = repo })) words))

-- the event that begins with this word and goes on with those
abbrev pub cluster_of : List ℕ → List (List ℕ) → Option Event
cluster_of first words =
    if bytes_eq first (codes "storage") then storage_of words
    else if bytes_eq first (codes "health") then up_or_down_of words
    else if bytes_eq first (codes "create") then create_of words
    else if bytes_eq first (codes "make") then make_of words
    else if bytes_eq first (codes "enrol") then enrol_of words
    else if bytes_eq first (codes "refs") then refs_of words
    else if bytes_eq first (codes "booked")
    then option_map (λ repo. Operation (Booked repo)) (repo_of words)
    else if bytes_eq first (codes "holder")
    then option_map (λ repo. Operation (Holder repo)) (repo_of words)
    else None
