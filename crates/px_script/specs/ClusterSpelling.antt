-- How the events on storages and repositories are spelled.
use Rattle.std.specs.Prelude.{◌<◌, ◌-◌, ◌^◌, ◌≡◌, ℕ, List, [], ◌∷◌, Bool, true, false, codes, decimal}
use Rattle.px_base.specs.RepoPath.{IsRepoPath}
use Rattle.px_base.specs.StorageName.{IsStorageName}
use Rattle.px_ops.specs.declared.op.Op.TheVariants.{Admit, Booked, Create, Holder}
use Rattle.px_script.specs.declared.event.Event.{Event}
use Rattle.px_script.specs.declared.event.Event.TheVariants.{Enrol, Health, Make, Operation, Refs}

-- whether a storage can be reached, as one word
abbrev pub health_word : Bool → List ℕ
health_word true = codes "up"
health_word false = codes "down"

-- the words of an event; numbers are decimal, with no sign and no leading zero; another event than
-- these has none
abbrev pub cluster_words : Event → List (List ℕ)
cluster_words (Operation (Admit virt name)) = codes "storage" ∷ virt ∷ name ∷ []
cluster_words (Health name up) = codes "health" ∷ name ∷ health_word up ∷ []
cluster_words (Operation (Create virt path factor)) =
    codes "create" ∷ virt ∷ path ∷ decimal factor ∷ []
cluster_words (Make name repo lease) =
    codes "make" ∷ name ∷ decimal repo.0 ∷ decimal lease ∷ []
cluster_words (Enrol repo name lease) =
    codes "enrol" ∷ decimal repo.0 ∷ name ∷ decimal lease ∷ []
cluster_words (Refs name repo) = codes "refs" ∷ name ∷ decimal repo.0 ∷ []
cluster_words (Operation (Booked repo)) = codes "booked" ∷ decimal repo.0 ∷ []
cluster_words (Operation (Holder repo)) = codes "holder" ∷ decimal repo.0 ∷ []
cluster_words other = []

-- one of these events, whose names are those of storages, whose path is a repository's, and whose
-- numbers are in their ranges
abbrev pub IsLawfulCluster : Event → Type 0
IsLawfulCluster (Operation (Admit virt name)) = IsStorageName virt × IsStorageName name
IsLawfulCluster (Health name up) = IsStorageName name
IsLawfulCluster (Operation (Create virt path factor)) =
    IsStorageName virt × IsRepoPath path × (factor < 2 ^ 32)
IsLawfulCluster (Make name repo lease) =
    IsStorageName name × (repo.0 < 2 ^ 32) × (lease < 2 ^ 64 - 1)
IsLawfulCluster (Enrol repo name lease) =
    (repo.0 < 2 ^ 32) × IsStorageName name × (lease < 2 ^ 64 - 1)
IsLawfulCluster (Refs name repo) = IsStorageName name × (repo.0 < 2 ^ 32)
IsLawfulCluster (Operation (Booked repo)) = repo.0 < 2 ^ 32
IsLawfulCluster (Operation (Holder repo)) = repo.0 < 2 ^ 32
IsLawfulCluster other = ⊥

-- the words are a line on storages and repositories that asks for the event
abbrev pub IsClusterLine : Event → List (List ℕ) → Type 0
IsClusterLine event words = IsLawfulCluster event × (words ≡ cluster_words event)
