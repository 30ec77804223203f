-- What is read of the core for what is told to nodes.
use Rattle.std.specs.Prelude.{◌≡◌, ℕ, List, IsSome, Option, None, Some}
use Rattle.std.specs.Option.{option_map}
use Rattle.px_base.specs.declared.ids.TxId.{TxId}
use Rattle.txmanager.specs.Voting.{Voting}
use Rattle.px_cluster.specs.Casts.{member_named}
use Rattle.px_cluster.specs.Core.{Core, OpenPush, push_of, repository, voting}
use Rattle.px_cluster.specs.Creating.{create_refusal, has_name}
use Rattle.px_cluster.specs.Effects.{Location, location_in}
use Rattle.px_cluster.specs.Numbers.{first_of, places_of}
use Rattle.genbook.specs.Creations.{IsCreation}
use Rattle.genbook.specs.declared.creation.Creation.{Creation}

-- the number of the storage of a name
abbrev pub storage_of : Core → List ℕ → Option ℕ
storage_of core name = first_of (places_of (has_name name) core.storages)

-- the path of a repository, where the storage is of its virtual storage
abbrev pub path_on : Core → ℕ → ℕ → Option (List ℕ)
path_on core repo storage = option_map (λ (location : Location). location.path)
    (location_in (repository core repo) repo storage)

-- the member of an open push that a voter is
abbrev pub member_in : Option OpenPush → Option Voting → List ℕ → Option ℕ
member_in None vote name = None
member_in (Some push) None name = None
member_in (Some push) (Some vote) name = member_named push vote name

abbrev pub member_of : Core → TxId → List ℕ → Option ℕ
member_of core tx name = member_in (push_of core tx) (voting core tx) name

-- the creation that is done next, where nothing refuses it
abbrev pub IsNextCreation : Core → (virt path : List ℕ) → ℕ → Option Creation → Type 0
IsNextCreation core virt path factor None = IsSome (create_refusal core virt path factor)
IsNextCreation core virt path factor (Some creation) =
    (create_refusal core virt path factor ≡ None) × IsCreation core virt path factor creation
