-- The lines on storages and repositories: an event is read back from its words, and what is read as one
-- is its words.
use Rattle.std.proofs.Common.{◌≡◌, ◌<◌, ◌^◌, ℕ, List, [], ◌∷◌, drop, Bool, true, false, None, Some, codes, refl, ap, sym, ◌∙◌, subst}
use Rattle.std.specs.Fmt.{decimal}
use Rattle.std.specs.List.{AllByRecursion}
use Rattle.std.specs.Option.{option_map}
use Rattle.px_base.specs.declared.ids.RepoId.{RepoId}
use Rattle.px_ops.specs.declared.op.Op.TheVariants.{Admit, Booked, Create, Holder}
use Rattle.px_script.specs.ClusterReading.{cluster_of, create_of, enrol_of, make_of, refs_of, storage_of, up_or_down_of}
use Rattle.px_script.specs.ClusterSpelling.{cluster_words, health_word, IsClusterLine, IsLawfulCluster}
use Rattle.px_script.specs.Reading.{repo_of}
use Rattle.px_script.specs.VoteReading.{vote_of}
use Rattle.px_script.specs.declared.event.Event.{Event}
use Rattle.px_script.specs.declared.event.Event.TheVariants.{Enrol, Health, Make, Operation, Refs}
use Rattle.px_script.proofs.NameLemmas.{name_of-name, path_of-path, whole-path}
use Rattle.px_script.proofs.NumberLemmas.{lease_of-decimal, small_of-decimal}
use Rattle.px_script.proofs.StepLemmas.{end_step, health_step, kind, lease, lease_step, made_line, name, name_step, only_repo, path_step, small, small_step}
use Rattle.px_script.proofs.WordLemmas.{IsWhole, health_of-word, whole-text}

-- no byte of the word for what can be reached is a space
health_whole : (up : Bool) → IsWhole 32 (health_word up)
health_whole true = whole-text 32 (codes "up") refl
health_whole false = whole-text 32 (codes "down") refl

-- no word of a lawful event has a space
pub cluster_words-whole : (event : Event) → IsLawfulCluster event → AllByRecursion (IsWhole 32) (cluster_words event)
cluster_words-whole (Operation (Admit virt storage)) h = (whole-text 32 (codes "storage") refl, (name virt h.0, (name storage h.1, tt)))
cluster_words-whole (Health storage up) h = (whole-text 32 (codes "health") refl, (name storage h, (health_whole up, tt)))
cluster_words-whole (Operation (Create virt path factor)) h = (whole-text 32 (codes "create") refl, (name virt h.0, (whole-path path h.1, (small factor h.2, tt))))
cluster_words-whole (Make storage repo number) h = (whole-text 32 (codes "make") refl, (name storage h.0, (small repo.0 h.1, (lease number h.2, tt))))
cluster_words-whole (Enrol repo storage number) h = (whole-text 32 (codes "enrol") refl, (small repo.0 h.0, (name storage h.1, (lease number h.2, tt))))
cluster_words-whole (Refs storage repo) h = (whole-text 32 (codes "refs") refl, (name storage h.0, (small repo.0 h.1, tt)))
cluster_words-whole (Operation (Booked repo)) h = (whole-text 32 (codes "booked") refl, (small repo.0 h, tt))
cluster_words-whole (Operation (Holder repo)) h = (whole-text 32 (codes "holder") refl, (small repo.0 h, tt))
cluster_words-whole other h = absurd h

-- the words are read as the event, and not as a line on votes
abbrev pub IsReadBack : List (List ℕ) → Event → Type 0
IsReadBack all event =
    (first : List ℕ) × (words : List (List ℕ)) × (all ≡ first ∷ words) × (vote_of first words ≡ None) × (cluster_of first words ≡ Some event)

-- a lawful event is read back from its words
pub cluster_of-cluster_words : (event : Event) → IsLawfulCluster event → IsReadBack (cluster_words event) event
cluster_of-cluster_words (Operation (Admit virt storage)) h = (_, _, refl, refl, rw (name_of-name virt h.0, name_of-name storage h.1) refl)
cluster_of-cluster_words (Health storage up) h = (_, _, refl, refl, rw (name_of-name storage h, health_of-word up) refl)
cluster_of-cluster_words (Operation (Create virt path factor)) h = (_, _, refl, refl, rw (name_of-name virt h.0, path_of-path path h.1, small_of-decimal factor h.2) refl)
cluster_of-cluster_words (Make storage repo number) h = (_, _, refl, refl, rw (name_of-name storage h.0, small_of-decimal repo.0 h.1, lease_of-decimal number h.2) refl)
cluster_of-cluster_words (Enrol repo storage number) h = (_, _, refl, refl, rw (small_of-decimal repo.0 h.0, name_of-name storage h.1, lease_of-decimal number h.2) refl)
cluster_of-cluster_words (Refs storage repo) h = (_, _, refl, refl, rw (name_of-name storage h.0, small_of-decimal repo.0 h.1) refl)
cluster_of-cluster_words (Operation (Booked repo)) h = (_, _, refl, refl, rw (small_of-decimal repo.0 h) refl)
cluster_of-cluster_words (Operation (Holder repo)) h = (_, _, refl, refl, rw (small_of-decimal repo.0 h) refl)
cluster_of-cluster_words other h = absurd h

-- the words are a line that asks for the event
abbrev IsLine : List (List ℕ) → Event → Type 0
IsLine words event = IsClusterLine event words

-- an event that is lawful is spelled by its words, also under another name
line : (words : List (List ℕ)) (made event : Event) → made ≡ event → IsLawfulCluster made → cluster_words made ≡ words → IsLine words event
line words made event same lawful written = subst (IsLine words) same (lawful, sym written)

-- what is read as a storage is its words
storage_of-some : (words : List (List ℕ)) (event : Event) → storage_of words ≡ Some event → IsLine (codes "storage" ∷ words) event
storage_of-some words event is =
    let virt = name_step words _ event is in
    let second = drop 1 words in
    let storage = name_step second _ event virt.3 in
    let made : Event = Operation (Admit virt.0 storage.0) in
    let last = end_step (drop 1 second) made event storage.3 in
    line (codes "storage" ∷ words) made event last.1 (virt.1, storage.1) (cc (virt.2, storage.2, last.0))

-- what is read as the health of a storage is its words
up_or_down_of-some : (words : List (List ℕ)) (event : Event) → up_or_down_of words ≡ Some event → IsLine (codes "health" ∷ words) event
up_or_down_of-some words event is =
    let storage = name_step words _ event is in
    let second = drop 1 words in
    let up = health_step second _ event storage.3 in
    let made : Event = Health storage.0 up.0 in
    let last = end_step (drop 1 second) made event up.3 in
    line (codes "health" ∷ words) made event last.1 storage.1 (cc (storage.2, up.2, last.0))

-- what is read as a creation is its words
create_of-some : (words : List (List ℕ)) (event : Event) → create_of words ≡ Some event → IsLine (codes "create" ∷ words) event
create_of-some words event is =
    let virt = name_step words _ event is in
    let second = drop 1 words in
    let path = path_step second _ event virt.3 in
    let third = drop 1 second in
    let factor = small_step third _ event path.3 in
    let made : Event = Operation (Create virt.0 path.0 factor.0) in
    let last = end_step (drop 1 third) made event factor.3 in
    line (codes "create" ∷ words) made event last.1 (virt.1, path.1, factor.1) (cc (virt.2, path.2, factor.2, last.0))

-- what is read as the making of a replica is its words
make_of-some : (words : List (List ℕ)) (event : Event) → make_of words ≡ Some event → IsLine (codes "make" ∷ words) event
make_of-some words event is =
    let storage = name_step words _ event is in
    let second = drop 1 words in
    let repo = small_step second _ event storage.3 in
    let third = drop 1 second in
    let number = lease_step third _ event repo.3 in
    let made : Event = Make storage.0 (record { 0 = repo.0 }) number.0 in
    let last = end_step (drop 1 third) made event number.3 in
    line (codes "make" ∷ words) made event last.1 (storage.1, repo.1, number.1) (cc (storage.2, repo.2, number.2, last.0))

-- what is read as an enrolment is its words
enrol_of-some : (words : List (List ℕ)) (event : Event) → enrol_of words ≡ Some event → IsLine (codes "enrol" ∷ words) event
enrol_of-some words event is =
    let repo = small_step words _ event is in
    let second = drop 1 words in
    let storage = name_step second _ event repo.3 in
    let third = drop 1 second in
    let number = lease_step third _ event storage.3 in
    let made : Event = Enrol (record { 0 = repo.0 }) storage.0 number.0 in
    let last = end_step (drop 1 third) made event number.3 in
    line (codes "enrol" ∷ words) made event last.1 (repo.1, storage.1, number.1) (cc (repo.2, storage.2, number.2, last.0))

-- what is read as a question for references is its words
refs_of-some : (words : List (List ℕ)) (event : Event) → refs_of words ≡ Some event → IsLine (codes "refs" ∷ words) event
refs_of-some words event is =
    let storage = name_step words _ event is in
    let second = drop 1 words in
    let repo = small_step second _ event storage.3 in
    let made : Event = Refs storage.0 (record { 0 = repo.0 }) in
    let last = end_step (drop 1 second) made event repo.3 in
    line (codes "refs" ∷ words) made event last.1 (storage.1, repo.1) (cc (storage.2, repo.2, last.0))

-- what is read as a word and a repository is those
repo_line : (text : List ℕ) (make : RepoId → Event) → ((repo : RepoId) → repo.0 < 2 ^ 32 → IsLawfulCluster (make repo)) → ((repo : RepoId) → cluster_words (make repo) ≡ text ∷ decimal repo.0 ∷ [])
    → (words : List (List ℕ)) (event : Event) → option_map make (repo_of words) ≡ Some event → IsLine (text ∷ words) event
repo_line text make lawful written = made_line IsLine text make repo_of (λ words repo is.
    let known = only_repo words repo is in (lawful repo known.0, ap (λ (ws : List (List ℕ)). text ∷ ws) known.1 ∙ sym (written repo)))

-- what is read as a line on storages and repositories is its words
pub cluster_of-some : (first : List ℕ) (words : List (List ℕ)) (event : Event) → cluster_of first words ≡ Some event → IsClusterLine event (first ∷ words)
cluster_of-some first words event is =
    kind IsLine (codes "storage") storage_of storage_of-some first words event _
    (kind IsLine (codes "health") up_or_down_of up_or_down_of-some first words event _
    (kind IsLine (codes "create") create_of create_of-some first words event _
    (kind IsLine (codes "make") make_of make_of-some first words event _
    (kind IsLine (codes "enrol") enrol_of enrol_of-some first words event _
    (kind IsLine (codes "refs") refs_of refs_of-some first words event _
    (kind IsLine (codes "booked") (λ ws. option_map (λ repo. Operation (Booked repo)) (repo_of ws)) (repo_line (codes "booked") (λ repo. Operation (Booked repo)) (λ repo fits. fits) (λ repo. refl)) first words event _
    (kind IsLine (codes "holder") (λ ws. option_map (λ repo. Operation (Holder repo)) (repo_of ws)) (repo_line (codes "holder") (λ repo. Operation (Holder repo)) (λ repo fits. fits) (λ repo. refl)) first words event _
    (λ none. cc)))))))) is
