-- The lines on reads and repairs: an event is read back from its words, and what is read as one is
-- its words.
use Rattle.std.proofs.Common.{◌≡◌, ℕ, List, [], ◌∷◌, drop, Option, None, Some, codes, refl, ap, sym, ◌∙◌, subst}
use Rattle.std.specs.Fmt.{decimal}
use Rattle.std.specs.List.{AllByRecursion}
use Rattle.std.specs.Option.{option_map}
use Rattle.px_base.specs.declared.ids.RepoId.{RepoId}
use Rattle.px_ops.specs.declared.op.Op.TheVariants.{RouteRead}
use Rattle.px_script.specs.ClusterReading.{cluster_of}
use Rattle.px_script.specs.JobReading.{job_of}
use Rattle.px_script.specs.PushReading.{push_of}
use Rattle.px_script.specs.Reading.{repo_name_lease_of, repo_name_of, repo_of}
use Rattle.px_script.specs.RepairReading.{accept, accepted, fence_of, repair_of, route, settle, settled}
use Rattle.px_script.specs.RepairSpelling.{IsLawfulFenced, IsLawfulRepair, IsLawfulReplica, IsRepairLine, repair_words}
use Rattle.px_script.specs.VoteReading.{vote_of}
use Rattle.px_script.specs.declared.event.Event.{Event}
use Rattle.px_script.specs.declared.event.Event.TheVariants.{Accept, AcceptBegin, Fence, Operation, Settle, SettleBegin}
use Rattle.px_script.proofs.NameLemmas.{name_of-name}
use Rattle.px_script.proofs.NumberLemmas.{lease_of-decimal, small_of-decimal}
use Rattle.px_script.proofs.StepLemmas.{end_step, kind, lease, lease_step, made_line, name, name_step, only_repo, only_repo_and_name, only_repo_name_and_lease, small, small_step}
use Rattle.px_script.proofs.WordLemmas.{IsWhole, whole-text}

-- no word of a repository and a storage has a space
replica_words-whole : (text : List ℕ) (repo : RepoId) (storage : List ℕ) → IsWhole 32 text
    → IsLawfulReplica repo storage
    → AllByRecursion (IsWhole 32) (text ∷ decimal repo.0 ∷ storage ∷ [])
replica_words-whole text repo storage whole h =
    (whole, (small repo.0 h.0, (name storage h.1, tt)))

-- nor of these and a lease
fenced_words-whole : (text : List ℕ) (repo : RepoId) (storage : List ℕ) (held : ℕ)
    → IsWhole 32 text → IsLawfulFenced repo storage held
    → AllByRecursion (IsWhole 32) (text ∷ decimal repo.0 ∷ storage ∷ decimal held ∷ [])
fenced_words-whole text repo storage held whole h =
    (whole, (small repo.0 h.0.0, (name storage h.0.1, (lease held h.1, tt))))

-- no word of a lawful event has a space
pub repair_words-whole : (event : Event) → IsLawfulRepair event
    → AllByRecursion (IsWhole 32) (repair_words event)
repair_words-whole (Operation (RouteRead repo)) h =
    (whole-text 32 (codes "read") refl, (small repo.0 h, tt))
repair_words-whole (AcceptBegin repo storage) h =
    replica_words-whole (codes "accept") repo storage (whole-text 32 (codes "accept") refl) h
repair_words-whole (SettleBegin repo storage) h =
    replica_words-whole (codes "settle") repo storage (whole-text 32 (codes "settle") refl) h
repair_words-whole (Fence storage repo held) h = (
  whole-text 32 (codes "fence") refl,
  (name storage h.0.1, (small repo.0 h.0.0, (lease held h.1, tt))),
)
repair_words-whole (Accept repo storage held) h =
    fenced_words-whole (codes "accepted") repo storage held
    (whole-text 32 (codes "accepted") refl) h
repair_words-whole (Settle repo storage held) h =
    fenced_words-whole (codes "settled") repo storage held (whole-text 32 (codes "settled") refl) h
repair_words-whole other h = absurd h

-- the words are read as the event, and not as a line of another family
abbrev pub IsReadBack : List (List ℕ) → Event → Type 0
IsReadBack all event =
    (first : List ℕ) × (words : List (List ℕ)) × (all ≡ first ∷ words)
    × (vote_of first words ≡ None) × (cluster_of first words ≡ None) × (push_of first words ≡ None)
    × (job_of first words ≡ None) × (repair_of first words ≡ Some event)

-- a repository and a storage are read back from their words
replica_back : (repo : RepoId) (storage : List ℕ) → IsLawfulReplica repo storage
    → repo_name_of (decimal repo.0 ∷ storage ∷ []) ≡ Some (repo, storage)
replica_back repo storage h = rw (small_of-decimal repo.0 h.0, name_of-name storage h.1) refl

-- and so are these and a lease
fenced_back : (repo : RepoId) (storage : List ℕ) (held : ℕ) → IsLawfulFenced repo storage held
    → repo_name_lease_of (decimal repo.0 ∷ storage ∷ decimal held ∷ [])
    ≡ Some (repo, storage, held)
fenced_back repo storage held h =
    rw (small_of-decimal repo.0 h.0.0, name_of-name storage h.0.1, lease_of-decimal held h.1) refl

-- a lawful event is read back from its words
pub repair_of-repair_words : (event : Event) → IsLawfulRepair event
    → IsReadBack (repair_words event) event
repair_of-repair_words (Operation (RouteRead repo)) h =
    (_, _, refl, refl, refl, refl, refl, rw (small_of-decimal repo.0 h) refl)
repair_of-repair_words (AcceptBegin repo storage) h =
    (_, _, refl, refl, refl, refl, refl, ap (option_map accept) (replica_back repo storage h))
repair_of-repair_words (SettleBegin repo storage) h =
    (_, _, refl, refl, refl, refl, refl, ap (option_map settle) (replica_back repo storage h))
repair_of-repair_words (Fence storage repo held) h = (
  _,
  _,
  refl,
  refl,
  refl,
  refl,
  refl,
  rw (name_of-name storage h.0.1, small_of-decimal repo.0 h.0.0, lease_of-decimal held h.1) refl,
)
repair_of-repair_words (Accept repo storage held) h =
    (_, _, refl, refl, refl, refl, refl, ap (option_map accepted) (fenced_back repo storage held h))
repair_of-repair_words (Settle repo storage held) h =
    (_, _, refl, refl, refl, refl, refl, ap (option_map settled) (fenced_back repo storage held h))
repair_of-repair_words other h = absurd h

-- the words are a line that asks for the event
abbrev IsLine : List (List ℕ) → Event → Type 0
IsLine words event = IsRepairLine event words

-- an event that is lawful is spelled by its words, also under another name
line : (words : List (List ℕ)) (made event : Event) → made ≡ event → IsLawfulRepair made
    → repair_words made ≡ words → IsLine words event
line words made event same lawful written = subst (IsLine words) same (lawful, sym written)

-- what is read as a fence is its words
fence_of-some : (words : List (List ℕ)) (event : Event) → fence_of words ≡ Some event
    → IsLine (codes "fence" ∷ words) event
fence_of-some words event is =
    let storage = name_step words _ event is in
    let second = drop 1 words in
    let repo = small_step second _ event storage.3 in
    let third = drop 1 second in
    let held = lease_step third _ event repo.3 in
    let made : Event = Fence storage.0 (record { 0 = repo.0 }) held.0 in
    let last = end_step (drop 1 third) made event held.3 in
    line (codes "fence" ∷ words) made event last.1 ((repo.1, storage.1), held.1)
    (cc (storage.2, repo.2, held.2, last.0))

-- what is read as a route is its words
route_line : (words : List (List ℕ)) (repo : RepoId) → repo_of words ≡ Some repo
    → IsLine (codes "read" ∷ words) (route repo)
route_line words repo is =
    let known = only_repo words repo is in
    (known.0, ap (λ (ws : List (List ℕ)). codes "read" ∷ ws) known.1)

-- what is read as a repository and a storage behind a word is their words
replica_line : (text : List ℕ) (make : RepoId × List ℕ → Event)
    → ((at : RepoId × List ℕ) → IsLawfulReplica at.0 at.1 → IsLawfulRepair (make at))
    → ((at : RepoId × List ℕ) → repair_words (make at) ≡ text ∷ decimal at.0.0 ∷ at.1 ∷ [])
    → (words : List (List ℕ)) (event : Event) → option_map make (repo_name_of words) ≡ Some event
    → IsLine (text ∷ words) event
replica_line text make lawful written = made_line IsLine text make repo_name_of (λ words at is.
    let known = only_repo_and_name words at is in
    let spelled = ap (λ (ws : List (List ℕ)). text ∷ ws) known.1 in
    (lawful at known.0, spelled ∙ sym (written at)))

-- and so is what is read as these and a lease
fenced_line : (text : List ℕ) (make : RepoId × List ℕ × ℕ → Event)
    → ((at : RepoId × List ℕ × ℕ) → IsLawfulFenced at.0 at.1 at.2 → IsLawfulRepair (make at))
    → ((at : RepoId × List ℕ × ℕ)
    → repair_words (make at) ≡ text ∷ decimal at.0.0 ∷ at.1 ∷ decimal at.2 ∷ [])
    → (words : List (List ℕ)) (event : Event)
    → option_map make (repo_name_lease_of words) ≡ Some event → IsLine (text ∷ words) event
fenced_line text make lawful written =
    made_line IsLine text make repo_name_lease_of (λ words at is.
    let known = only_repo_name_and_lease words at is in
    let spelled = ap (λ (ws : List (List ℕ)). text ∷ ws) known.1 in
    (lawful at known.0, spelled ∙ sym (written at)))

-- the readers of such lines
abbrev of_replica : (RepoId × List ℕ → Event) → List (List ℕ) → Option Event
of_replica make words = option_map make (repo_name_of words)

abbrev of_fenced : (RepoId × List ℕ × ℕ → Event) → List (List ℕ) → Option Event
of_fenced make words = option_map make (repo_name_lease_of words)

-- what is read as a line on reads and repairs is its words
pub repair_of-some : (first : List ℕ) (words : List (List ℕ)) (event : Event)
    → repair_of first words ≡ Some event → IsRepairLine event (first ∷ words)
repair_of-some first words event is =
    kind IsLine (codes "read") (λ ws. option_map route (repo_of ws))
    (made_line IsLine (codes "read") route repo_of route_line) first words event _
    (kind IsLine (codes "accept") (of_replica accept)
    (replica_line (codes "accept") accept (λ at fits. fits) (λ at. refl)) first words event _
    (kind IsLine (codes "settle") (of_replica settle)
    (replica_line (codes "settle") settle (λ at fits. fits) (λ at. refl)) first words event _
    (kind IsLine (codes "fence") fence_of fence_of-some first words event _
    (kind IsLine (codes "accepted") (of_fenced accepted)
    (fenced_line (codes "accepted") accepted (λ at fits. fits) (λ at. refl)) first words event _
    (kind IsLine (codes "settled") (of_fenced settled)
    (fenced_line (codes "settled") settled (λ at fits. fits) (λ at. refl)) first words event _
    (λ none. cc)))))) is
