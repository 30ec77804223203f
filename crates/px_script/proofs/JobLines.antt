-- The lines on replication jobs: an event is read back from its words, and what is read as one is
-- its words.
use Rattle.std.proofs.Common.{◌≡◌, ℕ, List, [], ◌∷◌, drop, true, false, Option, None, Some, codes, refl, ap, sym, ◌∙◌, subst}
use Rattle.std.specs.Fmt.{decimal}
use Rattle.std.specs.List.{AllByRecursion}
use Rattle.std.specs.Option.{option_map}
use Rattle.px_base.specs.declared.ids.JobId.{JobId}
use Rattle.px_ops.specs.declared.op.Op.TheVariants.{Ack, Beat, Reconcile, SetFactor, Stale}
use Rattle.px_script.specs.ClusterReading.{cluster_of}
use Rattle.px_script.specs.JobReading.{apply, bad_end, beat_of, factor_of, good_end, job_of, reconcile_of, remove, snapshot, stale_of, take_of, work_of}
use Rattle.px_script.specs.JobSpelling.{IsJobLine, IsLawfulJob, IsLawfulWork, job_words}
use Rattle.px_script.specs.PushReading.{push_of}
use Rattle.px_script.specs.Reading.{job_lease_of}
use Rattle.px_script.specs.VoteReading.{vote_of}
use Rattle.px_script.specs.declared.event.Event.{Event}
use Rattle.px_script.specs.declared.event.Event.TheVariants.{Apply, Operation, Remove, Snapshot, Take}
use Rattle.px_script.proofs.NameLemmas.{name_of-name}
use Rattle.px_script.proofs.NumberLemmas.{lease_of-decimal, number_of-decimal, small_of-decimal}
use Rattle.px_script.proofs.StepLemmas.{end_step, kind, lease, lease_step, made_line, name, name_step, number, number_step, only_job_and_lease, small, small_step}
use Rattle.px_script.proofs.WordLemmas.{IsWhole, whole-text}

-- no word of a job and a lease has a space
work_words-whole : (text : List ℕ) (job : JobId) (held : ℕ) → IsWhole 32 text
    → IsLawfulWork job held → AllByRecursion (IsWhole 32) (text ∷ decimal job.0 ∷ decimal held ∷ [])
work_words-whole text job held whole h = (whole, (number job.0 h.0, (lease held h.1, tt)))

-- no word of a lawful event has a space
pub job_words-whole : (event : Event) → IsLawfulJob event
    → AllByRecursion (IsWhole 32) (job_words event)
job_words-whole (Operation (Reconcile None)) h = (whole-text 32 (codes "reconcile") refl, tt)
job_words-whole (Take storage now) h =
    (whole-text 32 (codes "take") refl, (name storage h.0, (number now h.1, tt)))
job_words-whole (Snapshot job held) h =
    work_words-whole (codes "snapshot") job held (whole-text 32 (codes "snapshot") refl) h
job_words-whole (Apply job held) h =
    work_words-whole (codes "apply") job held (whole-text 32 (codes "apply") refl) h
job_words-whole (Remove job held) h =
    work_words-whole (codes "remove") job held (whole-text 32 (codes "remove") refl) h
job_words-whole (Operation (Ack job held true)) h =
    work_words-whole (codes "done") job held (whole-text 32 (codes "done") refl) h
job_words-whole (Operation (Ack job held false)) h =
    work_words-whole (codes "fail") job held (whole-text 32 (codes "fail") refl) h
job_words-whole (Operation (Beat job held now)) h = (
  whole-text 32 (codes "beat") refl,
  (number job.0 h.0, (lease held h.1, (number now h.2, tt))),
)
job_words-whole (Operation (Stale now after)) h =
    (whole-text 32 (codes "stale") refl, (number now h.0, (number after h.1, tt)))
job_words-whole (Operation (SetFactor repo factor)) h =
    (whole-text 32 (codes "factor") refl, (small repo.0 h.0, (small factor h.1, tt)))
job_words-whole other h = absurd h

-- the words are read as the event, and not as a line of another family
abbrev pub IsReadBack : List (List ℕ) → Event → Type 0
IsReadBack all event =
    (first : List ℕ) × (words : List (List ℕ)) × (all ≡ first ∷ words)
    × (vote_of first words ≡ None) × (cluster_of first words ≡ None) × (push_of first words ≡ None)
    × (job_of first words ≡ Some event)

-- a job and a lease are read back from their words
work_back : (job : JobId) (held : ℕ) → IsLawfulWork job held
    → job_lease_of (decimal job.0 ∷ decimal held ∷ []) ≡ Some (job, held)
work_back job held h = rw (number_of-decimal job.0 h.0, lease_of-decimal held h.1) refl

-- a lawful event is read back from its words
pub job_of-job_words : (event : Event) → IsLawfulJob event → IsReadBack (job_words event) event
job_of-job_words (Operation (Reconcile None)) h = (_, _, refl, refl, refl, refl, refl)
job_of-job_words (Take storage now) h =
    (_, _, refl, refl, refl, refl, rw (name_of-name storage h.0, number_of-decimal now h.1) refl)
job_of-job_words (Snapshot job held) h =
    (_, _, refl, refl, refl, refl, ap (option_map snapshot) (work_back job held h))
job_of-job_words (Apply job held) h =
    (_, _, refl, refl, refl, refl, ap (option_map apply) (work_back job held h))
job_of-job_words (Remove job held) h =
    (_, _, refl, refl, refl, refl, ap (option_map remove) (work_back job held h))
job_of-job_words (Operation (Ack job held true)) h =
    (_, _, refl, refl, refl, refl, ap (option_map good_end) (work_back job held h))
job_of-job_words (Operation (Ack job held false)) h =
    (_, _, refl, refl, refl, refl, ap (option_map bad_end) (work_back job held h))
job_of-job_words (Operation (Beat job held now)) h = (
  _,
  _,
  refl,
  refl,
  refl,
  refl,
  rw (number_of-decimal job.0 h.0, lease_of-decimal held h.1, number_of-decimal now h.2) refl,
)
job_of-job_words (Operation (Stale now after)) h =
    (_, _, refl, refl, refl, refl, rw (number_of-decimal now h.0, number_of-decimal after h.1) refl)
job_of-job_words (Operation (SetFactor repo many)) h =
    (_, _, refl, refl, refl, refl, rw (small_of-decimal repo.0 h.0, small_of-decimal many h.1) refl)
job_of-job_words other h = absurd h

-- the words are a line that asks for the event
abbrev IsLine : List (List ℕ) → Event → Type 0
IsLine words event = IsJobLine event words

-- an event that is lawful is spelled by its words, also under another name
line : (words : List (List ℕ)) (made event : Event) → made ≡ event → IsLawfulJob made
    → job_words made ≡ words → IsLine words event
line words made event same lawful written = subst (IsLine words) same (lawful, sym written)

-- what is read as a plan of all jobs is its word
reconcile_of-some : (words : List (List ℕ)) (event : Event) → reconcile_of words ≡ Some event
    → IsLine (codes "reconcile" ∷ words) event
reconcile_of-some words event is =
    let made : Event = Operation (Reconcile None) in
    let last = end_step words made event is in
    line (codes "reconcile" ∷ words) made event last.1 tt (cc (last.0))

-- what is read as the taking of a job is its words
take_of-some : (words : List (List ℕ)) (event : Event) → take_of words ≡ Some event
    → IsLine (codes "take" ∷ words) event
take_of-some words event is =
    let storage = name_step words _ event is in
    let second = drop 1 words in
    let now = number_step second _ event storage.3 in
    let made : Event = Take storage.0 now.0 in
    let last = end_step (drop 1 second) made event now.3 in
    line (codes "take" ∷ words) made event last.1 (storage.1, now.1)
    (cc (storage.2, now.2, last.0))

-- what is read as a beat is its words
beat_of-some : (words : List (List ℕ)) (event : Event) → beat_of words ≡ Some event
    → IsLine (codes "beat" ∷ words) event
beat_of-some words event is =
    let job = number_step words _ event is in
    let second = drop 1 words in
    let held = lease_step second _ event job.3 in
    let third = drop 1 second in
    let now = number_step third _ event held.3 in
    let made : Event = Operation (Beat (record { 0 = job.0 }) held.0 now.0) in
    let last = end_step (drop 1 third) made event now.3 in
    line (codes "beat" ∷ words) made event last.1 (job.1, held.1, now.1)
    (cc (job.2, held.2, now.2, last.0))

-- what is read as the end of stale jobs is its words
stale_of-some : (words : List (List ℕ)) (event : Event) → stale_of words ≡ Some event
    → IsLine (codes "stale" ∷ words) event
stale_of-some words event is =
    let now = number_step words _ event is in
    let second = drop 1 words in
    let after = number_step second _ event now.3 in
    let made : Event = Operation (Stale now.0 after.0) in
    let last = end_step (drop 1 second) made event after.3 in
    line (codes "stale" ∷ words) made event last.1 (now.1, after.1)
    (cc (now.2, after.2, last.0))

-- what is read as a factor is its words
factor_of-some : (words : List (List ℕ)) (event : Event) → factor_of words ≡ Some event
    → IsLine (codes "factor" ∷ words) event
factor_of-some words event is =
    let repo = small_step words _ event is in
    let second = drop 1 words in
    let factor = small_step second _ event repo.3 in
    let made : Event = Operation (SetFactor (record { 0 = repo.0 }) factor.0) in
    let last = end_step (drop 1 second) made event factor.3 in
    line (codes "factor" ∷ words) made event last.1 (repo.1, factor.1)
    (cc (repo.2, factor.2, last.0))

-- what is read as a job and a lease behind a word is their words
work_line : (text : List ℕ) (make : JobId × ℕ → Event)
    → ((work : JobId × ℕ) → IsLawfulWork work.0 work.1 → IsLawfulJob (make work))
    → ((work : JobId × ℕ) → job_words (make work) ≡ text ∷ decimal work.0.0 ∷ decimal work.1 ∷ [])
    → (words : List (List ℕ)) (event : Event) → option_map make (job_lease_of words) ≡ Some event
    → IsLine (text ∷ words) event
work_line text make lawful written = made_line IsLine text make job_lease_of (λ words work is.
    let known = only_job_and_lease words work is in
    let spelled = ap (λ (ws : List (List ℕ)). text ∷ ws) known.1 in
    (lawful work known.0, spelled ∙ sym (written work)))

-- the readers of such lines
abbrev read : (JobId × ℕ → Event) → List (List ℕ) → Option Event
read make words = option_map make (job_lease_of words)

-- what is read as a line of a job and a lease is its words
work_of-some : (first : List ℕ) (words : List (List ℕ)) (event : Event)
    → work_of first words ≡ Some event → IsLine (first ∷ words) event
work_of-some first words event is =
    kind IsLine (codes "snapshot") (read snapshot)
    (work_line (codes "snapshot") snapshot (λ work fits. fits) (λ work. refl)) first words event _
    (kind IsLine (codes "apply") (read apply)
    (work_line (codes "apply") apply (λ work fits. fits) (λ work. refl)) first words event _
    (kind IsLine (codes "remove") (read remove)
    (work_line (codes "remove") remove (λ work fits. fits) (λ work. refl)) first words event _
    (kind IsLine (codes "done") (read good_end)
    (work_line (codes "done") good_end (λ work fits. fits) (λ work. refl)) first words event _
    (kind IsLine (codes "fail") (read bad_end)
    (work_line (codes "fail") bad_end (λ work fits. fits) (λ work. refl)) first words event _
    (λ none. cc))))) is

-- what is read as a line on replication jobs is its words
pub job_of-some : (first : List ℕ) (words : List (List ℕ)) (event : Event)
    → job_of first words ≡ Some event → IsJobLine event (first ∷ words)
job_of-some first words event is =
    kind IsLine (codes "reconcile") reconcile_of reconcile_of-some first words event _
    (kind IsLine (codes "take") take_of take_of-some first words event _
    (kind IsLine (codes "beat") beat_of beat_of-some first words event _
    (kind IsLine (codes "stale") stale_of stale_of-some first words event _
    (kind IsLine (codes "factor") factor_of factor_of-some first words event _
    (work_of-some first words event))))) is
