-- The lines on pushes: an event is read back from its words, and what is read as one is its words.
use Rattle.std.proofs.Common.{◌≡◌, ◌<◌, ◌^◌, ℕ, List, [], ◌∷◌, drop, None, Some, codes, refl, ap, subst}
use Rattle.std.specs.List.{AllByRecursion}
use Rattle.std.specs.Fmt.{decimal}
use Rattle.std.specs.Option.{option_map}
use Rattle.std.proofs.lemmas.Option.{option_and_then_some}
use Rattle.px_base.specs.StorageName.{IsStorageName}
use Rattle.px_base.specs.declared.ids.RepoId.{RepoId}
use Rattle.px_base.specs.declared.ids.TxId.{TxId}
use Rattle.px_ops.specs.declared.op.Op.TheVariants.{Begin, Finish}
use Rattle.px_script.specs.ClusterReading.{cluster_of}
use Rattle.px_script.specs.PushReading.{abort, begin, commit, finish, prepare_of, push_of}
use Rattle.px_script.specs.PushSpelling.{IsPushLine}
use Rattle.px_script.specs.PushWords.{pushed_of}
use Rattle.px_script.specs.Reading.{repo_of, tx_name_of, tx_of}
use Rattle.px_script.specs.VoteReading.{vote_of}
use Rattle.px_script.specs.declared.event.Event.{Event}
use Rattle.px_script.specs.declared.event.Event.TheVariants.{Abort, Commit, Operation, Prepare}
use Rattle.px_script.proofs.NameLemmas.{name_of-name}
use Rattle.px_script.proofs.NumberLemmas.{number_of-decimal, small_of-decimal}
use Rattle.px_script.proofs.PushLemmas.{pushed_of-some, pushed_of-words, whole-pushed}
use Rattle.px_script.proofs.StepLemmas.{kind, made_line, name, name_step, number, number_step, only_repo, only_tx, only_tx_and_name, small}
use Rattle.px_script.proofs.WordLemmas.{IsWhole, same_words, some_same, whole-text}

-- no word of such a line has a space
pub push_line-whole : (event : Event) (words : List (List ℕ)) → IsPushLine event words → AllByRecursion (IsWhole 32) words
push_line-whole (Operation (Begin repo)) words h = same_words 32 words _ h.1 (whole-text 32 (codes "begin") refl, (small repo.0 h.0, tt))
push_line-whole (Prepare tx storage push) words h =
    same_words 32 words _ h.written
    (whole-text 32 (codes "prepare") refl, (number tx.0 h.number, (name storage h.storage, whole-pushed push h.pushed h.lawful h.are)))
push_line-whole (Commit tx storage) words h = same_words 32 words _ h.2 (whole-text 32 (codes "commit") refl, (number tx.0 h.0, (name storage h.1, tt)))
push_line-whole (Abort tx storage) words h = same_words 32 words _ h.2 (whole-text 32 (codes "abort") refl, (number tx.0 h.0, (name storage h.1, tt)))
push_line-whole (Operation (Finish tx)) words h = same_words 32 words _ h.1 (whole-text 32 (codes "finish") refl, (number tx.0 h.0, tt))
push_line-whole other words h = absurd h

-- the words are read as the event, and not as a line of another family
abbrev pub IsReadBack : List (List ℕ) → Event → Type 0
IsReadBack all event =
    (first : List ℕ) × (words : List (List ℕ)) × (all ≡ first ∷ words) × (vote_of first words ≡ None) × (cluster_of first words ≡ None)
    × (push_of first words ≡ Some event)

-- the event of such a line is read back from its words
pub push_of-line : (event : Event) (words : List (List ℕ)) → IsPushLine event words → IsReadBack words event
push_of-line (Operation (Begin repo)) words h = (_, _, h.1, refl, refl, rw (small_of-decimal repo.0 h.0) refl)
push_of-line (Prepare tx storage push) words h =
    (_, _, h.written, refl, refl, rw (number_of-decimal tx.0 h.number, name_of-name storage h.storage, pushed_of-words push h.pushed h.lawful h.are) refl)
push_of-line (Commit tx storage) words h = (_, _, h.2, refl, refl, rw (number_of-decimal tx.0 h.0, name_of-name storage h.1) refl)
push_of-line (Abort tx storage) words h = (_, _, h.2, refl, refl, rw (number_of-decimal tx.0 h.0, name_of-name storage h.1) refl)
push_of-line (Operation (Finish tx)) words h = (_, _, h.1, refl, refl, rw (number_of-decimal tx.0 h.0) refl)
push_of-line other words h = absurd h

-- the words are a line that asks for the event
abbrev IsLine : List (List ℕ) → Event → Type 0
IsLine words event = IsPushLine event words

-- what is read as a push is its words
prepare_of-some : (words : List (List ℕ)) (event : Event) → prepare_of words ≡ Some event → IsLine (codes "prepare" ∷ words) event
prepare_of-some words event is =
    let tx = number_step words _ event is in
    let second = drop 1 words in
    let storage = name_step second _ event tx.3 in
    let third = drop 1 second in
    option_and_then_some (λ push. Some (Prepare (record { 0 = tx.0 }) storage.0 push)) (pushed_of third) event storage.3 (λ push read made.
    let known = pushed_of-some third push read in
    subst (IsLine (codes "prepare" ∷ words)) (some_same made)
    (record { number = tx.1; storage = storage.1; lawful = known.0; pushed = third; are = known.1; written = cc (tx.2, storage.2) }))

-- what is read as a transaction and a storage behind a word is their words
tx_name_line : (text : List ℕ) (make : TxId × List ℕ → Event)
    → ((at : TxId × List ℕ) → IsPushLine (make at) ≡ (λ words. (at.0.0 < 2 ^ 64) × IsStorageName at.1 × (words ≡ text ∷ decimal at.0.0 ∷ at.1 ∷ [])))
    → (words : List (List ℕ)) (event : Event) → option_map make (tx_name_of words) ≡ Some event → IsLine (text ∷ words) event
tx_name_line text make spelled = made_line IsLine text make tx_name_of (λ words at is.
    let known = only_tx_and_name words at is in
    rw (spelled at) (known.0, known.1, ap (λ (ws : List (List ℕ)). text ∷ ws) known.2))

-- the lines of one number
begin_line : (words : List (List ℕ)) (repo : RepoId) → repo_of words ≡ Some repo → IsLine (codes "begin" ∷ words) (begin repo)
begin_line words repo is = let known = only_repo words repo is in (known.0, ap (λ (ws : List (List ℕ)). codes "begin" ∷ ws) known.1)

finish_line : (words : List (List ℕ)) (tx : TxId) → tx_of words ≡ Some tx → IsLine (codes "finish" ∷ words) (finish tx)
finish_line words tx is = let known = only_tx words tx is in (known.0, ap (λ (ws : List (List ℕ)). codes "finish" ∷ ws) known.1)

-- what is read as a line on a push is its words
pub push_of-some : (first : List ℕ) (words : List (List ℕ)) (event : Event) → push_of first words ≡ Some event → IsPushLine event (first ∷ words)
push_of-some first words event is =
    kind IsLine (codes "begin") (λ ws. option_map begin (repo_of ws)) (made_line IsLine (codes "begin") begin repo_of begin_line) first words event _
    (kind IsLine (codes "prepare") prepare_of prepare_of-some first words event _
    (kind IsLine (codes "commit") (λ ws. option_map commit (tx_name_of ws)) (tx_name_line (codes "commit") commit (λ at. refl)) first words event _
    (kind IsLine (codes "abort") (λ ws. option_map abort (tx_name_of ws)) (tx_name_line (codes "abort") abort (λ at. refl)) first words event _
    (kind IsLine (codes "finish") (λ ws. option_map finish (tx_of ws)) (made_line IsLine (codes "finish") finish tx_of finish_line) first words event _
    (λ none. cc))))) is
