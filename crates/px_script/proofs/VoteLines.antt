-- The lines on votes: an operation is read back from its words, and what is read as one is its words.
use Rattle.std.proofs.Common.{◌≡◌, ◌<◌, ◌^◌, ℕ, List, [], ◌∷◌, drop, Some, codes, refl, ap, sym, ◌∙◌, subst}
use Rattle.std.specs.Fmt.{decimal}
use Rattle.std.specs.List.{AllByRecursion}
use Rattle.std.specs.Option.{option_map}
use Rattle.std.proofs.lemmas.Option.{option_and_then_some}
use Rattle.px_base.specs.declared.ids.TxId.{TxId}
use Rattle.px_base.specs.declared.phase.Phase.{Phase}
use Rattle.px_base.specs.declared.phase.Phase.TheVariants.{Prepared, Committed}
use Rattle.px_base.proofs.HexText.{hash_of-hash_text}
use Rattle.px_ops.specs.VoteTexts.{phase_word}
use Rattle.px_ops.specs.declared.op.Op.{Op}
use Rattle.px_ops.specs.declared.op.Op.TheVariants.{Open, Cast, Withdraw, Cancel, Stop, Close, Collect, Outcome}
use Rattle.px_script.specs.Reading.{tx_of}
use Rattle.px_script.specs.VoteReading.{cast_of, collect_of, open_of, outcome_of, vote_of, withdraw_of}
use Rattle.px_script.specs.VoteSpelling.{IsLawfulVote, IsLawfulVoter, vote_words, voter_word}
use Rattle.px_script.specs.Words.{each_of, voter_of}
use Rattle.px_script.proofs.EachLemmas.{each_of-some, each_of-words, whole-each}
use Rattle.px_script.proofs.NameLemmas.{name_of-name, whole-hash}
use Rattle.px_script.proofs.NumberLemmas.{number_of-decimal, small_of-decimal}
use Rattle.px_script.proofs.StepLemmas.{end_step, hash_step, kind, made_line, name, name_step, number, number_step, only_tx, phase_step, small, small_step}
use Rattle.px_script.proofs.VoterLemmas.{voter_of-some, voter_of-voter_word, whole-voter}
use Rattle.px_script.proofs.WordLemmas.{IsWhole, phase_of-word, some_same, whole-text}

-- no byte of a phase is a space
phase_whole : (phase : Phase) → IsWhole 32 (phase_word phase)
phase_whole Prepared = whole-text 32 (codes "prepared") refl
phase_whole Committed = whole-text 32 (codes "committed") refl

-- no word of a lawful operation has a space
pub vote_words-whole : (op : Op) → IsLawfulVote op → AllByRecursion (IsWhole 32) (vote_words op)
vote_words-whole (Open threshold rounds voters) h = (whole-text 32 (codes "open") refl, (number threshold h.0, (small rounds h.1, whole-each voter_of IsLawfulVoter voter_word whole-voter voters h.2)))
vote_words-whole (Cast tx voter phase hash) h = (whole-text 32 (codes "cast") refl, (number tx.0 h.0, (name voter h.1, (phase_whole phase, (whole-hash 32 refl hash h.2, tt)))))
vote_words-whole (Withdraw tx voter) h = (whole-text 32 (codes "withdraw") refl, (number tx.0 h.0, (name voter h.1, tt)))
vote_words-whole (Cancel tx) h = (whole-text 32 (codes "cancel") refl, (number tx.0 h, tt))
vote_words-whole (Stop tx) h = (whole-text 32 (codes "stop") refl, (number tx.0 h, tt))
vote_words-whole (Close tx) h = (whole-text 32 (codes "close") refl, (number tx.0 h, tt))
vote_words-whole (Collect tx voter sub) h = (whole-text 32 (codes "collect") refl, (number tx.0 h.0, (name voter h.1, (small sub h.2, tt))))
vote_words-whole (Outcome tx sub) h = (whole-text 32 (codes "outcome") refl, (number tx.0 h.0, (small sub h.1, tt)))
vote_words-whole other h = absurd h

-- a lawful operation is read back from them: the first, and those behind it
pub vote_of-vote_words : (op : Op) → IsLawfulVote op → (first : List ℕ) × (words : List (List ℕ)) × (vote_words op ≡ first ∷ words) × (vote_of first words ≡ Some op)
vote_of-vote_words (Open threshold rounds voters) h = (_, _, refl, rw (number_of-decimal threshold h.0, small_of-decimal rounds h.1, each_of-words voter_of IsLawfulVoter voter_word voter_of-voter_word voters h.2) refl)
vote_of-vote_words (Cast tx voter phase hash) h = (_, _, refl, rw (number_of-decimal tx.0 h.0, name_of-name voter h.1, phase_of-word phase, hash_of-hash_text hash h.2) refl)
vote_of-vote_words (Withdraw tx voter) h = (_, _, refl, rw (number_of-decimal tx.0 h.0, name_of-name voter h.1) refl)
vote_of-vote_words (Cancel tx) h = (_, _, refl, rw (number_of-decimal tx.0 h) refl)
vote_of-vote_words (Stop tx) h = (_, _, refl, rw (number_of-decimal tx.0 h) refl)
vote_of-vote_words (Close tx) h = (_, _, refl, rw (number_of-decimal tx.0 h) refl)
vote_of-vote_words (Collect tx voter sub) h = (_, _, refl, rw (number_of-decimal tx.0 h.0, name_of-name voter h.1, small_of-decimal sub h.2) refl)
vote_of-vote_words (Outcome tx sub) h = (_, _, refl, rw (number_of-decimal tx.0 h.0, small_of-decimal sub h.1) refl)
vote_of-vote_words other h = absurd h

-- a lawful operation, and its words
abbrev pub IsSpelled : List (List ℕ) → Op → Type 0
IsSpelled words op = IsLawfulVote op × (vote_words op ≡ words)

-- an operation that is lawful is spelled by its words, also under another name
spelled : (words : List (List ℕ)) (made op : Op) → made ≡ op → IsLawfulVote made → vote_words made ≡ words → IsSpelled words op
spelled words made op same lawful written = subst (IsSpelled words) same (lawful, written)

-- what is read as an opening is its words
open_of-some : (words : List (List ℕ)) (op : Op) → open_of words ≡ Some op → IsSpelled (codes "open" ∷ words) op
open_of-some words op is =
    let threshold = number_step words _ op is in
    let second = drop 1 words in
    let rounds = small_step second _ op threshold.3 in
    let third = drop 1 second in
    option_and_then_some (λ voters. Some (Open threshold.0 rounds.0 voters)) (each_of voter_of third) op rounds.3 (λ voters read made.
    let list = each_of-some voter_of IsLawfulVoter voter_word voter_of-some third voters read in
    spelled (codes "open" ∷ words) (Open threshold.0 rounds.0 voters) op (some_same made) (threshold.1, rounds.1, list.0) (cc (threshold.2, rounds.2, list.1)))

-- what is read as a vote is its words
cast_of-some : (words : List (List ℕ)) (op : Op) → cast_of words ≡ Some op → IsSpelled (codes "cast" ∷ words) op
cast_of-some words op is =
    let tx = number_step words _ op is in
    let second = drop 1 words in
    let voter = name_step second _ op tx.3 in
    let third = drop 1 second in
    let phase = phase_step third _ op voter.3 in
    let fourth = drop 1 third in
    let hash = hash_step fourth _ op phase.3 in
    let made : Op = Cast (record { 0 = tx.0 }) voter.0 phase.0 hash.0 in
    let fifth = drop 1 fourth in
    let last = end_step fifth made op hash.3 in
    spelled (codes "cast" ∷ words) made op last.1 (tx.1, voter.1, hash.1) (cc (tx.2, voter.2, phase.2, hash.2, last.0))

-- what is read as a withdrawal is its words
withdraw_of-some : (words : List (List ℕ)) (op : Op) → withdraw_of words ≡ Some op → IsSpelled (codes "withdraw" ∷ words) op
withdraw_of-some words op is =
    let tx = number_step words _ op is in
    let second = drop 1 words in
    let voter = name_step second _ op tx.3 in
    let made : Op = Withdraw (record { 0 = tx.0 }) voter.0 in
    let third = drop 1 second in
    let last = end_step third made op voter.3 in
    spelled (codes "withdraw" ∷ words) made op last.1 (tx.1, voter.1) (cc (tx.2, voter.2, last.0))

-- what is read as a word and a transaction is those
tx_line : (text : List ℕ) (make : TxId → Op) → ((tx : TxId) → tx.0 < 2 ^ 64 → IsLawfulVote (make tx)) → ((tx : TxId) → vote_words (make tx) ≡ text ∷ decimal tx.0 ∷ [])
    → (words : List (List ℕ)) (op : Op) → option_map make (tx_of words) ≡ Some op → IsSpelled (text ∷ words) op
tx_line text make lawful written = made_line IsSpelled text make tx_of (λ words tx is.
    let known = only_tx words tx is in (lawful tx known.0, written tx ∙ ap (λ (ws : List (List ℕ)). text ∷ ws) (sym known.1)))

-- what is read as a question for a voter's result is its words
collect_of-some : (words : List (List ℕ)) (op : Op) → collect_of words ≡ Some op → IsSpelled (codes "collect" ∷ words) op
collect_of-some words op is =
    let tx = number_step words _ op is in
    let second = drop 1 words in
    let voter = name_step second _ op tx.3 in
    let third = drop 1 second in
    let sub = small_step third _ op voter.3 in
    let made : Op = Collect (record { 0 = tx.0 }) voter.0 sub.0 in
    let fourth = drop 1 third in
    let last = end_step fourth made op sub.3 in
    spelled (codes "collect" ∷ words) made op last.1 (tx.1, voter.1, sub.1) (cc (tx.2, voter.2, sub.2, last.0))

-- what is read as a question for an outcome is its words
outcome_of-some : (words : List (List ℕ)) (op : Op) → outcome_of words ≡ Some op → IsSpelled (codes "outcome" ∷ words) op
outcome_of-some words op is =
    let tx = number_step words _ op is in
    let second = drop 1 words in
    let sub = small_step second _ op tx.3 in
    let made : Op = Outcome (record { 0 = tx.0 }) sub.0 in
    let third = drop 1 second in
    let last = end_step third made op sub.3 in
    spelled (codes "outcome" ∷ words) made op last.1 (tx.1, sub.1) (cc (tx.2, sub.2, last.0))

-- what is read as a line on votes is its words
pub vote_of-some : (first : List ℕ) (words : List (List ℕ)) (op : Op) → vote_of first words ≡ Some op → IsSpelled (first ∷ words) op
vote_of-some first words op is =
    kind IsSpelled (codes "open") open_of open_of-some first words op _
    (kind IsSpelled (codes "cast") cast_of cast_of-some first words op _
    (kind IsSpelled (codes "withdraw") withdraw_of withdraw_of-some first words op _
    (kind IsSpelled (codes "cancel") (λ ws. option_map Cancel (tx_of ws)) (tx_line (codes "cancel") Cancel (λ tx fits. fits) (λ tx. refl)) first words op _
    (kind IsSpelled (codes "stop") (λ ws. option_map Stop (tx_of ws)) (tx_line (codes "stop") Stop (λ tx fits. fits) (λ tx. refl)) first words op _
    (kind IsSpelled (codes "close") (λ ws. option_map Close (tx_of ws)) (tx_line (codes "close") Close (λ tx fits. fits) (λ tx. refl)) first words op _
    (kind IsSpelled (codes "collect") collect_of collect_of-some first words op _
    (kind IsSpelled (codes "outcome") outcome_of outcome_of-some first words op _
    (λ none. cc)))))))) is
