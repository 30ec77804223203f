-- The steps of the readers of lines: each takes the spelling of something lawful off the front of the
-- words.
use Rattle.std.proofs.Common.{◌≡◌, ◌<◌, ◌-◌, ◌^◌, inl, ℕ, List, [], ◌∷◌, drop, Bool, true, false, cond, Option, None, Some, arith, option_and_then, refl, ap, sym, subst}
use Rattle.std.specs.Fmt.{decimal}
use Rattle.std.specs.Option.{option_map}
use Rattle.std.specs.Str.{bytes_eq}
use Rattle.std.proofs.lemmas.Option.{option_and_then_some}
use Rattle.std.proofs.lemmas.Slice.Eq.{bytes_eq-Decides}
use Rattle.px_base.specs.Hash.{hash_of, hash_text, IsHash}
use Rattle.px_base.specs.RepoPath.{IsRepoPath}
use Rattle.px_base.specs.StorageName.{IsStorageName}
use Rattle.px_base.specs.declared.hash.Hash.{Hash}
use Rattle.px_base.specs.declared.ids.JobId.{JobId}
use Rattle.px_base.specs.declared.ids.RepoId.{RepoId}
use Rattle.px_base.specs.declared.ids.TxId.{TxId}
use Rattle.px_base.specs.declared.phase.Phase.{Phase}
use Rattle.px_base.proofs.HexText.{hash_of-some}
use Rattle.px_ops.specs.VoteTexts.{phase_word}
use Rattle.px_script.specs.ClusterSpelling.{health_word}
use Rattle.px_script.specs.JobSpelling.{IsLawfulWork}
use Rattle.px_script.specs.Names.{path_of}
use Rattle.px_script.specs.Reading.{job_lease_of, repo_name_lease_of, repo_name_of, repo_of, tx_name_of, tx_of}
use Rattle.px_script.specs.RepairSpelling.{IsLawfulFenced, IsLawfulReplica}
use Rattle.px_script.specs.Words.{end_of, first_of, health_of, lease_of, name_of, number_of, phase_of, small_of}
use Rattle.px_script.proofs.NameLemmas.{name_of-some, path_of-some, whole-name}
use Rattle.px_script.proofs.NumberLemmas.{lease_of-some, number_of-some, small_of-some, whole-decimal}
use Rattle.px_script.proofs.WordLemmas.{IsWhole, health_of-some, phase_of-some, some_same}

-- no byte of a number is a space
pub number : (n : ℕ) → n < 2 ^ 64 → IsWhole 32 (decimal n)
number n fits = whole-decimal 32 n (inl (omega arith)) fits

-- nor of a small one
pub small : (n : ℕ) → n < 2 ^ 32 → IsWhole 32 (decimal n)
small n fits = number n (omega (arith, fits))

-- nor of a lease
pub lease : (n : ℕ) → n < 2 ^ 64 - 1 → IsWhole 32 (decimal n)
lease n fits = number n (omega (arith, fits))

-- nor of a name
pub name : (text : List ℕ) → IsStorageName text → IsWhole 32 text
name text h = whole-name 32 refl text h

-- what a step takes off the front of the words, and what goes on
abbrev pub Taken : {A B : Type 0} → (A → Type 0) → (A → List ℕ) → List (List ℕ) → (A → Option B) → B → Type 0
Taken {A} lawful spelled words rest event = (a : A) × lawful a × (words ≡ spelled a ∷ drop 1 words) × (rest a ≡ Some event)

-- a step of the reader, where each word that it reads is the spelling of something lawful
step : {A B : Type 0} (read : List ℕ → Option A) (lawful : A → Type 0) (spelled : A → List ℕ)
    → ((word : List ℕ) (a : A) → read word ≡ Some a → lawful a × (spelled a ≡ word))
    → (words : List (List ℕ)) (rest : A → Option B) (event : B) → option_and_then rest (first_of read words) ≡ Some event
    → Taken lawful spelled words rest event
step read lawful spelled sound [] rest event is = cc
step read lawful spelled sound (word ∷ words) rest event is =
    option_and_then_some rest (read word) event is (λ a got more.
    let known = sound word a got in (a, known.0, ap (λ (w : List ℕ). w ∷ words) (sym known.1), more))

-- the first word is a number
pub number_step : {B : Type 0} (words : List (List ℕ)) (rest : ℕ → Option B) (event : B) → option_and_then rest (first_of number_of words) ≡ Some event
    → Taken (λ n. n < 2 ^ 64) decimal words rest event
number_step = step number_of (λ n. n < 2 ^ 64) decimal number_of-some

-- a small number
pub small_step : {B : Type 0} (words : List (List ℕ)) (rest : ℕ → Option B) (event : B) → option_and_then rest (first_of small_of words) ≡ Some event
    → Taken (λ n. n < 2 ^ 32) decimal words rest event
small_step = step small_of (λ n. n < 2 ^ 32) decimal small_of-some

-- a lease
pub lease_step : {B : Type 0} (words : List (List ℕ)) (rest : ℕ → Option B) (event : B) → option_and_then rest (first_of lease_of words) ≡ Some event
    → Taken (λ n. n < 2 ^ 64 - 1) decimal words rest event
lease_step = step lease_of (λ n. n < 2 ^ 64 - 1) decimal lease_of-some

-- a name
pub name_step : {B : Type 0} (words : List (List ℕ)) (rest : List ℕ → Option B) (event : B) → option_and_then rest (first_of name_of words) ≡ Some event
    → Taken IsStorageName (λ name. name) words rest event
name_step = step name_of IsStorageName (λ name. name) name_of-some

-- a path
pub path_step : {B : Type 0} (words : List (List ℕ)) (rest : List ℕ → Option B) (event : B) → option_and_then rest (first_of path_of words) ≡ Some event
    → Taken IsRepoPath (λ path. path) words rest event
path_step = step path_of IsRepoPath (λ path. path) path_of-some

-- a hash
pub hash_step : {B : Type 0} (words : List (List ℕ)) (rest : Hash → Option B) (event : B) → option_and_then rest (first_of hash_of words) ≡ Some event
    → Taken IsHash hash_text words rest event
hash_step = step hash_of IsHash hash_text hash_of-some

-- a phase
pub phase_step : {B : Type 0} (words : List (List ℕ)) (rest : Phase → Option B) (event : B) → option_and_then rest (first_of phase_of words) ≡ Some event
    → Taken (λ phase. Unit {0}) phase_word words rest event
phase_step = step phase_of (λ phase. Unit {0}) phase_word (λ word phase is. (tt, phase_of-some word phase is))

-- whether a storage can be reached
pub health_step : {B : Type 0} (words : List (List ℕ)) (rest : Bool → Option B) (event : B) → option_and_then rest (first_of health_of words) ≡ Some event
    → Taken (λ up. Unit {0}) health_word words rest event
health_step = step health_of (λ up. Unit {0}) health_word (λ word up is. (tt, health_of-some word up is))

-- and that is all
pub end_step : {B : Type 0} (words : List (List ℕ)) (made event : B) → option_and_then (λ u. Some made) (end_of words) ≡ Some event → (words ≡ []) × (made ≡ event)
end_step [] made event is = (refl, cc)
end_step (word ∷ words) made event is = cc

-- one kind of line, or another
pub kind : {E : Type 0} (IsLine : List (List ℕ) → E → Type 0) (text : List ℕ) (read : List (List ℕ) → Option E)
    → ((words : List (List ℕ)) (event : E) → read words ≡ Some event → IsLine (text ∷ words) event)
    → (first : List ℕ) (words : List (List ℕ)) (event : E) (others : Option E) → (others ≡ Some event → IsLine (first ∷ words) event)
    → (cond (bytes_eq first text) (read words) others) ≡ Some event → IsLine (first ∷ words) event
kind {E} IsLine text read sound first words event others else is = by (bytes_eq first text) refl is
  where
    by : (t : Bool) → bytes_eq first text ≡ t → (cond t (read words) others) ≡ Some event → IsLine (first ∷ words) event
    by true same is = subst (λ (f : List ℕ). IsLine (f ∷ words) event) (sym ((bytes_eq-Decides first text).0 same)) (sound words event is)
    by false differ is = else is

-- what is read as a transaction alone is its digits
pub only_tx : (words : List (List ℕ)) (tx : TxId) → tx_of words ≡ Some tx → (tx.0 < 2 ^ 64) × (words ≡ decimal tx.0 ∷ [])
only_tx words tx is =
    let number = number_step words _ tx is in
    let last = end_step (drop 1 words) _ tx number.3 in
    subst (λ (t : TxId). (t.0 < 2 ^ 64) × (words ≡ decimal t.0 ∷ [])) last.1 (number.1, cc (number.2, last.0))

-- what is read as a repository alone is its digits
pub only_repo : (words : List (List ℕ)) (repo : RepoId) → repo_of words ≡ Some repo → (repo.0 < 2 ^ 32) × (words ≡ decimal repo.0 ∷ [])
only_repo words repo is =
    let number = small_step words _ repo is in
    let last = end_step (drop 1 words) _ repo number.3 in
    subst (λ (r : RepoId). (r.0 < 2 ^ 32) × (words ≡ decimal r.0 ∷ [])) last.1 (number.1, cc (number.2, last.0))

-- what is read as a transaction and a storage is their words
pub only_tx_and_name : (words : List (List ℕ)) (at : TxId × List ℕ) → tx_name_of words ≡ Some at
    → (at.0.0 < 2 ^ 64) × IsStorageName at.1 × (words ≡ decimal at.0.0 ∷ at.1 ∷ [])
only_tx_and_name words at is =
    let number = number_step words _ at is in
    let second = drop 1 words in
    let storage = name_step second _ at number.3 in
    let last = end_step (drop 1 second) _ at storage.3 in
    subst (λ (a : TxId × List ℕ). (a.0.0 < 2 ^ 64) × IsStorageName a.1 × (words ≡ decimal a.0.0 ∷ a.1 ∷ [])) last.1
    (number.1, storage.1, cc (number.2, storage.2, last.0))

-- what is read as a job and a lease is their digits
pub only_job_and_lease : (words : List (List ℕ)) (work : JobId × ℕ)
    → job_lease_of words ≡ Some work
    → IsLawfulWork work.0 work.1 × (words ≡ decimal work.0.0 ∷ decimal work.1 ∷ [])
only_job_and_lease words work is =
    let number = number_step words _ work is in
    let second = drop 1 words in
    let held = lease_step second _ work number.3 in
    let last = end_step (drop 1 second) _ work held.3 in
    subst
    (λ (w : JobId × ℕ). IsLawfulWork w.0 w.1 × (words ≡ decimal w.0.0 ∷ decimal w.1 ∷ [])) last.1
    ((number.1, held.1), cc (number.2, held.2, last.0))

-- what is read as a repository and a storage is their words
pub only_repo_and_name : (words : List (List ℕ)) (at : RepoId × List ℕ)
    → repo_name_of words ≡ Some at
    → IsLawfulReplica at.0 at.1 × (words ≡ decimal at.0.0 ∷ at.1 ∷ [])
only_repo_and_name words at is =
    let repo = small_step words _ at is in
    let second = drop 1 words in
    let storage = name_step second _ at repo.3 in
    let last = end_step (drop 1 second) _ at storage.3 in
    subst
    (λ (a : RepoId × List ℕ). IsLawfulReplica a.0 a.1 × (words ≡ decimal a.0.0 ∷ a.1 ∷ [])) last.1
    ((repo.1, storage.1), cc (repo.2, storage.2, last.0))

-- what is read as a repository, a storage and a lease is their words
pub only_repo_name_and_lease : (words : List (List ℕ)) (at : RepoId × List ℕ × ℕ)
    → repo_name_lease_of words ≡ Some at
    → IsLawfulFenced at.0 at.1 at.2 × (words ≡ decimal at.0.0 ∷ at.1 ∷ decimal at.2 ∷ [])
only_repo_name_and_lease words at is =
    let repo = small_step words _ at is in
    let second = drop 1 words in
    let storage = name_step second _ at repo.3 in
    let third = drop 1 second in
    let held = lease_step third _ at storage.3 in
    let last = end_step (drop 1 third) _ at held.3 in
    subst
    (λ (a : RepoId × List ℕ × ℕ). IsLawfulFenced a.0 a.1 a.2
    × (words ≡ decimal a.0.0 ∷ a.1 ∷ decimal a.2 ∷ [])) last.1
    (((repo.1, storage.1), held.1), cc (repo.2, storage.2, held.2, last.0))

-- a line of something that is read of its words, and made an event
pub made_line : {A E : Type 0} (IsLine : List (List ℕ) → E → Type 0) (text : List ℕ) (make : A → E) (read : List (List ℕ) → Option A)
    → ((words : List (List ℕ)) (a : A) → read words ≡ Some a → IsLine (text ∷ words) (make a))
    → (words : List (List ℕ)) (event : E) → option_map make (read words) ≡ Some event → IsLine (text ∷ words) event
made_line {A} {E} IsLine text make read sound words event is = by (read words) refl is
  where
    by : (got : Option A) → read words ≡ got → option_map make got ≡ Some event → IsLine (text ∷ words) event
    by None none is = cc
    by (Some a) some is = subst (IsLine (text ∷ words)) (some_same is) (sound words a some)
