-- How the reader goes from word to word. The rule of the lines stands in Spelling.
use Rattle.std.specs.Prelude.{ℕ, List, drop, Option, Some, option_and_then}
use Rattle.px_base.specs.declared.ids.JobId.{JobId}
use Rattle.px_base.specs.declared.ids.RepoId.{RepoId}
use Rattle.px_base.specs.declared.ids.TxId.{TxId}
use Rattle.px_script.specs.Words.{end_of, first_of, lease_of, name_of, number_of, small_of}

-- a reading of the first word, and one of the rest that knows what was read
abbrev pub and_then : {A B : Type 0} → (List ℕ → Option A) → List (List ℕ)
    → (A → List (List ℕ) → Option B) → Option B
and_then read words rest = option_and_then (λ a. rest a (drop 1 words)) (first_of read words)

-- what was read, where no word is left
abbrev pub at_end : {A : Type 0} → A → List (List ℕ) → Option A
at_end a words = option_and_then (λ u. Some a) (end_of words)

-- a transaction, and no more
abbrev pub tx_of : List (List ℕ) → Option TxId
tx_of words = and_then number_of words (λ tx words. at_end (record { 0 = tx }) words)

-- a transaction and a storage, and no more
abbrev pub tx_name_of : List (List ℕ) → Option (TxId × List ℕ)
tx_name_of words =
    and_then number_of words (λ tx words.
    and_then name_of words (λ name words. at_end (record { 0 = tx }, name) words))

-- a job and a lease, and no more
abbrev pub job_lease_of : List (List ℕ) → Option (JobId × ℕ)
job_lease_of words =
    and_then number_of words (λ job words.
    and_then lease_of words (λ lease words. at_end (record { 0 = job }, lease) words))

-- a repository, and no more
abbrev pub repo_of : List (List ℕ) → Option RepoId
repo_of words = and_then small_of words (λ repo words. at_end (record { 0 = repo }) words)

-- a repository and a storage, and no more
abbrev pub repo_name_of : List (List ℕ) → Option (RepoId × List ℕ)
repo_name_of words =
    and_then small_of words (λ repo words.
    and_then name_of words (λ name words. at_end (record { 0 = repo }, name) words))

-- a repository, a storage and a lease, and no more
abbrev pub repo_name_lease_of : List (List ℕ) → Option (RepoId × List ℕ × ℕ)
repo_name_lease_of words =
    and_then small_of words (λ repo words.
    and_then name_of words (λ name words.
    and_then lease_of words (λ lease words.
    at_end (record { 0 = repo }, name, lease) words)))
