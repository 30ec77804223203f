-- What the reader computes of the words of a line on votes. The rule of these lines stands in
-- VoteSpelling.
use Rattle.std.specs.Prelude.{ℕ, List, if◌then◌else◌, Option, Some, None, option_and_then, option_map, codes}
use Rattle.std.specs.Str.{bytes_eq}
use Rattle.px_base.specs.Hash.{hash_of}
use Rattle.px_ops.specs.declared.op.Op.{Op}
use Rattle.px_ops.specs.declared.op.Op.TheVariants.{Open, Cast, Withdraw, Cancel, Stop, Close, Collect, Outcome}
use Rattle.px_script.specs.Reading.{and_then, at_end, tx_of}
use Rattle.px_script.specs.Words.{each_of, name_of, number_of, phase_of, small_of, voter_of}

-- a threshold, a number of rounds, and the voters
abbrev pub open_of : List (List ℕ) → Option Op
open_of words =
    and_then number_of words (λ threshold words.
    and_then small_of words (λ rounds words.
    option_and_then (λ voters. Some (Open threshold rounds voters)) (each_of voter_of words)))

-- a transaction, a voter, a phase and a hash
abbrev pub cast_of : List (List ℕ) → Option Op
cast_of words =
    and_then number_of words (λ tx words.
    and_then name_of words (λ voter words.
    and_then phase_of words (λ phase words.
    and_then hash_of words (λ hash words.
    at_end (Cast (record { 0 = tx }) voter phase hash) words))))

-- a transaction and a voter
abbrev pub withdraw_of : List (List ℕ) → Option Op
withdraw_of words =
    and_then number_of words (λ tx words.
    and_then name_of words (λ voter words.
    at_end (Withdraw (record { 0 = tx }) voter) words))

-- a transaction, a voter and the number of a subtransaction
abbrev pub collect_of : List (List ℕ) → Option Op
collect_of words =
    and_then number_of words (λ tx words.
    and_then name_of words (λ voter words.
    and_then small_of words (λ sub words.
    at_end (Collect (record { 0 = tx }) voter sub) words)))

-- a transaction and the number of a subtransaction
abbrev pub outcome_of : List (List ℕ) → Option Op
outcome_of words =
    and_then number_of words (λ tx words.
    and_then small_of words (λ sub words.
    at_end (Outcome (record { 0 = tx }) sub) words))

-- the operation that begins with this word and goes on with those
abbrev pub vote_of : List ℕ → List (List ℕ) → Option Op
vote_of first words =
    if bytes_eq first (codes "open") then open_of words
    else if bytes_eq first (codes "cast") then cast_of words
    else if bytes_eq first (codes "withdraw") then withdraw_of words
    else if bytes_eq first (codes "cancel") then option_map Cancel (tx_of words)
    else if bytes_eq first (codes "stop") then option_map Stop (tx_of words)
    else if bytes_eq first (codes "close") then option_map Close (tx_of words)
    else if bytes_eq first (codes "collect") then collect_of words
    else if bytes_eq first (codes "outcome") then outcome_of words
    else None
