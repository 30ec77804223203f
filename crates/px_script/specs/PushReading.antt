-- What the reader computes of the words of a line on a push. The rule of these lines stands in
-- PushSpelling.
use Rattle.std.specs.Prelude.{ℕ, List, if◌then◌else◌, Option, Some, None, option_and_then, option_map, codes}
use Rattle.std.specs.Str.{bytes_eq}
use Rattle.px_base.specs.declared.ids.RepoId.{RepoId}
use Rattle.px_base.specs.declared.ids.TxId.{TxId}
use Rattle.px_ops.specs.declared.op.Op.TheVariants.{Begin, Finish}
use Rattle.px_script.specs.PushWords.{pushed_of}
use Rattle.px_script.specs.Reading.{and_then, repo_of, tx_name_of, tx_of}
use Rattle.px_script.specs.Words.{name_of, number_of}
use Rattle.px_script.specs.declared.event.Event.{Event}
use Rattle.px_script.specs.declared.event.Event.TheVariants.{Abort, Commit, Operation, Prepare}

-- a transaction, a storage and a push
abbrev pub prepare_of : List (List ℕ) → Option Event
prepare_of words =
    and_then number_of words (λ tx words.
    and_then name_of words (λ name words.
    option_and_then (λ push. Some (Prepare (record { 0 = tx }) name push)) (pushed_of words)))

-- the events of a repository, of a transaction, and of a transaction at a storage
abbrev pub begin : RepoId → Event
begin repo = Operation (Begin repo)

abbrev pub finish : TxId → Event
finish tx = Operation (Finish tx)

abbrev pub commit : TxId × List ℕ → Event
commit at = Commit at.0 at.1

abbrev pub abort : TxId × List ℕ → Event
abort at = Abort at.0 at.1

-- the event that begins with this word and goes on with those
abbrev pub push_of : List ℕ → List (List ℕ) → Option Event
push_of first words =
    if bytes_eq first (codes "begin") then option_map begin (repo_of words)
    else if bytes_eq first (codes "prepare") then prepare_of words
    else if bytes_eq first (codes "commit") then option_map commit (tx_name_of words)
    else if bytes_eq first (codes "abort") then option_map abort (tx_name_of words)
    else if bytes_eq first (codes "finish") then option_map finish (tx_of words)
    else None
