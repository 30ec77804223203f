-- A push that begins, or for which memory wants.
use Rattle.std.proofs.Common.{◌≡◌, ◌<◌, ◌++◌, ◌∷◌, [], ℕ, List, None, Some, Result, Ok, Err, ap, ◌∙◌}
use Rattle.std.specs.Prelude.{find}
use Rattle.std.specs.BTreeMap.{insert_entry}
use Rattle.std.specs.List.{All}
use Rattle.std.specs.List.Sorted.{IsStrictlySortedBy}
use Rattle.std.specs.Map.{keys_of, values_of}
use Rattle.std.specs.Ordering.{nat_cmp}
use Rattle.std.specs.Result.{OnErr, OnOk}
use Rattle.std.proofs.lemmas.List.{map-append}
use Rattle.px_cluster.specs.Core.{OpenPush}
use Rattle.px_base.specs.declared.ids.TxId.{TxId}
use Rattle.turns.specs.Turns.{AreKept, Holds}
use Rattle.turns.proofs.Holders.{free_taken, has_repo, held_by, turns_begun}
use Rattle.turns.proofs.Pushes.{all_earlier, comes_last, numbered_begun}

-- no push is as late, and the turn is free
pub record MayBegin (es : List (ℕ × OpenPush)) (push : OpenPush) : Type 0 where
  pub later : All (λ (other : OpenPush). other.tx.0 < push.tx.0) (values_of es)
  pub free : find (has_repo push.repo) (values_of es) ≡ None

-- the turn is taken first
holders_kept : (es : List (ℕ × OpenPush)) (old new : List (ℕ × TxId)) (push : OpenPush) → AreKept es old → MayBegin es push
    → Holds push.repo (Some push.tx) old new → AreKept es new
holders_kept es old new push kept may holds = record {
  numbers = kept.numbers;
  ascend = kept.ascend;
  turns = free_taken push.repo (Some push.tx) old new es holds may.free kept.turns;
}

-- the push comes last
last_is : (es : List (ℕ × OpenPush)) (holders : List (ℕ × TxId)) (push : OpenPush) → AreKept es holders → MayBegin es push
    → insert_entry nat_cmp es push.tx.0 push ≡ es ++ (push.tx.0, push) ∷ []
last_is es holders push kept may = comes_last es push (all_earlier es push.tx.0 kept.numbers may.later)

-- the pushes and the holders, after both or where memory wanted
pub begun_kept : {A E : Type 0} (r : Result A E) (es new : List (ℕ × OpenPush)) (old holders : List (ℕ × TxId)) (push : OpenPush)
    → AreKept es old → MayBegin es push → Holds push.repo (Some push.tx) old holders
    → IsStrictlySortedBy nat_cmp (keys_of new) → OnOk r (new ≡ insert_entry nat_cmp es push.tx.0 push) → OnErr r (new ≡ es) → AreKept new holders
begun_kept (Ok x) es new old holders push kept may holds ascend ok err =
    let is : new ≡ es ++ (push.tx.0, push) ∷ [] = ok ∙ last_is es old push kept may in
    let before : AreKept es holders = holders_kept es old holders push kept may holds in record {
      numbers = rw is (numbered_begun es push kept.numbers);
      ascend = ascend;
      turns = rw is (turns_begun holders es push before.turns (held_by push.repo push.tx old holders holds));
    }
begun_kept (Err e) es new old holders push kept may holds ascend ok err = rw err (holders_kept es old holders push kept may holds)

-- the list of pushes, after both
pub begun_is : {A E : Type 0} (r : Result A E) (es new : List (ℕ × OpenPush)) (holders : List (ℕ × TxId)) (push : OpenPush)
    → AreKept es holders → MayBegin es push → OnOk r (new ≡ insert_entry nat_cmp es push.tx.0 push) → OnOk r (values_of new ≡ values_of es ++ push ∷ [])
begun_is (Ok x) es new holders push kept may ok =
    ap values_of (ok ∙ last_is es holders push kept may) ∙ map-append (λ (e : ℕ × OpenPush). e.1) es ((push.tx.0, push) ∷ [])
begun_is (Err e) es new holders push kept may ok = tt

-- the list of pushes, where memory wanted
pub same_is : {A E : Type 0} (r : Result A E) (es new : List (ℕ × OpenPush)) → OnErr r (new ≡ es) → OnErr r (values_of new ≡ values_of es)
same_is (Ok x) es new err = tt
same_is (Err e) es new err = ap values_of err
