-- A push that is changed, or ends.
use Rattle.std.proofs.Common.{◌≡◌, ℕ, List, None, Some}
use Rattle.std.specs.BTreeMap.{is_at}
use Rattle.std.specs.List.Sorted.{IsStrictlySortedBy}
use Rattle.std.specs.Map.{keys_of, lookup, remove_entry, set_value}
use Rattle.std.specs.Ordering.{nat_cmp}
use Rattle.std.proofs.lemmas.Map.{keys-set_value}
use Rattle.px_cluster.specs.Core.{OpenPush}
use Rattle.px_base.specs.declared.ids.TxId.{TxId}
use Rattle.turns.specs.Turns.{AreKept, Holds}
use Rattle.turns.proofs.Holders.{turns_changed, turns_ended}
use Rattle.turns.proofs.Pushes.{numbered_changed, numbered_ended}

-- a push was changed, which keeps its transaction and its repository
pub kept_changed : (tx : ℕ) (es : List (ℕ × OpenPush)) (holders : List (ℕ × TxId)) (push then_ : OpenPush) → AreKept es holders
    → lookup (is_at (nat_cmp tx)) es ≡ Some push → then_.tx ≡ push.tx → then_.repo ≡ push.repo → AreKept (set_value (is_at (nat_cmp tx)) es then_) holders
kept_changed tx es holders push then_ kept there same_tx same_repo = record {
  numbers = numbered_changed tx es push then_ kept.numbers there same_tx;
  ascend = rw (keys-set_value (is_at (nat_cmp tx)) es then_) kept.ascend;
  turns = turns_changed tx holders es push then_ kept.turns there same_tx same_repo;
}

-- a push ended, and its turn is free
pub kept_ended : (tx : ℕ) (es rest : List (ℕ × OpenPush)) (old new : List (ℕ × TxId)) (push : OpenPush) → AreKept es old
    → lookup (is_at (nat_cmp tx)) es ≡ Some push → rest ≡ remove_entry (is_at (nat_cmp tx)) es → IsStrictlySortedBy nat_cmp (keys_of rest)
    → Holds push.repo None old new → AreKept rest new
kept_ended tx es rest old new push kept there is ascend holds = record {
  numbers = rw is (numbered_ended tx es kept.numbers);
  ascend = ascend;
  turns = rw is (turns_ended tx old new es push kept there holds);
}
