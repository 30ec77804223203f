-- Open pushes in a table by their transactions, as it is read and changed.
use Rattle.std.proofs.Common.{◌≡◌, ◌<◌, ◌++◌, ◌∷◌, [], ℕ, List, true, false, map, None, Some, refl, ap, sym, inl, inr, arith, suc}
use Rattle.std.specs.Prelude.{◌==◌, not, if◌then◌else◌, filter, find}
use Rattle.std.specs.BTreeMap.{insert_entry, is_at}
use Rattle.std.specs.List.{All, AllByRecursion}
use Rattle.std.specs.List.Sorted.{IsStrictlySortedBy}
use Rattle.std.specs.Map.{keys_of, lookup, remove_entry, set_value, values_of}
use Rattle.std.specs.Ordering.{nat_cmp}
use Rattle.std.specs.declared.cmp.Ordering.TheVariants.{Greater, Less}
use Rattle.std.proofs.lemmas.Bool.{cases_Bool}
use Rattle.std.proofs.lemmas.Bool.Decides.{nat_tests}
use Rattle.std.proofs.lemmas.Map.Keys.{sorted_head, sorted_tail}
use Rattle.px_cluster.specs.Core.{OpenPush}
use Rattle.turns.specs.Turns.{AreNumbered}

-- a key is found under itself alone
pub at_key : (tx key : ℕ) → is_at (nat_cmp tx) key ≡ (key == tx)
at_key tx key = grind (arith, nat_tests)

-- a later number is another
later_other : (tx key : ℕ) → nat_cmp tx key ≡ Less → (key == tx) ≡ false
later_other tx key later = grind (arith, nat_tests)

-- the push of a transaction is found
pub found_push : (tx : ℕ) (es : List (ℕ × OpenPush)) → AreNumbered es
    → lookup (is_at (nat_cmp tx)) es ≡ find (λ (push : OpenPush). push.tx.0 == tx) (values_of es)
found_push tx [] all = refl
found_push tx (e ∷ es) all = rw (at_key tx e.0, all.0, found_push tx es all.1) refl

-- none of these is the push of the transaction
abbrev pub AreOthers : ℕ → List OpenPush → Type 0
AreOthers tx pushes = AllByRecursion (λ (push : OpenPush). (push.tx.0 == tx) ≡ false) pushes

-- no later push is that of an earlier transaction
pub others_after : (tx : ℕ) (es : List (ℕ × OpenPush)) → AreNumbered es
    → AllByRecursion (λ (key : ℕ). nat_cmp tx key ≡ Less) (keys_of es) → AreOthers tx (values_of es)
others_after tx [] all later = tt
others_after tx (e ∷ es) all later =
    (rw (← all.0) (later_other tx e.0 later.0), others_after tx es all.1 later.1)

-- so none of them is found
pub none_found : (tx : ℕ) (pushes : List OpenPush) → AreOthers tx pushes → find (λ (push : OpenPush). push.tx.0 == tx) pushes ≡ None
none_found tx [] all = refl
none_found tx (push ∷ pushes) all = rw (all.0, none_found tx pushes all.1) refl

-- and all of them stay
all_stay : (tx : ℕ) (pushes : List OpenPush) → AreOthers tx pushes → filter (λ (push : OpenPush). not (push.tx.0 == tx)) pushes ≡ pushes
all_stay tx [] all = refl
all_stay tx (push ∷ pushes) all = rw (all.0, all_stay tx pushes all.1) refl

-- ---- without the push of a transaction

-- an entry less is the push less
pub ended_is : (tx : ℕ) (es : List (ℕ × OpenPush)) → AreNumbered es → IsStrictlySortedBy nat_cmp (keys_of es)
    → values_of (remove_entry (is_at (nat_cmp tx)) es) ≡ filter (λ (push : OpenPush). not (push.tx.0 == tx)) (values_of es)
ended_is tx [] all ascend = refl
ended_is tx (e ∷ es) all ascend =
    elim (cases_Bool (e.1.tx.0 == tx)) [
      | inl t ↦
          (let at : e.0 == tx ≡ true = rw all.0 t in
          let others : AreOthers e.0 (values_of es) = others_after e.0 es all.1 (sorted_head nat_cmp e.0 (keys_of es) ascend) in
          let same : e.0 ≡ tx = grind (arith, nat_tests) in
          rw (at_key tx e.0, at, t) (sym (all_stay tx (values_of es) (rw (← same) others))))
      | inr f ↦ rw (at_key tx e.0, all.0, f) (ap (λ (rest : List OpenPush). e.1 ∷ rest) (ended_is tx es all.1 (sorted_tail nat_cmp e.0 (keys_of es) ascend)))
    ]

-- the entries that are left stand under their numbers
pub numbered_ended : (tx : ℕ) (es : List (ℕ × OpenPush)) → AreNumbered es → AreNumbered (remove_entry (is_at (nat_cmp tx)) es)
numbered_ended tx [] all = tt
numbered_ended tx (e ∷ es) all =
    elim (cases_Bool (is_at (nat_cmp tx) e.0)) [
      | inl t ↦ rw t all.1
      | inr f ↦ rw f (all.0, numbered_ended tx es all.1)
    ]

-- ---- the push of a transaction changed

-- what becomes of each push
abbrev pub changed_at : ℕ → (OpenPush → OpenPush) → OpenPush → OpenPush
changed_at tx change push = if push.tx.0 == tx then change push else push

-- no push of another transaction changes
each_stays : (tx : ℕ) (change : OpenPush → OpenPush) (pushes : List OpenPush) → AreOthers tx pushes → map (changed_at tx change) pushes ≡ pushes
each_stays tx change [] all = refl
each_stays tx change (push ∷ pushes) all = rw (all.0, each_stays tx change pushes all.1) refl

-- an entry with another push is the push changed
pub changed_is : (tx : ℕ) (change : OpenPush → OpenPush) (es : List (ℕ × OpenPush)) (push : OpenPush)
    → AreNumbered es → IsStrictlySortedBy nat_cmp (keys_of es) → lookup (is_at (nat_cmp tx)) es ≡ Some push
    → values_of (set_value (is_at (nat_cmp tx)) es (change push)) ≡ map (changed_at tx change) (values_of es)
changed_is tx change [] push all ascend there = absurd (cc)
changed_is tx change (e ∷ es) push all ascend there =
    elim (cases_Bool (e.1.tx.0 == tx)) [
      | inl t ↦
          (let at : e.0 == tx ≡ true = rw all.0 t in
          let others : AreOthers e.0 (values_of es) = others_after e.0 es all.1 (sorted_head nat_cmp e.0 (keys_of es) ascend) in
          let same : e.0 ≡ tx = grind (arith, nat_tests) in
          let is : Some e.1 ≡ Some push = rw (at_key tx e.0, at) at there in
          let one : e.1 ≡ push = cc in
          rw (at_key tx e.0, at, t, ← one) (ap (λ (rest : List OpenPush). change e.1 ∷ rest) (sym (each_stays tx change (values_of es) (rw (← same) others)))))
      | inr f ↦
          (let later : lookup (is_at (nat_cmp tx)) es ≡ Some push = rw (at_key tx e.0, all.0, f) at there in
          rw (at_key tx e.0, all.0, f) (ap (λ (rest : List OpenPush). e.1 ∷ rest) (changed_is tx change es push all.1 (sorted_tail nat_cmp e.0 (keys_of es) ascend) later)))
    ]

-- where there is no such push, nothing changes
pub none_changed : (tx : ℕ) (change : OpenPush → OpenPush) (pushes : List OpenPush)
    → find (λ (push : OpenPush). push.tx.0 == tx) pushes ≡ None → map (changed_at tx change) pushes ≡ pushes
none_changed tx change [] none = refl
none_changed tx change (push ∷ pushes) none =
    elim (cases_Bool (push.tx.0 == tx)) [
      | inl t ↦ absurd (let some : Some push ≡ None = rw t at none in cc)
      | inr f ↦ rw f (ap (λ (rest : List OpenPush). push ∷ rest) (none_changed tx change pushes (rw f at none)))
    ]

-- a changed push that keeps its transaction stands under its number
pub numbered_changed : (tx : ℕ) (es : List (ℕ × OpenPush)) (push then_ : OpenPush) → AreNumbered es
    → lookup (is_at (nat_cmp tx)) es ≡ Some push → then_.tx ≡ push.tx → AreNumbered (set_value (is_at (nat_cmp tx)) es then_)
numbered_changed tx [] push then_ all there same = tt
numbered_changed tx (e ∷ es) push then_ all there same =
    elim (cases_Bool (is_at (nat_cmp tx) e.0)) [
      | inl t ↦
          (let is : Some e.1 ≡ Some push = rw t at there in
          let first : e.0 ≡ e.1.tx.0 = all.0 in
          rw t (cc, all.1))
      | inr f ↦ rw f (all.0, numbered_changed tx es push then_ all.1 (rw f at there) same)
    ]

-- ---- one push more

-- a later push comes last
pub comes_last : (es : List (ℕ × OpenPush)) (push : OpenPush)
    → AllByRecursion (λ (e : ℕ × OpenPush). e.0 < push.tx.0) es → insert_entry nat_cmp es push.tx.0 push ≡ es ++ (push.tx.0, push) ∷ []
comes_last [] push all = refl
comes_last (e ∷ es) push all =
    let after : nat_cmp push.tx.0 e.0 ≡ Greater = grind (arith, nat_tests, all.0) in
    rw after (ap (λ (rest : List (ℕ × OpenPush)). e ∷ rest) (comes_last es push all.1))

-- as the keys are the numbers of the transactions
pub all_earlier : (es : List (ℕ × OpenPush)) (tx : ℕ) → AreNumbered es
    → All (λ (other : OpenPush). other.tx.0 < tx) (values_of es) → AllByRecursion (λ (e : ℕ × OpenPush). e.0 < tx) es
all_earlier [] tx all earlier = tt
all_earlier (e ∷ es) tx all earlier =
    (rw all.0 (earlier 0 e.1 (omega arith)), all_earlier es tx all.1 (λ k d within. earlier (suc k) d (omega arith)))

-- one push more stands under its number
pub numbered_begun : (es : List (ℕ × OpenPush)) (push : OpenPush) → AreNumbered es → AreNumbered (es ++ (push.tx.0, push) ∷ [])
numbered_begun [] push all = (refl, tt)
numbered_begun (e ∷ es) push all = (all.0, numbered_begun es push all.1)
