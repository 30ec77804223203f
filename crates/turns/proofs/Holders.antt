-- The holders of turns, as pushes come and go.
use Rattle.std.proofs.Common.{◌≡◌, ◌++◌, ◌∷◌, [], ℕ, List, Bool, true, false, Option, None, Some, refl, sym, ◌∙◌, inl, inr, arith}
use Rattle.std.specs.Prelude.{◌==◌, find}
use Rattle.std.specs.BTreeMap.{is_at}
use Rattle.std.specs.List.{AllByRecursion}
use Rattle.std.specs.List.Sorted.{IsStrictlySortedBy}
use Rattle.std.specs.Map.{keys_of, lookup, remove_entry, set_value, values_of}
use Rattle.std.specs.Ordering.{nat_cmp}
use Rattle.std.proofs.lemmas.Bool.{cases_Bool}
use Rattle.std.proofs.lemmas.Bool.Decides.{nat_tests}
use Rattle.std.proofs.lemmas.Map.Keys.{sorted_head, sorted_tail}
use Rattle.px_cluster.specs.Core.{OpenPush}
use Rattle.px_base.specs.declared.ids.TxId.{TxId}
use Rattle.turns.specs.Turns.{AreKept, AreNumbered, HaveTurns, Holds, of_repository}
use Rattle.turns.proofs.Pushes.{AreOthers, at_key, none_found, others_after}

-- the push is one of the repository
abbrev pub has_repo : ℕ → OpenPush → Bool
has_repo repo push = push.repo == repo

-- the push is that of the transaction
abbrev pub has_tx : ℕ → OpenPush → Bool
has_tx tx push = push.tx.0 == tx

-- ---- who has a turn

-- the transaction of the push that has the turn stands under its repository
holder_of : (repo : ℕ) (holders : List (ℕ × TxId)) (es : List (ℕ × OpenPush)) (push : OpenPush) → HaveTurns holders es
    → find (has_repo repo) (values_of es) ≡ Some push → lookup (is_at (nat_cmp repo)) holders ≡ Some push.tx
holder_of repo holders [] push all there = absurd (cc)
holder_of repo holders (e ∷ es) push all there =
    elim (cases_Bool (e.1.repo == repo)) [
      | inl t ↦
          (let is : Some e.1 ≡ Some push = rw t at there in
          let one : e.1 ≡ push = cc in
          let same : e.1.repo ≡ repo = grind (arith, nat_tests) in
          rw (← same, ← one) all.0)
      | inr f ↦ holder_of repo holders es push all.1 (rw f at there)
    ]

-- that push has the turn of its repository
has_repo_of : (repo : ℕ) (pushes : List OpenPush) (push : OpenPush) → find (has_repo repo) pushes ≡ Some push → has_repo repo push ≡ true
has_repo_of repo [] push there = absurd (cc)
has_repo_of repo (p ∷ pushes) push there =
    elim (cases_Bool (p.repo == repo)) [
      | inl t ↦ (let is : Some p ≡ Some push = rw t at there in let one : p ≡ push = cc in rw (← one) t)
      | inr f ↦ has_repo_of repo pushes push (rw f at there)
    ]

-- and is that of its transaction
by_tx : (repo : ℕ) (es : List (ℕ × OpenPush)) (push : OpenPush) → AreNumbered es → IsStrictlySortedBy nat_cmp (keys_of es)
    → find (has_repo repo) (values_of es) ≡ Some push → find (has_tx push.tx.0) (values_of es) ≡ Some push
by_tx repo [] push all ascend there = absurd (cc)
by_tx repo (e ∷ es) push all ascend there =
    elim (cases_Bool (e.1.repo == repo)) [
      | inl t ↦
          (let is : Some e.1 ≡ Some push = rw t at there in
          let one : e.1 ≡ push = cc in
          let self : (e.1.tx.0 == e.1.tx.0) ≡ true = grind (arith, nat_tests) in
          rw (← one, self) refl)
      | inr f ↦
          (let later : find (has_tx push.tx.0) (values_of es) ≡ Some push = by_tx repo es push all.1 (sorted_tail nat_cmp e.0 (keys_of es) ascend) (rw f at there) in
          let others : AreOthers e.0 (values_of es) = others_after e.0 es all.1 (sorted_head nat_cmp e.0 (keys_of es) ascend) in
          elim (cases_Bool (e.1.tx.0 == push.tx.0)) [
            | inl t ↦
                (let first : e.0 ≡ e.1.tx.0 = all.0 in
                let same : e.0 ≡ push.tx.0 = grind (arith, nat_tests) in
                let none : find (has_tx push.tx.0) (values_of es) ≡ None = rw (← same) (none_found e.0 (values_of es) others) in
                absurd (cc))
            | inr g ↦ rw g later
          ])
    ]

-- no push of another repository has the turn
no_turn : (repo tx : ℕ) (pushes : List OpenPush) (push : OpenPush) → find (has_repo repo) pushes ≡ None
    → find (has_tx tx) pushes ≡ Some push → has_repo repo push ≡ false
no_turn repo tx [] push none there = absurd (cc)
no_turn repo tx (p ∷ pushes) push none there =
    elim (cases_Bool (p.repo == repo)) [
      | inl t ↦ absurd (let some : Some p ≡ None = rw t at none in cc)
      | inr f ↦
          elim (cases_Bool (p.tx.0 == tx)) [
            | inl t ↦ (let is : Some p ≡ Some push = rw t at there in let one : p ≡ push = cc in rw (← one) f)
            | inr g ↦ no_turn repo tx pushes push (rw f at none) (rw g at there)
          ]
    ]

-- so what stands under a repository whose turn is free is none of its pushes
no_turn_of : (repo tx : ℕ) (pushes : List OpenPush) (o : Option OpenPush) → find (has_repo repo) pushes ≡ None
    → find (has_tx tx) pushes ≡ o → of_repository repo o ≡ None
no_turn_of repo tx pushes None none there = refl
no_turn_of repo tx pushes (Some push) none there = rw (no_turn repo tx pushes push none there) refl

-- the transaction that stands under a repository is that of the push that has its turn, if one has
pub turn_is : (repo : ℕ) (holders : List (ℕ × TxId)) (es : List (ℕ × OpenPush)) (tx : TxId) (o : Option OpenPush) → AreKept es holders
    → lookup (is_at (nat_cmp repo)) holders ≡ Some tx → find (has_repo repo) (values_of es) ≡ o
    → of_repository repo (find (has_tx tx.0) (values_of es)) ≡ o
turn_is repo holders es tx None kept held is = no_turn_of repo tx.0 (values_of es) (find (has_tx tx.0) (values_of es)) is refl
turn_is repo holders es tx (Some push) kept held is =
    let holder : lookup (is_at (nat_cmp repo)) holders ≡ Some push.tx = holder_of repo holders es push kept.turns is in
    let one : push.tx ≡ tx = cc in
    rw (← one, by_tx repo es push kept.numbers kept.ascend is, has_repo_of repo (values_of es) push is) refl

-- where nothing stands under a repository, its turn is free
pub no_holder : (repo : ℕ) (holders : List (ℕ × TxId)) (es : List (ℕ × OpenPush)) (o : Option OpenPush) → HaveTurns holders es
    → lookup (is_at (nat_cmp repo)) holders ≡ None → find (has_repo repo) (values_of es) ≡ o → o ≡ None
no_holder repo holders es None turns none is = refl
no_holder repo holders es (Some push) turns none is =
    absurd (let holder : lookup (is_at (nat_cmp repo)) holders ≡ Some push.tx = holder_of repo holders es push turns is in cc)

-- ---- as pushes come and go

-- whose repositories are others, keep their turns
others_keep : (repo : ℕ) (o : Option TxId) (old new : List (ℕ × TxId)) (es : List (ℕ × OpenPush)) → Holds repo o old new
    → AllByRecursion (λ (e : ℕ × OpenPush). has_repo repo e.1 ≡ false) es → HaveTurns old es → HaveTurns new es
others_keep repo o old new [] holds others turns = tt
others_keep repo o old new (e ∷ es) holds others turns =
    (holds e.1.repo ∙ rw (at_key repo e.1.repo, others.0) turns.0, others_keep repo o old new es holds others.1 turns.1)

-- where nobody has the turn of a repository, all are of others
all_others : (repo : ℕ) (es : List (ℕ × OpenPush)) → find (has_repo repo) (values_of es) ≡ None
    → AllByRecursion (λ (e : ℕ × OpenPush). has_repo repo e.1 ≡ false) es
all_others repo [] none = tt
all_others repo (e ∷ es) none =
    elim (cases_Bool (e.1.repo == repo)) [
      | inl t ↦ absurd (let some : Some e.1 ≡ None = rw t at none in cc)
      | inr f ↦ (f, all_others repo es (rw f at none))
    ]

-- a turn was taken that was free
pub free_taken : (repo : ℕ) (o : Option TxId) (old new : List (ℕ × TxId)) (es : List (ℕ × OpenPush)) → Holds repo o old new
    → find (has_repo repo) (values_of es) ≡ None → HaveTurns old es → HaveTurns new es
free_taken repo o old new es holds free turns = others_keep repo o old new es holds (all_others repo es free) turns

-- one push more has the turn that it holds
pub turns_begun : (holders : List (ℕ × TxId)) (es : List (ℕ × OpenPush)) (push : OpenPush) → HaveTurns holders es
    → lookup (is_at (nat_cmp push.repo)) holders ≡ Some push.tx → HaveTurns holders (es ++ (push.tx.0, push) ∷ [])
turns_begun holders [] push turns held = (held, tt)
turns_begun holders (e ∷ es) push turns held = (turns.0, turns_begun holders es push turns.1 held)

-- the holder is the new one
pub held_by : (repo : ℕ) (tx : TxId) (old new : List (ℕ × TxId)) → Holds repo (Some tx) old new → lookup (is_at (nat_cmp repo)) new ≡ Some tx
held_by repo tx old new holds =
    let self : (repo == repo) ≡ true = grind (arith, nat_tests) in
    holds repo ∙ rw (at_key repo repo, self) refl

-- who has the turn of the repository of one push has its transaction
one_repo : (holders : List (ℕ × TxId)) (push : OpenPush) (es : List (ℕ × OpenPush)) → HaveTurns holders es
    → lookup (is_at (nat_cmp push.repo)) holders ≡ Some push.tx → AreOthers push.tx.0 (values_of es)
    → AllByRecursion (λ (e : ℕ × OpenPush). has_repo push.repo e.1 ≡ false) es
one_repo holders push [] turns held others = tt
one_repo holders push (e ∷ es) turns held others = (
  elim (cases_Bool (e.1.repo == push.repo)) [
    | inl t ↦
        absurd (let same : e.1.repo ≡ push.repo = grind (arith, nat_tests) in
        let held_too : lookup (is_at (nat_cmp push.repo)) holders ≡ Some e.1.tx = rw (← same) turns.0 in
        let is : Some e.1.tx ≡ Some push.tx = sym held_too ∙ held in
        let one : e.1.tx ≡ push.tx = cc in
        let self : (push.tx.0 == push.tx.0) ≡ true = grind (arith, nat_tests) in
        let other : (push.tx.0 == push.tx.0) ≡ false = rw one at others.0 in
        cc)
    | inr f ↦ f
  ],
  one_repo holders push es turns.1 held others.1,
)

-- the pushes that are left are those of other transactions
others_ended : (tx : ℕ) (es : List (ℕ × OpenPush)) → AreNumbered es → IsStrictlySortedBy nat_cmp (keys_of es)
    → AreOthers tx (values_of (remove_entry (is_at (nat_cmp tx)) es))
others_ended tx [] all ascend = tt
others_ended tx (e ∷ es) all ascend =
    elim (cases_Bool (e.0 == tx)) [
      | inl t ↦
          (let same : e.0 ≡ tx = grind (arith, nat_tests) in
          rw (at_key tx e.0, t, ← same) (others_after e.0 es all.1 (sorted_head nat_cmp e.0 (keys_of es) ascend)))
      | inr f ↦ rw (at_key tx e.0, f) (rw (← all.0) f, others_ended tx es all.1 (sorted_tail nat_cmp e.0 (keys_of es) ascend))
    ]

-- and keep their turns
turns_without : (tx : ℕ) (holders : List (ℕ × TxId)) (es : List (ℕ × OpenPush)) → HaveTurns holders es
    → HaveTurns holders (remove_entry (is_at (nat_cmp tx)) es)
turns_without tx holders [] turns = tt
turns_without tx holders (e ∷ es) turns =
    elim (cases_Bool (is_at (nat_cmp tx) e.0)) [
      | inl t ↦ rw t turns.1
      | inr f ↦ rw f (turns.0, turns_without tx holders es turns.1)
    ]

-- the push that is found under a number has it, and a turn
found_is : (tx : ℕ) (holders : List (ℕ × TxId)) (es : List (ℕ × OpenPush)) (push : OpenPush) → AreNumbered es → HaveTurns holders es
    → lookup (is_at (nat_cmp tx)) es ≡ Some push → (push.tx.0 ≡ tx) × (lookup (is_at (nat_cmp push.repo)) holders ≡ Some push.tx)
found_is tx holders [] push all turns there = absurd (cc)
found_is tx holders (e ∷ es) push all turns there =
    elim (cases_Bool (e.0 == tx)) [
      | inl t ↦
          (let is : Some e.1 ≡ Some push = rw (at_key tx e.0, t) at there in
          let one : e.1 ≡ push = cc in
          let same : e.0 ≡ tx = grind (arith, nat_tests) in
          rw (← one) (sym all.0 ∙ same, turns.0))
      | inr f ↦ found_is tx holders es push all.1 turns.1 (rw (at_key tx e.0, f) at there)
    ]

-- the push of a transaction ended, and with it its turn
pub turns_ended : (tx : ℕ) (old new : List (ℕ × TxId)) (es : List (ℕ × OpenPush)) (push : OpenPush) → AreKept es old
    → lookup (is_at (nat_cmp tx)) es ≡ Some push → Holds push.repo None old new → HaveTurns new (remove_entry (is_at (nat_cmp tx)) es)
turns_ended tx old new es push kept there holds =
    let rest = remove_entry (is_at (nat_cmp tx)) es in
    let turns : HaveTurns old rest = turns_without tx old es kept.turns in
    let is : (push.tx.0 ≡ tx) × (lookup (is_at (nat_cmp push.repo)) old ≡ Some push.tx) = found_is tx old es push kept.numbers kept.turns there in
    let others : AreOthers push.tx.0 (values_of rest) = rw is.0 (others_ended tx es kept.numbers kept.ascend) in
    others_keep push.repo None old new rest holds (one_repo old push rest turns is.1 others) turns

-- a push changed, which keeps its transaction and its repository
pub turns_changed : (tx : ℕ) (holders : List (ℕ × TxId)) (es : List (ℕ × OpenPush)) (push then_ : OpenPush) → HaveTurns holders es
    → lookup (is_at (nat_cmp tx)) es ≡ Some push → then_.tx ≡ push.tx → then_.repo ≡ push.repo
    → HaveTurns holders (set_value (is_at (nat_cmp tx)) es then_)
turns_changed tx holders [] push then_ turns there same_tx same_repo = tt
turns_changed tx holders (e ∷ es) push then_ turns there same_tx same_repo =
    elim (cases_Bool (is_at (nat_cmp tx) e.0)) [
      | inl t ↦
          (let is : Some e.1 ≡ Some push = rw t at there in
          let one : e.1 ≡ push = cc in
          rw t (rw (same_tx, same_repo, ← one) turns.0, turns.1))
      | inr f ↦ rw f (turns.0, turns_changed tx holders es push then_ turns.1 (rw f at there) same_tx same_repo)
    ]
