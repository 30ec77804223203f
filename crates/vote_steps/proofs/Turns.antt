-- The push of a transaction and the push that has the turn of its repository are one.
use Rattle.std.proofs.Common.{◌≡◌, ◌<◌, ◌==◌, ℕ, List, [], ◌∷◌, Bool, true, false, None, Some, refl, ap, subst, sym, inl, inr, find, arith}
use Rattle.px_base.specs.declared.ids.TxId.{TxId}
use Rattle.txmanager.specs.Voting.{Voting}
use Rattle.px_cluster.specs.Book.{Repository}
use Rattle.px_cluster.specs.Core.{Core, OpenPush, push_of, repository, turn_of, voting}
use Rattle.cluster_form.specs.Form.{IsFormed}
use Rattle.cluster_form.specs.Turns.{AreDistinct, AreInOrder, IsBehind, IsTurn, IsVoteOf}
use Rattle.cluster_form.specs.Within.{IsPushWithin}
use Rattle.cluster_form.proofs.Lists.{all_find, bool, same_number, same_self, some_is}

-- an open push: it is found by its transaction and by its repository, which is on record, and its
-- transaction is a vote of its members
pub record IsOpen (core : Core) (push : OpenPush) : Type 0 where
  pub named : push_of core push.tx ≡ Some push
  pub turn : turn_of core push.repo ≡ Some push
  pub book : Repository
  pub known : repository core push.repo ≡ Some book
  pub vote : Voting
  pub registered : voting core push.tx ≡ Some vote
  pub sound : IsVoteOf core.storages push.members vote
  pub distinct : AreDistinct push.members

-- ---- what is found by one test is found by another

-- .. that no push before it passes
found_too : (here there : OpenPush → Bool) (push : OpenPush) → there push ≡ true
    → ((before : OpenPush) → IsBehind before push → there before ≡ false)
    → (pushes : List OpenPush) → AreInOrder pushes → find here pushes ≡ Some push
    → find there pushes ≡ Some push
found_too here there push passes others [] order is =
    absurd (let z : None ≡ Some push = is in cc)
found_too here there push passes others (x ∷ xs) order is = elim (bool (here x)) [
  | inl holds ↦ (let same : x ≡ push = some_is x push (rw holds at is) in
      subst (λ y. find there (y ∷ xs) ≡ Some push) (sym same) (rw passes refl))
  | inr fails ↦ (let later : find here xs ≡ Some push = rw fails at is in
      rw (others x (all_find (IsBehind x) here xs push order.0 later).0)
      (found_too here there push passes others xs order.1 later))
]

-- a number below another one is not it
below_is_other : (a b : ℕ) → a < b → (a == b) ≡ false
below_is_other a b below = elim (bool (a == b)) [
  | inl holds ↦ absurd (let same = same_number a b holds in omega (arith, same, below))
  | inr fails ↦ fails
]

-- what is found by any test is found by its transaction
by_tx : (pushes : List OpenPush) (here : OpenPush → Bool) (push : OpenPush) → AreInOrder pushes
    → find here pushes ≡ Some push
    → find (λ (p : OpenPush). p.tx.0 == push.tx.0) pushes ≡ Some push
by_tx pushes here push order is = found_too here (λ (p : OpenPush). p.tx.0 == push.tx.0) push
    (same_self push.tx.0)
    (λ before behind. below_is_other before.tx.0 push.tx.0 behind.tx) pushes order is

-- .. and by its repository
by_repo : (pushes : List OpenPush) (here : OpenPush → Bool) (push : OpenPush) → AreInOrder pushes
    → find here pushes ≡ Some push
    → find (λ (p : OpenPush). p.repo == push.repo) pushes ≡ Some push
by_repo pushes here push order is = found_too here (λ (p : OpenPush). p.repo == push.repo) push
    (same_self push.repo) (λ before behind. behind.repo) pushes order is

module _ (core : Core) (form : IsFormed core) where
  -- what is found is open
  open_by : (here : OpenPush → Bool) (push : OpenPush) → find here core.pushes ≡ Some push
      → IsOpen core push
  open_by here push is =
      let turn = (all_find (IsTurn core.storages core.transactions core.last_tx) here core.pushes
      push form.turns.each is).0 in
      let within = (all_find (IsPushWithin core.repositories) here core.pushes push
      form.within.pushes is).0 in
      record {
        named = by_tx core.pushes here push form.turns.order is;
        turn = by_repo core.pushes here push form.turns.order is;
        book = within.book;
        known = within.there;
        vote = turn.vote;
        registered = turn.registered;
        sound = turn.sound;
        distinct = turn.distinct;
      }

  -- the push of a transaction
  pub push_is : (tx : TxId) (push : OpenPush) → push_of core tx ≡ Some push
      → (push.tx ≡ tx) × IsOpen core push
  push_is tx push is = (
    ap (λ n. let t : TxId = record { 0 = n } in t) (same_number push.tx.0 tx.0
        (all_find (IsPushWithin core.repositories) (λ (p : OpenPush). p.tx.0 == tx.0) core.pushes
        push form.within.pushes is).1),
    open_by (λ (p : OpenPush). p.tx.0 == tx.0) push is,
  )

  -- the push that has the turn of a repository
  pub turn_is : (repo : ℕ) (push : OpenPush) → turn_of core repo ≡ Some push
      → (push.repo ≡ repo) × IsOpen core push
  turn_is repo push is = (
    same_number push.repo repo (all_find (IsPushWithin core.repositories)
        (λ (p : OpenPush). p.repo == repo) core.pushes push form.within.pushes is).1,
    open_by (λ (p : OpenPush). p.repo == repo) push is,
  )
