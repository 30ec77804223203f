-- Operations that leave a transaction alone: it stays on record with its push, and casts lead it on.
use Rattle.std.proofs.Common.{◌≡◌, ◌≤◌, ◌+◌, ◌==◌, ℕ, not, List, [], ◌∷◌, ◌++◌, Bool, true, false, Option, None, Some, refl, sym, ◌∙◌, ap, subst, inl, inr, if◌then◌else◌, find, filter, map, arith}
use Rattle.px_base.specs.declared.hash.Hash.{Hash}
use Rattle.px_base.specs.declared.ids.TxId.{TxId}
use Rattle.px_base.specs.declared.phase.Phase.{Phase}
use Rattle.px_ops.specs.declared.op.Op.{Op}
use Rattle.px_ops.specs.declared.op.Op.TheVariants as op
use Rattle.txmanager.proofs.RegistryLemmas.{other_changed, other_closed, other_registered, other_with}
use Rattle.txmanager.specs.Registry.{Registry, transaction_at, with_registered}
use Rattle.txmanager.specs.VoterCalls.{after_cancel_voter, after_cast}
use Rattle.txmanager.specs.Voting.{Voting, after_cancel, after_stop, voting_on}
use Rattle.px_cluster.specs.Book.{Repository}
use Rattle.px_cluster.specs.Casts.{cast_on}
use Rattle.px_cluster.specs.Core.{Core, OpenPush, job_at, push_of, repository, voting, with_push_changed}
use Rattle.px_cluster.specs.Creating.{found}
use Rattle.px_cluster.specs.Ops.{left_by, with_voting}
use Rattle.px_cluster.specs.Pushes.{begun_at, ended, next_tx}
use Rattle.px_cluster.specs.Taking.{next_job}
use Rattle.cluster_form.proofs.Lists.{bool, choose, same_number}
use Rattle.cluster_form.proofs.Registries.{found_set}
use Rattle.vote_runs.specs.Complete.{hinders}
use Rattle.vote_runs.proofs.Registers.{OfVotes, by_book, cast_booked, creates, dequeues, ends}
use Rattle.cluster_form.proofs.Registries.{apart_tx, same_tx}

-- ---- the push among others

module _ (tx : TxId) where
  -- the push is that of the transaction
  abbrev pub is_of : OpenPush → Bool
  is_of push = push.tx.0 == tx.0

  -- a push that begins comes after it
  found_before : (pushes later : List OpenPush) (push : OpenPush) → find is_of pushes ≡ Some push
      → find is_of (pushes ++ later) ≡ Some push
  found_before [] later push is = absurd (let none : None ≡ Some push = is in cc)
  found_before (first ∷ pushes) later push is = elim (bool (is_of first)) [
    | inl holds ↦ (rw holds (rw holds at is))
    | inr fails ↦ (rw fails (found_before pushes later push (rw fails at is)))
  ]

  module _ (other : TxId) (apart : (tx.0 == other.0) ≡ false) where
    -- a push of the one is none of the other
    not_other : (push : OpenPush) → is_of push ≡ true → (push.tx.0 == other.0) ≡ false
    not_other push holds = ap (λ n. n == other.0) (same_number push.tx.0 tx.0 holds) ∙ apart

    -- the push of another transaction is changed
    found_marked : (change : OpenPush → OpenPush) → ((push : OpenPush) → (change push).tx ≡ push.tx)
        → (pushes : List OpenPush) (push : OpenPush) → find is_of pushes ≡ Some push
        → find is_of (map (λ (p : OpenPush). if p.tx.0 == other.0 then change p else p) pushes)
        ≡ Some push
    found_marked change keeps [] push is = absurd (let none : None ≡ Some push = is in cc)
    found_marked change keeps (first ∷ pushes) push is = elim (bool (is_of first)) [
      | inl holds ↦ (rw (not_other first holds) (rw holds (rw holds at is)))
      | inr fails ↦ (let rest = found_marked change keeps pushes push (rw fails at is) in
          let changed = if first.tx.0 == other.0 then change first else first in
          let still : is_of changed ≡ false = choose (λ (p : OpenPush). is_of p ≡ false)
          (first.tx.0 == other.0) (change first) first
          (λ here. ap (λ (t : TxId). t.0 == tx.0) (keeps first) ∙ fails) (λ elsewhere. fails) in
          rw still rest)
    ]

    -- .. or goes
    found_left : (pushes : List OpenPush) (push : OpenPush) → find is_of pushes ≡ Some push
        → find is_of (filter (λ (p : OpenPush). not (p.tx.0 == other.0)) pushes) ≡ Some push
    found_left [] push is = absurd (let none : None ≡ Some push = is in cc)
    found_left (first ∷ pushes) push is = elim (bool (is_of first)) [
      | inl holds ↦ (rw (not_other first holds) (rw holds (rw holds at is)))
      | inr fails ↦ (let rest = found_left pushes push (rw fails at is) in
          elim (bool (first.tx.0 == other.0)) [
            | inl goes ↦ (rw goes rest)
            | inr stays ↦ (rw stays (rw fails rest))
          ])
    ]

-- ---- what stays

module _ (tx : TxId) (push : OpenPush) (Q : Voting → Type 0) where
  -- the number was given, the push is open, and the transaction is on record, with a vote of that kind
  pub record IsOnRecord (last : ℕ) (transactions : Registry) (pushes : List OpenPush) : Type 0 where
    pub given : tx.0 ≤ last
    pub turn : find (is_of tx) pushes ≡ Some push
    pub vote : Voting
    pub there : transaction_at transactions tx ≡ Some vote
    pub so : Q vote

  -- in the core
  abbrev pub Holds : Core → Type 0
  Holds core = OfVotes IsOnRecord core

  -- a vote that is counted
  pub counted : (core : Core) (name : List ℕ) (phase : Phase) (hash : Hash) (old : Voting)
      (there : Option Voting) → voting core tx ≡ there → there ≡ Some old → tx.0 ≤ core.last_tx
      → push_of core tx ≡ Some push → Q (after_cast name phase hash old)
      → Holds (cast_on tx name phase hash there core)
  counted core name phase hash old None at is given turn so =
      absurd (let none : None ≡ Some old = is in cc)
  counted core name phase hash old (Some before) at is given turn so =
      cast_booked IsOnRecord (record core { transactions = _ }) (push_of core tx) name phase hash
      before (after_cast name phase hash before) (record {
        given = given;
        turn = turn;
        vote = after_cast name phase hash before;
        there = found_set tx.0 core.transactions before (after_cast name phase hash before) at;
        so = (let same : before ≡ old = cc in
            subst (λ v. Q (after_cast name phase hash v)) (sym same) so);
      })

module _ (tx : TxId) (push : OpenPush) (Q : Voting → Type 0)
    (keeps : (name : List ℕ) (phase : Phase) (hash : Hash) (old : Voting) → Q old
    → Q (after_cast name phase hash old)) where
  abbrev On : ℕ → Registry → List OpenPush → Type 0
  On = IsOnRecord tx push Q

  -- the transaction and its push stay where they are found
  stays : (core new : Core) → core.last_tx ≤ new.last_tx
      → transaction_at new.transactions tx ≡ transaction_at core.transactions tx
      → (push_of core tx ≡ Some push → push_of new tx ≡ Some push)
      → Holds tx push Q core → Holds tx push Q new
  stays core new later same turn holds = record {
    given = (let given = holds.given in omega (arith, given, later));
    turn = turn holds.turn;
    vote = holds.vote;
    there = same ∙ holds.there;
    so = holds.so;
  }

  -- the next transaction is another one
  not_next : (core : Core) → tx.0 ≤ core.last_tx → tx ≡ next_tx core → ⊥
  not_next core given same = let number = ap (λ (t : TxId). t.0) same in
      omega (arith, given, number)

  -- a transaction that is opened
  opens : (core : Core) (vote : Voting) → Holds tx push Q core → Holds tx push Q (record core {
    last_tx = core.last_tx + 1;
    transactions = with_registered core.transactions (next_tx core) vote;
  })
  opens core vote holds = stays core (record core {
    last_tx = core.last_tx + 1;
    transactions = with_registered core.transactions (next_tx core) vote;
  }) (omega arith)
      (other_registered core.transactions (next_tx core) tx vote (not_next core holds.given))
      (λ turn. turn) holds

  -- a push that begins
  begins : (core : Core) (repo : ℕ) (there : Option Repository) → Holds tx push Q core
      → Holds tx push Q (begun_at repo there core)
  begins core repo None holds = holds
  begins core repo (Some book) holds = stays core (begun_at repo (Some book) core) (omega arith)
      (other_registered core.transactions (next_tx core) tx _ (not_next core holds.given))
      (λ turn. found_before tx core.pushes _ push turn) holds

  -- a vote on another transaction
  votes_elsewhere : (core : Core) (other : TxId) (name : List ℕ) (phase : Phase) (hash : Hash)
      (there : Option Voting) → (tx.0 == other.0) ≡ false → Holds tx push Q core
      → Holds tx push Q (cast_on other name phase hash there core)
  votes_elsewhere core other name phase hash None apart holds = holds
  votes_elsewhere core other name phase hash (Some old) apart holds =
      cast_booked On (record core { transactions = _ }) (push_of core other) name phase hash old
      (after_cast name phase hash old) (record {
        given = holds.given;
        turn = holds.turn;
        vote = holds.vote;
        there = other_with core.transactions other tx (Some (after_cast name phase hash old))
            (apart_tx tx other apart) ∙ holds.there;
        so = holds.so;
      })

  -- any vote
  votes : (core : Core) (other : TxId) (name : List ℕ) (phase : Phase) (hash : Hash)
      → Holds tx push Q core → Holds tx push Q (left_by core (op.Cast other name phase hash))
  votes core other name phase hash holds = elim (bool (tx.0 == other.0)) [
    | inl here ↦ subst (λ t. Holds tx push Q (left_by core (op.Cast t name phase hash)))
        (same_tx tx other (same_number tx.0 other.0 here))
        (counted tx push Q core name phase hash holds.vote (voting core tx) refl holds.there
        holds.given holds.turn (keeps name phase hash holds.vote holds.so))
    | inr apart ↦ votes_elsewhere core other name phase hash (voting core other) apart holds
  ]

  -- another transaction is changed
  changed : (core : Core) (other : TxId) (becomes : Voting → Voting) → (tx.0 == other.0) ≡ false
      → Holds tx push Q core → Holds tx push Q (with_voting other becomes core)
  changed core other becomes apart = stays core (with_voting other becomes core) (omega arith)
      (other_changed core.transactions other tx becomes (apart_tx tx other apart)) (λ turn. turn)

  -- .. and its push
  marked : (core : Core) (other : TxId) (change : OpenPush → OpenPush)
      → ((p : OpenPush) → (change p).tx ≡ p.tx) → (tx.0 == other.0) ≡ false → Holds tx push Q core
      → Holds tx push Q (with_push_changed other change core)
  marked core other change same apart = stays core (with_push_changed other change core)
      (omega arith) refl (found_marked tx other apart change same core.pushes push)

  -- .. and is ended
  ends_other : (core : Core) (other : TxId) → (tx.0 == other.0) ≡ false → Holds tx push Q core
      → Holds tx push Q (ended other core)
  ends_other core other apart = stays core (ended other core) (omega arith)
      (other_closed core.transactions other tx (apart_tx tx other apart))
      (found_left tx other apart core.pushes push)

  -- each operation that does not hinder it
  pub left_alone : (core : Core) (asked : Op) → hinders tx asked ≡ false → Holds tx push Q core
      → Holds tx push Q (left_by core asked)
  left_alone core (op.Open threshold rounds voters) alone holds =
      opens core (voting_on (record { voters = voters; threshold = threshold }) rounds) holds
  left_alone core (op.Cast other voter phase hash) alone holds =
      votes core other voter phase hash holds
  left_alone core (op.Withdraw other voter) alone holds =
      changed core other (after_cancel_voter voter) alone holds
  left_alone core (op.Cancel other) alone holds =
      marked (with_voting other after_cancel core) other (λ p. record p { canceled = true })
      (λ p. refl) alone (changed core other after_cancel alone holds)
  left_alone core (op.Stop other) alone holds =
      marked (with_voting other after_stop core) other (λ p. record p { stopped = true })
      (λ p. refl) alone (changed core other after_stop alone holds)
  left_alone core (op.Close other) alone holds = ends_other core other alone holds
  left_alone core (op.Finish other) alone holds = ends_other core other alone holds
  left_alone core (op.Begin repo) alone holds = begins core repo.0 (repository core repo.0) holds
  left_alone core (op.Create virt path factor) alone holds =
      creates On core (found core virt path) _ holds
  left_alone core (op.Enrol repo storage lease) alone holds =
      by_book On core repo.0 _ (repository core repo.0) holds
  left_alone core (op.Dequeue target now) alone holds =
      dequeues On core (next_job core target.0) now holds
  left_alone core (op.Ack job lease good) alone holds =
      ends On core good (job_at core job.0) holds
  left_alone core (op.SetFactor repo factor) alone holds =
      by_book On core repo.0 _ (repository core repo.0) holds
  left_alone core (op.AcceptBegin repo storage) alone holds =
      by_book On (record core { jobs = _ }) repo.0 _ (repository core repo.0) holds
  left_alone core (op.Accept repo storage lease) alone holds =
      by_book On (record core { jobs = _ }) repo.0 _ (repository core repo.0) holds
  left_alone core (op.SettleBegin repo storage) alone holds =
      by_book On (record core { jobs = _ }) repo.0 _ (repository core repo.0) holds
  left_alone core (op.Settle repo storage lease last) alone holds =
      by_book On (record core { jobs = _ }) repo.0 _ (repository core repo.0) holds
  left_alone core (op.Admit virt name) alone holds = holds
  left_alone core (op.Health storage up) alone holds = holds
  left_alone core (op.Collect other voter sub) alone holds = holds
  left_alone core (op.Outcome other sub) alone holds = holds
  left_alone core (op.Beat job lease now) alone holds = holds
  left_alone core (op.Stale now span) alone holds = holds
  left_alone core (op.Reconcile only) alone holds = holds
  left_alone core (op.RouteRead repo) alone holds = holds
  left_alone core (op.Booked repo) alone holds = holds
  left_alone core (op.Find virt path) alone holds = holds
  left_alone core (op.Holder repo) alone holds = holds
