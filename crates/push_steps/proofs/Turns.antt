-- What leaves storages, jobs and nodes as they were, and which push has the turn of a repository.
use Rattle.std.proofs.Common.{◌≡◌, ◌==◌, ◌⊎◌, ◌+◌, ℕ, List, [], ◌∷◌, Bool, true, false, Option, None, Some, refl, sym, ◌∙◌, ap, subst, inl, inr, filter, find, arith}
use Rattle.px_base.specs.declared.ids.TxId.{TxId}
use Rattle.txmanager.proofs.RegistryLemmas.{other_registered}
use Rattle.txmanager.specs.Registry.{transaction_at, with_registered}
use Rattle.txmanager.specs.Voting.{Voting}
use Rattle.px_cluster.specs.Book.{Repository}
use Rattle.px_cluster.specs.Cluster.{Destination}
use Rattle.px_cluster.specs.Core.{Core, OpenPush, turn_of, voting}
use Rattle.px_cluster.specs.Ledger.{Ledger}
use Rattle.cluster_form.specs.Turns.{AreInOrder, AreTurns, IsBehind, IsTurn}
use Rattle.cluster_form.proofs.Lists.{all_find, bool, same_number, same_self, some_is}
use Rattle.replica_invariant.specs.State as seen
use Rattle.safe_states.specs.Grows.{LeadsTo, Stays}
use Rattle.safe_states.specs.Happens.{Finishes}
use Rattle.cluster_history.specs.Goes.{GoesOn}
use Rattle.cluster_history.specs.History.{Whole}
use Rattle.cluster_history.specs.Seen.{seen_push, seen_turn, state_of, vote_or_none}
use Rattle.cluster_history.proofs.Frame.{LooksSame, looks_same, once_to, same_state}
use Rattle.cluster_history.proofs.OneRepository.{each_goes}

-- ---- storages, jobs and nodes stay

-- the cluster with this core, but for storages and jobs, and with this ledger
abbrev pub with_rest : Whole → Core → Ledger → (ℕ → Option Destination) → Whole
with_rest whole core ledger pushed = record whole {
  cluster = record whole.cluster {
    core = record core {
      storages = whole.cluster.core.storages;
      jobs = whole.cluster.core.jobs;
    };
    ledger = ledger;
    pushed = pushed;
  };
}

-- the push of a repository is seen as it was
abbrev pub StaysInTurn : Core → Core → ℕ → Type 0
StaysInTurn old new repo = seen_turn new (turn_of new repo) ≡ seen_turn old (turn_of old repo)

-- a repository with the same leases and the same push looks as it did
pub looks_so : (whole : Whole) (core : Core) (ledger : Ledger) (pushed : ℕ → Option Destination)
    (repo : ℕ) (book : Repository) → ledger repo ≡ whole.cluster.ledger repo
    → StaysInTurn whole.cluster.core core repo
    → LooksSame whole (with_rest whole core ledger pushed) repo book
looks_so whole core ledger pushed repo book leases stays = record {
  admitted = refl;
  node = λ storage. refl;
  ledger = leases;
  entry = refl;
  text = refl;
  floor = refl;
  level = refl;
  had = refl;
  read_at = refl;
  job = λ storage. refl;
  turn = stays;
}

-- ---- .. and so do the book and the ledger

module _ (whole : Whole) (core : Core)
    (books : core.repositories ≡ whole.cluster.core.repositories) where
  abbrev new : Whole
  new = with_rest whole core whole.cluster.ledger whole.cluster.pushed

  -- the push of a repository is seen as it was, or it has none
  abbrev pub StaysOrEnds : ℕ → Type 0
  StaysOrEnds repo = StaysInTurn whole.cluster.core core repo ⊎ (turn_of core repo ≡ None)

  -- so nothing happened to it, or its push was finished
  leads : (repo : ℕ) (book : Repository) → StaysOrEnds repo
      → LeadsTo (state_of whole repo book) (state_of new repo book)
  leads repo book (inl stays) = subst (LeadsTo (state_of whole repo book))
      (sym (looks_same whole new repo book
      (looks_so whole core whole.cluster.ledger whole.cluster.pushed repo book refl stays)))
      (Stays (state_of whole repo book))
  leads repo book (inr none) = once_to (state_of whole repo book)
      (record (state_of whole repo book) { turn = None }) (state_of new repo book)
      (same_state _ _ refl refl refl refl (ap (seen_turn core) none))
      (Finishes (state_of whole repo book))

  -- so each goes on
  pub turns_go : ((repo : ℕ) → StaysOrEnds repo) → GoesOn whole new
  turns_go are = each_goes whole new books (λ repo book there. leads repo book (are repo))

-- ---- what is found of a repository and of a transaction

abbrev of_repo : ℕ → OpenPush → Bool
of_repo repo push = push.repo == repo

-- a push behind the first is of another repository
first_differs : (first push : OpenPush) (repo : ℕ) → IsBehind first push
    → (push.repo == repo) ≡ true → (first.repo == repo) ≡ false
first_differs first push repo behind is =
    subst (λ n. (first.repo == n) ≡ false) (same_number push.repo repo is) behind.repo

-- what is found among some of the pushes is found among all
pub found_before : (test : OpenPush → Bool) (repo : ℕ) (pushes : List OpenPush) (push : OpenPush)
    → AreInOrder pushes → find (of_repo repo) (filter test pushes) ≡ Some push
    → (find (of_repo repo) pushes ≡ Some push) × (test push ≡ true)
found_before test repo [] push order is = absurd (let none : None ≡ Some push = is in cc)
found_before test repo (x ∷ xs) push order is = elim (bool (test x)) [
  | inl keeps ↦ elim (bool (x.repo == repo)) [
    | inl here ↦ (let same : x ≡ push = some_is x push (rw here at (rw keeps at is)) in
        (rw here (ap (λ (p : OpenPush). Some p) same), subst (λ p. test p ≡ true) same keeps))
    | inr fails ↦ (let rest = found_before test repo xs push order.1
        (rw fails at (rw keeps at is)) in
        (rw fails rest.0, rest.1))
  ]
  | inr drops ↦ (let rest = found_before test repo xs push order.1 (rw drops at is) in
      let behind = all_find (IsBehind x) (of_repo repo) xs push order.0 rest.0 in
      (rw (first_differs x push repo behind.0 behind.1) rest.0, rest.1))
]

-- the push of a transaction has the turn of its repository
pub has_turn : (tx : ℕ) (pushes : List OpenPush) (push : OpenPush) → AreInOrder pushes
    → find (λ (p : OpenPush). p.tx.0 == tx) pushes ≡ Some push
    → find (of_repo push.repo) pushes ≡ Some push
has_turn tx [] push order is = absurd (let none : None ≡ Some push = is in cc)
has_turn tx (x ∷ xs) push order is = elim (bool (x.tx.0 == tx)) [
  | inl here ↦ (let same : x ≡ push = some_is x push (rw here at is) in
      rw (sym same) (rw (same_self x.repo) refl))
  | inr fails ↦ (let rest = has_turn tx xs push order.1 (rw fails at is) in
      let behind = all_find (IsBehind x) (of_repo push.repo) xs push order.0 rest in
      rw (first_differs x push push.repo behind.0 behind.1) rest)
]

-- ---- a transaction more

-- a push with its transaction, as it is seen
abbrev pub turn_with : OpenPush → Option Voting → Option seen.OpenPush
turn_with push vote = Some (seen_push push (vote_or_none vote))

-- the push that has a turn has a transaction that was given
pub turn_is : (core : Core) (repo : ℕ) (push : OpenPush) → AreTurns core
    → turn_of core repo ≡ Some push → IsTurn core.storages core.transactions core.last_tx push
turn_is core repo push turns is =
    (all_find (IsTurn core.storages core.transactions core.last_tx) (of_repo repo) core.pushes push
    turns.each is).0

-- so it is seen as it was, where the next one is registered
pub seen_later : (core new : Core) (vote : Voting) (next : TxId) → next.0 ≡ core.last_tx + 1
    → new.transactions ≡ with_registered core.transactions next vote → AreTurns core
    → (repo : ℕ) (there : Option OpenPush) → turn_of core repo ≡ there
    → seen_turn new there ≡ seen_turn core there
seen_later core new vote next number same turns repo None is = refl
seen_later core new vote next number same turns repo (Some push) is =
    ap (turn_with push) (older ∙ other)
  where
    older : voting new push.tx
        ≡ transaction_at (with_registered core.transactions next vote) push.tx
    older = ap (λ transactions. transaction_at transactions push.tx) same

    other : transaction_at (with_registered core.transactions next vote) push.tx
        ≡ voting core push.tx
    other = other_registered core.transactions next push.tx vote
        (λ is_. let given = (turn_is core repo push turns is).given in
        let z = ap (λ (t : TxId). t.0) is_ in omega (arith, z, given, number))
