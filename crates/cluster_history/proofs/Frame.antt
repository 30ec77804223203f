-- A repository of which all that is seen is as it was is seen as it was.
use Rattle.std.proofs.Common.{◌≡◌, ℕ, Some, refl, sym, ap, subst, length}
use Rattle.px_cluster.specs.Book.{Repository, has_replica_on}
use Rattle.px_cluster.specs.Core.{repository, turn_of}
use Rattle.replica_invariant.specs.State.{AtNode, OpenPush, Replica, Shared, State}
use Rattle.safe_states.specs.Grows.{LeadsTo, Stays, Then}
use Rattle.safe_states.specs.Happens.{Happens}
use Rattle.cluster_history.specs.Goes.{Goes}
use Rattle.cluster_history.specs.History.{Whole}
use Rattle.cluster_history.specs.Seen.{job_for, node_if, replica_of, seen_purpose, seen_turn, state_of}

-- ---- what is equal by its parts

-- two functions that agree everywhere are one
pub same_functions : {A : Type 0} (f g : ℕ → A) → ((x : ℕ) → f x ≡ g x) → f ≡ g
same_functions f g agree = λ i x. agree x i

pub same_node : (a b : AtNode) → a.held ≡ b.held → a.refs ≡ b.refs → a.fence ≡ b.fence
    → a.committed ≡ b.committed → a.ready ≡ b.ready → a ≡ b
same_node a b held refs fence committed ready = λ i. record {
  held = held i;
  refs = refs i;
  fence = fence i;
  committed = committed i;
  ready = ready i;
}

pub same_replica : (a b : Replica) → a.kept ≡ b.kept → a.booking ≡ b.booking → a.floor ≡ b.floor
    → a.node ≡ b.node → a.level ≡ b.level → a.had ≡ b.had → a.purpose ≡ b.purpose → a.job ≡ b.job
    → a ≡ b
same_replica a b kept booking floor node level had purpose job = λ i. record {
  kept = kept i;
  booking = booking i;
  floor = floor i;
  node = node i;
  level = level i;
  had = had i;
  purpose = purpose i;
  job = job i;
}

pub same_shared : (a b : Shared) → a.newest ≡ b.newest → a.last ≡ b.last → a.creation ≡ b.creation
    → a.entry ≡ b.entry → a.text ≡ b.text → a ≡ b
same_shared a b newest last creation entry text = λ i. record {
  newest = newest i;
  last = last i;
  creation = creation i;
  entry = entry i;
  text = text i;
}

pub same_push : (a b : OpenPush) → a.lease ≡ b.lease → a.begun ≡ b.begun → a.members ≡ b.members
    → a.decided ≡ b.decided → a.told ≡ b.told → a.cast ≡ b.cast → a ≡ b
same_push a b lease begun members decided told cast = λ i. record {
  lease = lease i;
  begun = begun i;
  members = members i;
  decided = decided i;
  told = told i;
  cast = cast i;
}

pub same_state : (a b : State) → a.shared ≡ b.shared → a.admitted ≡ b.admitted
    → a.assigned ≡ b.assigned → a.replica ≡ b.replica → a.turn ≡ b.turn → a ≡ b
same_state a b shared admitted assigned replica turn = λ i. record {
  shared = shared i;
  admitted = admitted i;
  assigned = assigned i;
  replica = replica i;
  turn = turn i;
}

-- ---- what a repository with this book is seen by is as it was

pub record LooksSame (old new : Whole) (repo : ℕ) (book : Repository) : Type 0 where
  pub admitted : length new.cluster.core.storages ≡ length old.cluster.core.storages
  pub node : (storage : ℕ)
      → node_if (has_replica_on book storage) (new.cluster.node storage book.path)
      ≡ node_if (has_replica_on book storage) (old.cluster.node storage book.path)
  pub ledger : new.cluster.ledger repo ≡ old.cluster.ledger repo
  pub entry : new.history.entry repo ≡ old.history.entry repo
  pub text : new.history.text repo ≡ old.history.text repo
  pub floor : new.history.floor repo ≡ old.history.floor repo
  pub level : new.history.level repo ≡ old.history.level repo
  pub had : new.history.had repo ≡ old.history.had repo
  pub read_at : new.history.read_at repo ≡ old.history.read_at repo
  pub job : (storage : ℕ) → job_for new.cluster.core repo storage
      ≡ job_for old.cluster.core repo storage
  pub turn : seen_turn new.cluster.core (turn_of new.cluster.core repo)
      ≡ seen_turn old.cluster.core (turn_of old.cluster.core repo)

module _ (old new : Whole) (repo : ℕ) (book : Repository) (looks : LooksSame old new repo book) where
  replica : (storage : ℕ) → replica_of new repo book storage ≡ replica_of old repo book storage
  replica storage = same_replica (replica_of new repo book storage) (replica_of old repo book storage)
      refl refl (ap (λ f. f storage) looks.floor) (looks.node storage)
      (ap (λ f. f storage) looks.level) (ap (λ f. f storage) looks.had)
      (λ i lease. seen_purpose (looks.read_at i storage lease) (looks.ledger i storage lease))
      (looks.job storage)

  pub looks_same : state_of new repo book ≡ state_of old repo book
  looks_same = same_state (state_of new repo book) (state_of old repo book)
      (same_shared (state_of new repo book).shared (state_of old repo book).shared refl refl refl
      looks.entry looks.text) looks.admitted refl
      (same_functions (replica_of new repo book) (replica_of old repo book) replica) looks.turn

  -- so nothing happened to it
  pub stays_so : repository new.cluster.core repo ≡ Some book → Goes old new repo book
  stays_so there = record {
    now = book;
    there = there;
    leads = subst (LeadsTo (state_of old repo book)) (sym looks_same) (Stays (state_of old repo book));
  }

pub looks_itself : (whole : Whole) (repo : ℕ) (book : Repository) → LooksSame whole whole repo book
looks_itself whole repo book = record {
  admitted = refl;
  node = λ storage. refl;
  ledger = refl;
  entry = refl;
  text = refl;
  floor = refl;
  level = refl;
  had = refl;
  read_at = refl;
  job = λ storage. refl;
  turn = refl;
}

-- ---- one event

pub once : (old new : State) → Happens old new → LeadsTo old new
once old new happens = Then old old new (Stays old) happens

-- one event, to a state that looks like this one
pub once_to : (old new seen : State) → seen ≡ new → Happens old new → LeadsTo old seen
once_to old new seen is happens = subst (LeadsTo old) (sym is) (once old new happens)
