-- A delivery that changes one replica: what its node has, what one lease was drawn for there, and what
-- is remembered of it. Each other replica is seen as it was.
use Rattle.std.proofs.Common.{◌≡◌, ℕ, ◌==◌, ◌&&◌, Bool, true, false, if◌then◌else◌, List, Option, Some, refl, sym, ◌∙◌, ap, subst, inl, inr}
use Rattle.std.specs.Str.{bytes_eq}
use Rattle.node_calls.specs.ReplicaState.{ReplicaState}
use Rattle.px_cluster.specs.Book.{Repository, has_replica_on}
use Rattle.px_cluster.specs.Cluster.{with_ledger, with_value}
use Rattle.px_cluster.specs.Core.{repository}
use Rattle.px_cluster.specs.Deliveries.{with_state_at}
use Rattle.px_cluster.specs.Effects.{Location}
use Rattle.px_cluster.specs.Ledger.{Ledger, Purpose, with_purpose}
use Rattle.replica_invariant.specs.State.{Entry, Replica, State}
use Rattle.safe_states.specs.Grows.{LeadsTo}
use Rattle.cluster_form.proofs.Lists.{all_got, bool, bytes_same, choose, other_number, same_bytes, same_number, same_self}
use Rattle.cluster_form.specs.Books.{IsDense}
use Rattle.cluster_form.specs.Form.{HasForm}
use Rattle.cluster_history.specs.Goes.{GoesOn}
use Rattle.cluster_history.specs.History.{Whole}
use Rattle.cluster_history.specs.Seen.{node_if, replica_of, seen_node, seen_purpose, state_of}
use Rattle.cluster_history.proofs.Books.{one_virt}
use Rattle.cluster_history.proofs.Frame.{LooksSame, same_functions, same_replica, same_state}
use Rattle.cluster_history.proofs.OneRepository.{one_goes}

-- ---- functions with another value at one number

pub value_here : {A : Type 0} (f : ℕ → A) (n : ℕ) (value : A) → with_value f n value n ≡ value
value_here f n value = ap (λ b. if b then value else f n) (same_self n)

pub value_elsewhere : {A : Type 0} (f : ℕ → A) (n : ℕ) (value : A) (x : ℕ) → (x ≡ n → ⊥)
    → with_value f n value x ≡ f x
value_elsewhere f n value x differs = elim (bool (x == n)) [
  | inl holds ↦ absurd (differs (same_number x n holds))
  | inr fails ↦ (rw fails refl)
]

-- the value that it has
pub value_same : {A : Type 0} (f : ℕ → A) (n : ℕ) → with_value f n (f n) ≡ f
value_same f n = same_functions (with_value f n (f n)) f (λ x. elim (bool (x == n)) [
  | inl holds ↦ (rw holds (ap f (sym (same_number x n holds))))
  | inr fails ↦ (rw fails refl)
])

-- ---- the ledger

module _ (ledger : Ledger) (repo storage lease : ℕ) (purpose : Purpose) where
  abbrev changed : Ledger
  changed = with_purpose ledger repo storage lease purpose

  pub ledger_other : (other : ℕ) → (other ≡ repo → ⊥) → changed other ≡ ledger other
  ledger_other other differs = elim (bool (other == repo)) [
    | inl holds ↦ absurd (differs (same_number other repo holds))
    | inr fails ↦ (λ i s l. ap (λ (b : Bool). if b && (s == storage) && (l == lease)
        then purpose else ledger other s l) fails i)
  ]

  pub ledger_here : (l : ℕ) → changed repo storage l ≡ with_value (ledger repo storage) lease purpose l
  ledger_here l = ap (λ (b : Bool). if b && (storage == storage) && (l == lease)
      then purpose else ledger repo storage l) (same_self repo)
      ∙ ap (λ (b : Bool). if b && (l == lease) then purpose else ledger repo storage l)
      (same_self storage)

  pub ledger_beside : (s l : ℕ) → (s ≡ storage → ⊥) → changed repo s l ≡ ledger repo s l
  ledger_beside s l differs = elim (bool (s == storage)) [
    | inl holds ↦ absurd (differs (same_number s storage holds))
    | inr fails ↦ (ap (λ (b : Bool). if (repo == repo) && b && (l == lease)
        then purpose else ledger repo s l) fails
        ∙ ap (λ (b : Bool). if b && false && (l == lease) then purpose else ledger repo s l)
        (same_self repo))
  ]

-- the purpose that it has
pub ledger_same : (ledger : Ledger) (repo storage lease : ℕ)
    → with_purpose ledger repo storage lease (ledger repo storage lease) ≡ ledger
ledger_same ledger repo storage lease = λ i r s l. at r s l i
  where
    at : (r s l : ℕ) → with_purpose ledger repo storage lease (ledger repo storage lease) r s l
        ≡ ledger r s l
    at r s l = elim (bool (r == repo)) [
      | inl holds ↦ (subst (λ x. with_purpose ledger repo storage lease
          (ledger repo storage lease) x s l ≡ ledger x s l) (sym (same_number r repo holds)) (in_repo s l))
      | inr fails ↦ (let other = ledger_other ledger repo storage lease
          (ledger repo storage lease) r (other_number r repo fails) in
          λ i. other i s l)
    ]
      where
        in_repo : (s l : ℕ) → with_purpose ledger repo storage lease
            (ledger repo storage lease) repo s l ≡ ledger repo s l
        in_repo s l = elim (bool (s == storage)) [
          | inl holds ↦ (subst (λ x. with_purpose ledger repo storage lease
              (ledger repo storage lease) repo x l ≡ ledger repo x l)
              (sym (same_number s storage holds))
              (ledger_here ledger repo storage lease (ledger repo storage lease) l
              ∙ ap (λ f. f l) (value_same (ledger repo storage) lease)))
          | inr fails ↦ ledger_beside ledger repo storage lease (ledger repo storage lease) s l
              (other_number s storage fails)
        ]

-- a purpose that changed is seen so
pub purpose_seen : (levels : ℕ → ℕ) (f : ℕ → Purpose) (lease : ℕ) (purpose : Purpose) (l : ℕ)
    → seen_purpose (levels l) (with_value f lease purpose l)
    ≡ with_value (λ x. seen_purpose (levels x) (f x)) lease (seen_purpose (levels lease) purpose) l
purpose_seen levels f lease purpose l = elim (bool (l == lease)) [
  | inl holds ↦ (rw holds (ap (λ n. seen_purpose (levels n) purpose) (same_number l lease holds)))
  | inr fails ↦ (rw fails refl)
]

-- ---- one replica changes

module _ (old : Whole) (r s : ℕ) (book : Repository) (state : ReplicaState) (lease : ℕ)
    (purpose : Purpose) (entry : ℕ → ℕ → Entry) (level : ℕ → ℕ → Option ℕ) (had : ℕ → ℕ → Bool)
    (form : HasForm old.cluster) (known : repository old.cluster.core r ≡ Some book)
    (there : has_replica_on book s ≡ true)
    (entries : (x : ℕ) → (x ≡ r → ⊥) → entry x ≡ old.history.entry x)
    (levels : (x : ℕ) → (x ≡ r → ⊥) → level x ≡ old.history.level x)
    (levels_here : (x : ℕ) → (x ≡ s → ⊥) → level r x ≡ old.history.level r x)
    (hads : (x : ℕ) → (x ≡ r → ⊥) → had x ≡ old.history.had x)
    (hads_here : (x : ℕ) → (x ≡ s → ⊥) → had r x ≡ old.history.had r x) where
  abbrev pub place : Location
  place = record { repo = r; path = book.path; storage = s }

  abbrev pub new : Whole
  new = record {
    cluster = with_ledger (with_state_at old.cluster place state)
        (with_purpose old.cluster.ledger r s lease purpose);
    history = record old.history { entry = entry; level = level; had = had };
  }

  -- ---- another repository

  node_beside : (x : ℕ) (path : List ℕ) → (x ≡ s → ⊥)
      → new.cluster.node x path ≡ old.cluster.node x path
  node_beside x path differs = ap (λ f. f path) (value_elsewhere old.cluster.node s _ x differs)

  node_here : (path : List ℕ) → new.cluster.node s path
      ≡ (if bytes_eq path book.path then state else old.cluster.node s path)
  node_here path = ap (λ f. f path) (value_here old.cluster.node s _)

  abbrev dense : (x : ℕ) (b : Repository) → repository old.cluster.core x ≡ Some b
      → IsDense old.cluster.core.storages b
  dense x b is = all_got (IsDense old.cluster.core.storages) old.cluster.core.repositories x b
      form.core.books.dense is

  other_node : (other : ℕ) (b : Repository) → repository old.cluster.core other ≡ Some b
      → (other ≡ r → ⊥) → (has : Bool) → has_replica_on b s ≡ has
      → node_if has (new.cluster.node s b.path) ≡ node_if has (old.cluster.node s b.path)
  other_node other b is differs false has = refl
  other_node other b is differs true has = ap seen_node (node_here b.path
      ∙ choose (λ x. x ≡ old.cluster.node s b.path) (bytes_eq b.path book.path) state
      (old.cluster.node s b.path)
      (λ same. absurd (differs (form.core.books.apart other r b book is known
      (one_virt old.cluster.core.storages b book s (dense other b is) (dense r book known) has there)
      (bytes_same b.path book.path same)))) (λ apart. refl))

  others : (other : ℕ) (b : Repository) → (other ≡ r → ⊥)
      → repository old.cluster.core other ≡ Some b → LooksSame old new other b
  others other b differs is = record {
    admitted = refl;
    node = λ x. elim (bool (x == s)) [
      | inl holds ↦ (subst (λ y. node_if (has_replica_on b y) (new.cluster.node y b.path)
          ≡ node_if (has_replica_on b y) (old.cluster.node y b.path)) (sym (same_number x s holds))
          (other_node other b is differs (has_replica_on b s) refl))
      | inr fails ↦ ap (node_if (has_replica_on b x)) (node_beside x b.path (other_number x s fails))
    ];
    ledger = ledger_other old.cluster.ledger r s lease purpose other differs;
    entry = entries other differs;
    text = refl;
    floor = refl;
    level = levels other differs;
    had = hads other differs;
    read_at = refl;
    job = λ x. refl;
    turn = refl;
  }

  -- ---- this one

  abbrev st : State
  st = state_of old r book

  -- the replica as it is now
  abbrev pub now : Replica
  now = record (st.replica s) {
    node = seen_node state;
    level = level r s;
    had = had r s;
    purpose = with_value (st.replica s).purpose lease
        (seen_purpose (old.history.read_at r s lease) purpose);
  }

  replica_here : replica_of new r book s ≡ now
  replica_here = same_replica (replica_of new r book s) now refl refl refl
      (ap (λ has. node_if has (new.cluster.node s book.path)) there ∙ ap seen_node (node_here book.path
      ∙ ap (λ b. if b then state else old.cluster.node s book.path)
      (same_bytes book.path book.path refl)))
      refl refl
      (same_functions _ _ (λ l. ap (seen_purpose (old.history.read_at r s l))
      (ledger_here old.cluster.ledger r s lease purpose l)
      ∙ purpose_seen (old.history.read_at r s) (old.cluster.ledger r s) lease purpose l))
      refl

  replica_beside : (x : ℕ) → (x ≡ s → ⊥) → replica_of new r book x ≡ st.replica x
  replica_beside x differs = same_replica (replica_of new r book x) (st.replica x) refl refl refl
      (ap (node_if (has_replica_on book x)) (node_beside x book.path differs))
      (levels_here x differs) (hads_here x differs)
      (same_functions _ _ (λ l. ap (seen_purpose (old.history.read_at r x l))
      (ledger_beside old.cluster.ledger r s lease purpose x l differs)))
      refl

  replicas : (x : ℕ) → replica_of new r book x ≡ with_value st.replica s now x
  replicas x = choose (λ w. replica_of new r book x ≡ w) (x == s) now (st.replica x)
      (λ holds. subst (λ y. replica_of new r book y ≡ now) (sym (same_number x s holds)) replica_here)
      (λ fails. replica_beside x (other_number x s fails))

  -- the repository as it is seen after the delivery
  abbrev pub then_ : State
  then_ = record st {
    shared = record st.shared { entry = entry r };
    replica = with_value st.replica s now;
  }

  pub here : state_of new r book ≡ then_
  here = same_state (state_of new r book) then_ refl refl refl (same_functions _ _ replicas) refl

  -- it is enough to know where that leads
  pub replica_goes : LeadsTo st then_ → GoesOn old new
  replica_goes leads = one_goes old new refl r book known others (subst (LeadsTo st) (sym here) leads)
