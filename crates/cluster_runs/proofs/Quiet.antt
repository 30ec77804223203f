-- What nodes have of paths of which no repository is on record stays quiet.
use Rattle.std.proofs.Common.{◌≡◌, ◌==◌, ℕ, List, Bool, true, if◌then◌else◌, Some, refl, sym, ◌∙◌, ap, subst}
use Rattle.std.specs.Str.{bytes_eq}
use Rattle.px_base.specs.declared.push.Push.{Push}
use Rattle.node_calls.specs.ReplicaState.{ReplicaState, without_ready}
use Rattle.node_calls.specs.declared.snapshot.Snapshot.{Snapshot}
use Rattle.px_cluster.specs.Astray.{Move, Moves, with_lost}
use Rattle.px_cluster.specs.Book.{Repository, has_replica_on, storages_of}
use Rattle.px_cluster.specs.Cluster.{Cluster}
use Rattle.px_cluster.specs.Core.{repository}
use Rattle.px_cluster.specs.Deliveries.{with_state_at}
use Rattle.px_cluster.specs.Effects.{Location}
use Rattle.px_cluster.specs.Numbers.{is_one_of}
use Rattle.cluster_form.specs.Books.{IsDense}
use Rattle.cluster_form.specs.Form.{HasForm}
use Rattle.cluster_form.proofs.Lists.{all_got, bytes_same, choose, same_number, some_is}
use Rattle.cluster_history.specs.Goes.{AreOthersQuiet, IsNobodys, IsQuiet}
use Rattle.cluster_history.proofs.Books.{there_is_one}
use Rattle.cluster_runs.proofs.Grown.{home_stays, itself, on_record}
use Rattle.cluster_runs.proofs.Nodes.{NodesMove, calls, loses, stays}

pub dense_is : (cluster : Cluster) (repo : ℕ) (book : Repository) → HasForm cluster
    → repository cluster.core repo ≡ Some book → IsDense cluster.core.storages book
dense_is cluster repo book form there =
    all_got (IsDense cluster.core.storages) cluster.core.repositories repo book
    form.core.books.dense there

-- a replica is on each storage of the virtual storage, and on no other
pub has_is_one : (cluster : Cluster) (repo storage : ℕ) (book : Repository) → HasForm cluster
    → repository cluster.core repo ≡ Some book → has_replica_on book storage
    ≡ is_one_of storage (storages_of cluster.core.storages book.virt)
has_is_one cluster repo storage book form there = there_is_one storage book.replicas
    ∙ ap (is_one_of storage) (dense_is cluster repo book form there)

-- what is nobody's after a move was nobody's before it
nobodys_before : (old new : Cluster) (move : Move) → HasForm old → HasForm new → Moves old move new
    → (storage : ℕ) (path : List ℕ) → IsNobodys new.core storage path
    → IsNobodys old.core storage path
nobodys_before old new move before after moves storage path nobodys repo book there has at =
    let on = on_record book repo old new move
    (record { now = book; there = there; later = itself book }) moves in
    let home = home_stays repo storage old new move (record {
      book = book;
      there = there;
      home = sym (has_is_one old repo storage book before there) ∙ has;
    }) moves in
    let same : home.book ≡ on.now = some_is home.book on.now (sym home.there ∙ on.there) in
    nobodys repo on.now on.there
    (has_is_one new repo storage on.now after on.there
    ∙ ap (λ (b : Repository). is_one_of storage (storages_of new.core.storages b.virt)) (sym same)
    ∙ home.home) (on.later.path ∙ at)

module _ (IsSent : Push → Type 0) (IsKept : Snapshot → Type 0) (old new : Cluster)
    (quiet : AreOthersQuiet old) where
  -- at another storage or path the node has what it had
  beside : (at : Location) (state : ReplicaState) (storage : ℕ) (path : List ℕ)
      → ((storage ≡ at.storage) → (path ≡ at.path) → ⊥)
      → (with_state_at old at state).node storage path ≡ old.node storage path
  beside at state storage path apart = choose
      (λ (f : List ℕ → ReplicaState). f path ≡ old.node storage path) (storage == at.storage)
      (λ (other : List ℕ). if bytes_eq other at.path then state else old.node at.storage other)
      (old.node storage)
      (λ here. choose (λ (s : ReplicaState). s ≡ old.node storage path) (bytes_eq path at.path)
      state (old.node at.storage path)
      (λ same. absurd (apart (same_number storage at.storage here) (bytes_same path at.path same)))
      (λ other. ap (λ n. old.node n path) (sym (same_number storage at.storage here))))
      (λ other. refl)

  without : (state : ReplicaState) → IsQuiet state → IsQuiet (without_ready state)
  without state is = record { idle = refl; below = is.below }

  lost : (at : ℕ) (test : List ℕ → Bool) (storage : ℕ) (path : List ℕ)
      → IsQuiet (old.node storage path) → IsQuiet ((with_lost old at test).node storage path)
  lost at test storage path is = choose (λ (f : List ℕ → ReplicaState). IsQuiet (f path))
      (storage == at)
      (λ (other : List ℕ). if test other then without_ready (old.node at other) else old.node at other)
      (old.node storage)
      (λ here. let same = same_number storage at here in
      let there : IsQuiet (old.node at path) = subst (λ n. IsQuiet (old.node n path)) same is in
      choose IsQuiet (test path) (without_ready (old.node at path)) (old.node at path)
      (λ holds. without (old.node at path) there) (λ fails. there))
      (λ other. is)

  -- where nobody's was before
  quiet_by : (storage : ℕ) (path : List ℕ) → IsNobodys old.core storage path
      → NodesMove IsSent IsKept old new → IsQuiet (new.node storage path)
  quiet_by storage path nobodys (stays same) =
      subst (λ (f : ℕ → List ℕ → ReplicaState). IsQuiet (f storage path)) (sym same)
      (quiet storage path nobodys)
  quiet_by storage path nobodys (calls at state replica call same) =
      subst (λ (f : ℕ → List ℕ → ReplicaState). IsQuiet (f storage path)) (sym same)
      (subst IsQuiet (sym (beside at state storage path (λ here also.
      nobodys at.repo replica.book replica.known
      (subst (λ n. has_replica_on replica.book n ≡ true) (sym here) replica.there)
      (sym replica.path ∙ sym also)))) (quiet storage path nobodys))
  quiet_by storage path nobodys (loses at test same) =
      subst (λ (f : ℕ → List ℕ → ReplicaState). IsQuiet (f storage path)) (sym same)
      (lost at test storage path (quiet storage path nobodys))

-- ---- so they stay quiet

pub quiet_stays : (IsSent : Push → Type 0) (IsKept : Snapshot → Type 0) (old new : Cluster)
    (move : Move) → HasForm old → HasForm new → Moves old move new
    → NodesMove IsSent IsKept old new → AreOthersQuiet old → AreOthersQuiet new
quiet_stays IsSent IsKept old new move before after moves nodes quiet storage path nobodys =
    quiet_by IsSent IsKept old new quiet storage path
    (nobodys_before old new move before after moves storage path nobodys) nodes
