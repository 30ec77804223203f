-- What is issued and kept, as it changes what the cluster has.
use Rattle.std.proofs.Common.{◌≡◌, ◌==◌, ◌∙◌, ℕ, Bool, cond, List, None, Option, Some, true, false, inl, inr, refl, ap, sym, subst}
use Rattle.std.specs.BTreeMap.{is_at}
use Rattle.std.specs.Cmp.{eq_by_cmp_equiv, nat_cmp_total}
use Rattle.std.specs.Map.{lookup}
use Rattle.std.specs.Option.{IsSome}
use Rattle.std.specs.Ordering.{nat_cmp}
use Rattle.node_calls.specs.declared.snapshot.Snapshot.{Snapshot}
use Rattle.px_base.specs.declared.hash.Hash.{Hash}
use Rattle.px_base.specs.declared.ids.TxId.{TxId}
use Rattle.px_cluster.specs.Cluster.{with_ledger, with_value}
use Rattle.px_cluster.specs.Issues.{with_drawn}
use Rattle.px_cluster.specs.Ledger.{Fencing, Ledger, Purpose, Pushing, answered, with_commit, with_last, with_purpose, with_purposes, with_snapshot}
use Rattle.px_cluster.specs.Numbers.{is_one_of}
use Rattle.issued.specs.Draws.{ledger_of}
use Rattle.issued.specs.Entries.{Entries}
use Rattle.issued.specs.Issued.{IssuesCommit, IssuesPush, KeepsAnswer, KeepsFenceAnswer, KeepsSnapshot, cluster_of, pushed_of, with_fence, with_work, worked_of}
use Rattle.issued.specs.Room.{MakesRoom}

-- there is room for a push or a job where it was made
module _ {V : Type 0} (old new : List (ℕ × Option V)) (number : ℕ) where
  pub room_made : MakesRoom nat_cmp number old new → IsSome (lookup (is_at (nat_cmp number)) new)
  room_made (inl makes) =
      subst IsSome (sym (makes.becomes number
      ∙ ap (λ b. cond b (Some None) (lookup (is_at (nat_cmp number)) old))
      ((eq_by_cmp_equiv nat_cmp_total).refl number))) refl
  room_made (inr had) =
      subst (λ (entries : List (ℕ × Option V)). IsSome (lookup (is_at (nat_cmp number)) entries))
      (sym had.same) had.some

  -- and none is lost
  pub room_left : MakesRoom nat_cmp number old new → (other : ℕ)
      → IsSome (lookup (is_at (nat_cmp other)) old) → IsSome (lookup (is_at (nat_cmp other)) new)
  room_left (inl makes) other is =
      subst IsSome (sym (makes.becomes other)) (either (is_at (nat_cmp number) other))
    where
      either : (b : Bool) → IsSome (cond b (Some None) (lookup (is_at (nat_cmp other)) old))
      either true = refl
      either false = is
  room_left (inr had) other is =
      subst (λ (entries : List (ℕ × Option V)). IsSome (lookup (is_at (nat_cmp other)) entries))
      (sym had.same) is

module _ (old new : Entries) where
  -- the pushes and the jobs stay
  pub record OthersStay : Type 0 where
    pub pushes : new.pushes ≡ old.pushes
    pub works : new.works ≡ old.works

  -- the ledger alone changes
  with_ledger_alone : (ledger : Ledger) → ledger_of new.draws ≡ ledger → OthersStay
      → cluster_of new ≡ with_ledger (cluster_of old) ledger
  with_ledger_alone ledger leads stay =
      (λ i. cluster_of (record { draws = new.draws; pushes = stay.pushes i; works = stay.works i }))
      ∙ ap (λ (ledger : Ledger). with_ledger (cluster_of old) ledger) leads

  pub drawn_in : (repo : ℕ) (storages : List ℕ) (lease : ℕ) (purpose : Purpose)
      → ledger_of new.draws ≡ with_purposes (ledger_of old.draws) repo
      (λ storage. is_one_of storage storages) lease (λ storage old. purpose)
      → OthersStay → cluster_of new ≡ with_drawn (cluster_of old) repo storages lease purpose
  drawn_in repo storages lease purpose leads stay = with_ledger_alone _ leads stay

  pub answer_kept : (repo storage lease : ℕ)
      → ledger_of new.draws ≡ with_purpose (ledger_of old.draws) repo storage lease
      (answered (ledger_of old.draws repo storage lease))
      → OthersStay → KeepsAnswer repo storage lease old new
  answer_kept repo storage lease leads stay effect r s l =
      rw (r, s, l) (with_ledger_alone _ leads stay)

  pub fence_answer_kept : (repo storage lease : ℕ) (last : Option ℕ)
      → ledger_of new.draws ≡ with_purpose (ledger_of old.draws) repo storage lease
      (with_last last (ledger_of old.draws repo storage lease))
      → OthersStay → KeepsFenceAnswer repo storage lease last old new
  fence_answer_kept repo storage lease last leads stay effect r s l =
      rw (r, s, l) (with_ledger_alone _ leads stay)

  pub snapshot_kept : (repo storage lease : ℕ) (snapshot : Snapshot)
      → ledger_of new.draws ≡ with_purpose (ledger_of old.draws) repo storage lease
      (with_snapshot snapshot (ledger_of old.draws repo storage lease))
      → OthersStay → KeepsSnapshot repo storage lease snapshot old new
  snapshot_kept repo storage lease snapshot leads stay effect r s l =
      rw (r, s, l) (with_ledger_alone _ leads stay)

  pub fence_issued : (repo storage lease : ℕ)
      → ledger_of new.draws
      ≡ with_purpose (ledger_of old.draws) repo storage lease (Fencing None)
      → OthersStay → cluster_of new ≡ with_fence (cluster_of old) repo storage lease
  fence_issued repo storage lease leads stay = with_ledger_alone _ leads stay

  pub commit_issued : (repo storage lease : ℕ) (hash : Hash)
      → ledger_of new.draws ≡ with_purposes (ledger_of old.draws) repo
      (λ other. other == storage) lease (λ other purpose. with_commit hash purpose)
      → OthersStay → IssuesCommit repo storage lease hash old new
  commit_issued repo storage lease hash leads stay push r l =
      rw (r, l) (with_ledger_alone _ leads stay)

  pub push_issued : (tx : TxId) (repo : ℕ) (members : List ℕ) (lease begun : ℕ)
      → ledger_of new.draws ≡ with_purposes (ledger_of old.draws) repo
      (λ storage. is_one_of storage members) lease (λ storage old. Pushing begun None false)
      → pushed_of new.pushes ≡ with_value (pushed_of old.pushes) tx.0
      (Some (record { repo = repo; number = lease }))
      → new.works ≡ old.works → IssuesPush tx repo members lease begun old new
  push_issued tx repo members lease begun leads goes stay push t r m l b =
      rw (t, r, m, l, b)
      (λ i. record (cluster_of new) {
        ledger = leads i;
        pushed = goes i;
        worked = worked_of (stay i);
      })

  pub work_issued : (job repo target lease : ℕ) (purpose : Purpose)
      → ledger_of new.draws ≡ with_purpose (ledger_of old.draws) repo target lease purpose
      → worked_of new.works ≡ with_value (worked_of old.works) job
      (Some (record { repo = repo; number = target }))
      → new.pushes ≡ old.pushes
      → cluster_of new ≡ with_work (cluster_of old) job repo target lease purpose
  work_issued job repo target lease purpose leads goes stay =
      λ i. record (cluster_of new) {
        ledger = leads i;
        pushed = pushed_of (stay i);
        worked = goes i;
      }
