-- Fences, as events of the cluster: what is issued for one, and what its node answers.
use Rattle.std.proofs.Common.{◌≡◌, ◌∙◌, ◌+◌, ℕ, List, true, IfSome, Option, None, Some, Result, Ok, Err, ap, refl, subst, sym}
use Rattle.std.specs.declared.alloc.AllocError.{AllocError}
use Rattle.px_base.specs.declared.ids.RepoId.{RepoId}
use Rattle.px_base.specs.declared.ids.StorageId.{StorageId}
use Rattle.px_ops.specs.declared.op.Op.{Op}
use Rattle.px_ops.specs.declared.op.Op.TheVariants as op
use Rattle.px_ops.specs.declared.refusal.Refusal.TheVariants.{Node, UnknownRepo}
use Rattle.px_ops.specs.declared.reply.Reply.{Reply}
use Rattle.issued.specs.Draws.{ledger_of}
use Rattle.issued.specs.Entries.{Entries}
use Rattle.issued.specs.Issued.{KeepsFenceAnswer, cluster_of, with_fence}
use Rattle.nodes.specs.Calls.{Fenced}
use Rattle.nodes.specs.State.{KeptNodes, NodesState, state_of}
use Rattle.nodes.specs.declared.fault.NodeFault.{NodeFault}
use Rattle.nodes.proofs.ClusterCalls.{fences_done, fences_refusal, nothing_kept}
use Rattle.px_cluster.specs.Acknowledged.{is_answered}
use Rattle.px_cluster.specs.Book.{Repository}
use Rattle.px_cluster.specs.Cluster.{Cluster}
use Rattle.px_cluster.specs.Core.{Core, repository}
use Rattle.px_cluster.specs.Deliveries.{Fences, with_answer}
use Rattle.px_cluster.specs.Effects.{Effect}
use Rattle.px_cluster.specs.Events.{Answer as Told, Asks, Fence, LastIs, Replied, refused}
use Rattle.px_cluster.specs.Issues.{issues, issues_fence}
use Rattle.px_cluster.specs.Ledger.{is_fence, with_last}
use Rattle.px_cluster.specs.Ops.{next_core, refusal_of, reply_of}
use Rattle.px_cluster.specs.Repairs.{accept_begin_refusal, settle_begin_refusal}
use Rattle.px_cluster.specs.Step.{Step}
use Rattle.px_core.specs.Readers.{path_on}
use Rattle.px_core.specs.Repairs.{IsNextLease}
use Rattle.script_rules.specs.declared.answer.Answer.{Answer}
use Rattle.px_world.specs.Answers.{IsRefusal}
use Rattle.px_world.specs.Asked.{DrawsFence, IsAdmission}
use Rattle.px_world.specs.Tries.{Happens}
use Rattle.px_world.specs.World.{world}
use Rattle.px_world.proofs.Asking.{issuing_happens}
use Rattle.px_world.proofs.Delivering.{effect_at, is_out, not_done}
use Rattle.px_world.proofs.StoragesStay.{storages_stay}

-- ---- a lease is drawn, and a fence issued under it

-- an operation that draws one is refused where the repository is not on record
draws_on_record : (core : Core) (asked : Op) (repo : RepoId) (storage : StorageId)
    → DrawsFence asked repo storage → repository core repo.0 ≡ None
    → refusal_of core asked ≡ Some UnknownRepo
draws_on_record core (op.AcceptBegin r s) repo storage draws none =
    ap (λ (of : RepoId). refusal_of core (op.AcceptBegin of s)) draws.0
    ∙ ap (λ book. accept_begin_refusal core repo.0 book s.0) none
draws_on_record core (op.SettleBegin r s) repo storage draws none =
    ap (λ (of : RepoId). refusal_of core (op.SettleBegin of s)) draws.0
    ∙ ap (λ book. settle_begin_refusal core repo.0 book s.0) none
draws_on_record core asked repo storage draws none = absurd draws

draws_answered : (cluster : Cluster) (asked : Op) (repo : RepoId) (storage : StorageId)
    → DrawsFence asked repo storage → is_answered cluster asked ≡ true
draws_answered cluster (op.AcceptBegin r s) repo storage draws = refl
draws_answered cluster (op.SettleBegin r s) repo storage draws = refl
draws_answered cluster asked repo storage draws = absurd draws

draws_issues : (cluster : Cluster) (asked : Op) (repo : RepoId) (storage : StorageId)
    → DrawsFence asked repo storage → issues cluster asked
    ≡ issues_fence cluster repo.0 storage.0 (repository cluster.core repo.0)
draws_issues cluster (op.AcceptBegin r s) repo storage draws =
    λ i. issues cluster (op.AcceptBegin (draws.0 i) (draws.1 i))
draws_issues cluster (op.SettleBegin r s) repo storage draws =
    λ i. issues cluster (op.SettleBegin (draws.0 i) (draws.1 i))
draws_issues cluster asked repo storage draws = absurd draws

draws_admits_none : (asked : Op) (repo : RepoId) (storage : StorageId)
    → DrawsFence asked repo storage → IsAdmission asked → ⊥
draws_admits_none (op.Admit virt name) repo storage draws is = draws
draws_admits_none asked repo storage draws is = is

-- no storage comes by it
pub fence_stays : (core : Core) (asked : Op) (repo : RepoId) (storage : StorageId)
    → DrawsFence asked repo storage → (next_core core asked).storages ≡ core.storages
fence_stays core asked repo storage draws =
    storages_stay core asked (draws_admits_none asked repo storage draws)

module _ (core new : Core) (nodes : NodesState) (was now : Entries) (asked : Op)
    (repo : RepoId) (storage : StorageId) (lease : ℕ) (draws : DrawsFence asked repo storage)
    (next : IsNextLease core repo.0 (refusal_of core asked) (Some lease))
    (fenced : cluster_of now ≡ with_fence (cluster_of was) repo.0 storage.0 lease) where
  abbrev here : Cluster
  here = world core nodes was

  -- it is issued under the next lease of the repository
  issued : world core nodes now ≡ issues here asked
  issued = by (repository core repo.0) refl next.1
      ∙ sym (draws_issues here asked repo storage draws)
    where
      by : (book : Option Repository) → repository core repo.0 ≡ book
          → IfSome book (λ (b : Repository). lease ≡ b.last + 1)
          → world core nodes now
          ≡ issues_fence here repo.0 storage.0 (repository core repo.0)
      by None none is =
          let z : None ≡ Some UnknownRepo =
          sym next.0 ∙ draws_on_record core asked repo storage draws none in absurd (cc)
      by (Some book) there is =
          ap (λ (c : Cluster). record c { core = core; node = nodes.node }) fenced
          ∙ ap (with_fence here repo.0 storage.0) is
          ∙ ap (issues_fence here repo.0 storage.0) (sym there)

  pub fence_drawn : (answer : Reply) → answer ≡ reply_of core asked → new ≡ next_core core asked
      → Step here (Asks asked) (Replied answer) (world new nodes now)
  fence_drawn answer replied leads = issuing_happens core new nodes was asked answer replied leads
      now next.0 (draws_answered here asked repo storage draws) issued

-- ---- a fence is delivered

module _ (core : Core) (old new : KeptNodes) (was now : Entries) (repo storage lease : ℕ)
    (path : List ℕ) (there : path_on core repo storage ≡ Some path)
    (out : is_fence (ledger_of was.draws repo storage lease) ≡ true) where
  abbrev before : Cluster
  before = world core (state_of old) was

  abbrev after : Entries → Cluster
  after entries = world core (state_of new) entries

  abbrev effect : Effect
  effect = effect_at repo path storage lease

  abbrev FencedSo : Result (Option ℕ) NodeFault → Type 0
  FencedSo result = Fenced lease storage path (state_of old) result (state_of new)

  -- by the effect that is out
  fence_found : (answer : Told) (then_ : Cluster) → Fences before (Some effect) answer then_
      → Step before (Fence storage repo lease) answer then_
  fence_found answer then_ = subst (λ found. Fences before found answer then_)
      (sym (is_out before is_fence repo storage lease path there out))

  -- the node answers the lease of the last push that it did, and that is kept
  pub fence_done : (last : Option ℕ) → KeepsFenceAnswer repo storage lease last was now
      → FencedSo (Ok last) → Step before (Fence storage repo lease) (LastIs last) (after now)
  fence_done last keeps done =
      let kept : after now ≡ with_answer (after was) effect (with_last last) =
      ap (λ (c : Cluster). record c { core = core; node = (state_of new).node })
      (keeps effect refl refl refl) in
      fence_found (LastIs last) (after now)
      (subst (λ c. Fences before (Some effect) (LastIs last) c) (sym kept)
      (fences_done before (state_of old) (state_of new) effect last done))

  -- the node refuses it, and is fenced all the same; or memory wants there
  pub fence_not_done : (fault : NodeFault) (result : Result Answer AllocError)
      → IsRefusal fault result → FencedSo (Err fault)
      → Happens (record { core = core; nodes = old; issued = was }) (Fence storage repo lease)
      result (record { core = core; nodes = new; issued = was })
  fence_not_done = not_done core old new was (Fence storage repo lease)
      (λ fault. FencedSo (Err fault))
      (λ why refusal. fence_found (refused (Node why)) (after was)
      (subst (λ c. Fences before (Some effect) (refused (Node why)) c)
      (nothing_kept (after was) effect)
      (fences_refusal before (state_of old) (state_of new) effect why refusal)))
      (λ same. same)
