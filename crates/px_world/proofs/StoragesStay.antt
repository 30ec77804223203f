-- Which operations leave the storages as they are.
use Rattle.std.proofs.Common.{◌≡◌, ℕ, length, Option, None, Some, refl, sym, ap, ◌∙◌}
use Rattle.px_base.specs.declared.ids.StorageId.{StorageId}
use Rattle.cluster_form.proofs.AlikeBooks.{left_alike}
use Rattle.px_ops.specs.declared.op.Op.{Op}
use Rattle.px_ops.specs.declared.op.Op.TheVariants as op
use Rattle.px_ops.specs.declared.refusal.Refusal.{Refusal}
use Rattle.px_ops.specs.declared.reply.Reply.{Reply}
use Rattle.px_ops.specs.declared.reply.Reply.TheVariants as reply
use Rattle.px_cluster.specs.Book.{Repository}
use Rattle.px_cluster.specs.Core.{Core, repository, with_repository_by}
use Rattle.px_cluster.specs.Creating.{admit_refusal, admitted, found, with_created}
use Rattle.px_cluster.specs.Ids.{storage_id}
use Rattle.px_cluster.specs.Ops.{left_by, next_core, refusal_of, reply_of, told, unless_refused}
use Rattle.nodes.specs.State.{NodesState}
use Rattle.px_world.specs.Asked.{IsAdmission}
use Rattle.px_world.specs.Plain.{IsPlain}
use Rattle.px_world.specs.World.{HasNodes}

created_same : (core : Core) (there : Option ℕ) (book : Repository)
    → (with_created there book core).storages ≡ core.storages
created_same core None book = refl
created_same core (Some repo) book = refl

factored_same : (core : Core) (repo : ℕ) (change : Repository → Repository)
    (there : Option Repository)
    → (with_repository_by there repo change core).storages ≡ core.storages
factored_same core repo change None = refl
factored_same core repo change (Some book) = refl

left_same : (core : Core) (asked : Op) → (IsAdmission asked → ⊥)
    → (left_by core asked).storages ≡ core.storages
left_same core (op.Admit virt name) other = absurd (other tt)
left_same core (op.Create virt path factor) other = created_same core (found core virt path) _
left_same core (op.SetFactor repo factor) other =
    factored_same core repo.0 _ (repository core repo.0)
left_same core asked other = (left_alike core asked tt).1

-- all but the taking in of a storage
pub storages_stay : (core : Core) (asked : Op) → (IsAdmission asked → ⊥)
    → (next_core core asked).storages ≡ core.storages
storages_stay core asked other = by (refusal_of core asked)
  where
    by : (why : Option Refusal)
        → (unless_refused why core (left_by core asked)).storages ≡ core.storages
    by None = left_same core asked other
    by (Some why) = refl

no_admission : (asked : Op) → IsPlain asked → IsAdmission asked → ⊥
no_admission (op.Admit virt name) plain is = plain
no_admission other plain is = is

-- .. those that speak of no node among them
pub plain_stays : (core : Core) (asked : Op) → IsPlain asked
    → (next_core core asked).storages ≡ core.storages
plain_stays core asked plain = storages_stay core asked (no_admission asked plain)

-- so each storage has its node
pub nodes_stay : (core new : Core) (nodes : NodesState) (asked : Op) → new ≡ next_core core asked
    → (next_core core asked).storages ≡ core.storages → HasNodes core nodes → HasNodes new nodes
nodes_stay core new nodes asked leads same has =
    has ∙ sym (ap (λ (c : Core). length c.storages) leads ∙ ap length same)

-- ---- the taking in of a storage

-- where it answers no number, there is none more
pub no_more : (core : Core) (asked : Op) (answer : Reply) → IsAdmission asked
    → ((storage : StorageId) → answer ≡ reply.Storage storage → ⊥)
    → answer ≡ reply_of core asked → (next_core core asked).storages ≡ core.storages
no_more core (op.Admit virt name) answer is other replied =
    by (admit_refusal core virt name) replied
  where
    by : (why : Option Refusal)
        → answer ≡ told why (reply.Storage (storage_id (length core.storages)))
        → (unless_refused why core (admitted virt name core)).storages ≡ core.storages
    by None same = absurd (other (storage_id (length core.storages)) same)
    by (Some why) same = refl
no_more core asked answer is other replied = absurd is
