-- What an acceptance, a settling, and a lease that is drawn for either make of the core.
use Rattle.std.proofs.Common.{◌≡◌, ◌∙◌, ℕ, List, [], ◌∷◌, Bool, if◌then◌else◌, Option, None, Some, refl, sym, ap, inl, inr, find, map}
use Rattle.px_base.specs.declared.ids.RepoId.{RepoId}
use Rattle.px_base.specs.declared.ids.StorageId.{StorageId}
use Rattle.px_ops.specs.declared.op.Op.{Op}
use Rattle.px_ops.specs.declared.op.Op.TheVariants as op
use Rattle.px_ops.specs.declared.refusal.Refusal.{Refusal}
use Rattle.px_ops.specs.declared.refusal.Refusal.TheVariants as refusal
use Rattle.px_ops.specs.declared.reply.Reply.TheVariants as reply
use Rattle.txmanager.specs.Registry.{Registry}
use Rattle.px_cluster.specs.Book.{Replica, Repository, booking_in, booking_on, is_on, with_replica_on}
use Rattle.px_cluster.specs.Core.{Core, OpenPush, repository, with_book_changed, with_repository_by}
use Rattle.px_cluster.specs.Jobs.{without_running}
use Rattle.px_cluster.specs.Ops.{about, left_by, next_core, refusal_of, reply_of, unless_refused}
use Rattle.px_cluster.specs.Repairs.{settle_refusal, settled, settled_as}
use Rattle.cluster_form.proofs.Lists.{bool}
use Rattle.genbook.specs.Books.{Becomes, Books, core_of, on_book}
use Rattle.replqueue.specs.Queue.{Queued, core_of as jobs_of}
use Rattle.px_core.specs.Parts.{core_with}
use Rattle.px_core.specs.Repairs.{booking_at}
use Rattle.px_core.proofs.BookChanges.{got_set}
use Rattle.px_core.proofs.Parts.{changed_in}
use Rattle.px_core.proofs.Queues.{queue_in}

-- what is booked of a replica that is settled
settled_booking : (last : Option ℕ) (storage : ℕ) (replicas : List Replica)
    → booking_in (find (is_on storage)
    (map (λ (r : Replica). if is_on storage r then settled last r else r) replicas))
    ≡ settled_as last (booking_in (find (is_on storage) replicas))
settled_booking last storage [] = refl
settled_booking last storage (r ∷ rs) = elim (bool (is_on storage r)) [
  | inl holds ↦ (rw holds (rw holds refl))
  | inr fails ↦ (rw fails (rw fails (settled_booking last storage rs)))
]

module _ (old new : Books) (up : List Bool) (votes : Registry) (last : ℕ) (pushes : List OpenPush)
    (reads : List ℕ) (queue made : Queued) (repo : RepoId) (storage : StorageId) where
  abbrev before : Core
  before = core_with old up votes last pushes reads queue

  abbrev after_ : Core
  after_ = core_with new up votes last pushes reads made

  -- the running job goes, and the repository changes
  abbrev changed : (Repository → Repository) → Core
  changed change = with_book_changed repo.0 change (without_running repo.0 storage.0 before)

  -- that is what an operation leaves that nothing refuses
  pub repair_leads : (asked : Op) (change : Repository → Repository)
      → jobs_of made ≡ without_running repo.0 storage.0 (jobs_of queue)
      → Becomes repo.0 change old new → refusal_of before asked ≡ None
      → changed change ≡ left_by before asked → after_ ≡ next_core before asked
  repair_leads asked change gone becomes none left =
      changed_in old new up votes last pushes reads made repo.0 change becomes
      ∙ ap (with_book_changed repo.0 change) (queue_in old up votes last pushes reads queue made
      (without_running repo.0 storage.0 (jobs_of queue)).jobs queue.last gone)
      ∙ left ∙ sym (ap (λ (why : Option Refusal).
      unless_refused why before (left_by before asked)) none)

  -- what is booked then of a replica that is settled is what is answered
  pub settled_reply : (lease : ℕ) (answered : Option ℕ)
      → refusal_of before (op.Settle repo storage lease answered) ≡ None
      → Becomes repo.0 (with_replica_on storage.0 (settled answered)) old new
      → reply.BookedIs (booking_at (on_book new repo.0) storage.0)
      ≡ reply_of before (op.Settle repo storage lease answered)
  settled_reply lease answered none becomes =
      ap (λ (c : Core). reply.BookedIs (booking_at (repository c repo.0) storage.0)) becomes
      ∙ by (repository before repo.0) refl none
      ∙ rw none refl
    where
      by : (there : Option Repository) → repository before repo.0 ≡ there
          → settle_refusal before there storage.0 lease ≡ None
          → reply.BookedIs (booking_at (repository (with_repository_by there repo.0
          (with_replica_on storage.0 (settled answered)) (core_of old)) repo.0) storage.0)
          ≡ about there (λ book. reply.BookedIs (settled_as answered (booking_on book storage.0)))
      by None there is = absurd (let z : Some refusal.UnknownRepo ≡ None = is in cc)
      by (Some book) there is = ap (λ (o : Option Repository). reply.BookedIs
          (booking_at o storage.0)) (got_set old.repositories repo.0 book
          (with_replica_on storage.0 (settled answered) book) there)
          ∙ ap reply.BookedIs (settled_booking answered storage.0 book.replicas)
