-- The storages that a factor assigns are known, and what their assignment makes of the core.
use Rattle.std.proofs.Common.{◌≡◌, ◌∙◌, ℕ, List, Bool, Option, None, Some, refl, sym, ap, arith}
use Rattle.px_base.specs.declared.ids.RepoId.{RepoId}
use Rattle.px_base.specs.declared.ids.StorageId.{StorageId}
use Rattle.px_ops.specs.declared.op.Op.TheVariants as op
use Rattle.px_ops.specs.declared.refusal.Refusal.{Refusal}
use Rattle.px_ops.specs.declared.reply.Reply.TheVariants as reply
use Rattle.txmanager.specs.Registry.{Registry}
use Rattle.px_cluster.specs.Book.{Repository}
use Rattle.px_cluster.specs.Core.{Core, OpenPush, names_of, repository, turn_of, with_book_changed}
use Rattle.px_cluster.specs.Factor.{assignment, factor_refusal, is_chosen}
use Rattle.px_cluster.specs.Ops.{about}
use Rattle.genbook.specs.Books.{Becomes, Books, core_of}
use Rattle.genbook.specs.Changes.{assigned_to, numbers_of}
use Rattle.replqueue.specs.Queue.{Queued}
use Rattle.router.specs.Factors.{AreByNumber, bad_factor}
use Rattle.router.specs.Routes.{AreFew}
use Rattle.router.proofs.Choosing.{book_reassigned, dense_by_number}
use Rattle.px_core.specs.Assigning.{IsAssignment}
use Rattle.px_core.specs.Known.{AreKnown}
use Rattle.px_core.specs.Parts.{core_with}
use Rattle.px_core.specs.Sound.{IsSound}
use Rattle.px_core.specs.Steps.{IsDone}
use Rattle.px_core.proofs.Parts.{changed_in}
use Rattle.px_core.proofs.Planning.{dense, replicas_few, where_known}

-- ---- a repository that is on record

module _ (core : Core) (sound : IsSound core) (repo : ℕ) (book : Repository)
    (there : repository core repo ≡ Some book) where
  pub few : AreFew book
  few = let within = replicas_few core sound repo book there in omega (arith, within)

  -- its replicas stand by number
  pub by_number : AreByNumber book
  by_number = dense_by_number core.storages book (dense core sound repo book there)

  -- the storages that a factor assigns are known
  pub assigned_known : (factor : ℕ) (storages : List StorageId)
      → numbers_of storages ≡ assignment core book factor → AreKnown core.storages storages
  assigned_known factor storages are =
      where_known core sound repo book there (is_chosen core book factor) storages are

-- where nobody has its turn, a factor is refused by what is wrong with it
pub bad_refuses : (core : Core) (repo factor : ℕ) (book : Repository) (why : Option Refusal)
    → repository core repo ≡ Some book → turn_of core repo ≡ None → bad_factor book factor ≡ why
    → factor_refusal core repo (repository core repo) factor ≡ why
bad_refuses core repo factor book None there free fits = rw there (rw free (rw fits refl))
bad_refuses core repo factor book (Some why) there free bad = rw there (rw free (rw bad refl))

-- ---- a factor that is set

module _ (old new : Books) (up : List Bool) (votes : Registry) (last : ℕ)
    (pushes : List OpenPush) (reads : List ℕ) (queue : Queued) where
  abbrev before : Core
  before = core_with old up votes last pushes reads queue

  pub set_factor_done : (repo : RepoId) (factor : ℕ) (storages : List ℕ) (names : List (List ℕ))
      → IsSound before → IsAssignment before repo.0 factor storages
      → names ≡ names_of (core_of old) storages → Becomes repo.0 (assigned_to storages) old new
      → IsDone before (op.SetFactor repo factor) (reply.Assigned names)
      (core_with new up votes last pushes reads queue)
  set_factor_done repo factor storages names sound is named becomes = record {
    accepted = is.accepted;
    answers = ap (λ (ns : List (List ℕ)). reply.Assigned ns)
        (named ∙ ap (names_of before) is.by_rule)
        ∙ ap (λ (there : Option Repository). about there
        (λ book. reply.Assigned (names_of before (assignment before book factor)))) (sym is.there);
    leads = changed_in old new up votes last pushes reads queue repo.0 (assigned_to storages)
        becomes
        ∙ ap (λ (ns : List ℕ). with_book_changed repo.0 (assigned_to ns) before) is.by_rule
        ∙ book_reassigned before is.book factor
        (by_number before sound repo.0 is.book is.there) before repo.0 is.there;
  }
