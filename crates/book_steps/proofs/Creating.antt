-- A repository is created: it comes on record, or it is created again where no replica of it is on
-- record.
use Rattle.std.proofs.Common.{◌≡◌, ◌==◌, ◌+◌, ℕ, List, true, false, Option, None, Some, refl, sym, ◌∙◌, ap, subst, length, unwrap_or, arith}
use Rattle.px_ops.specs.declared.op.Op.TheVariants as op
use Rattle.px_ops.specs.declared.refusal.Refusal.TheVariants as refusal
use Rattle.px_cluster.specs.Book.{Repository, storages_of}
use Rattle.px_cluster.specs.Core.{Core, repository}
use Rattle.px_cluster.specs.Creating.{assigned_for, created_on, exists_as, found, is_at_path, is_blank, is_recorded, unmade, with_created}
use Rattle.px_cluster.specs.Ids.{repo_id}
use Rattle.px_cluster.specs.Issues.{with_drawn}
use Rattle.px_cluster.specs.Ledger.{Creation}
use Rattle.px_cluster.specs.Ops.{refusal_of}
use Rattle.px_cluster.specs.Refusals.{cause}
use Rattle.cluster_form.proofs.Induction.{first_none}
use Rattle.cluster_form.proofs.Lists.{both_left, bytes_same}
use Rattle.cluster_form.proofs.Places.{got_beyond, place_found}
use Rattle.cluster_form.proofs.TurnsKept.{first_holds, not_caused}
use Rattle.cluster_history.specs.Goes.{GoesOn, IsSound}
use Rattle.cluster_history.specs.History.{Whole}
use Rattle.cluster_history.specs.Remembered.{by_creation}
use Rattle.book_steps.specs.Books.{CreateGoesOn}
use Rattle.book_steps.proofs.CreatedAgain.{again_goes}
use Rattle.book_steps.proofs.CreatedFirst.{first_goes}
use Rattle.book_steps.proofs.Refusals.{holds}

module _ (whole : Whole) (virt path : List ℕ) (factor : ℕ) (sound : IsSound whole)
    (some : (length (storages_of whole.cluster.core.storages virt) == 0) ≡ false) where
  abbrev core : Core
  core = whole.cluster.core

  -- by the number that is found, and the repository of that number
  abbrev Left : Option ℕ → Option Repository → Type 0
  Left number there =
      let before = unwrap_or there (unmade core virt path) in
      GoesOn whole (record {
        cluster = record (with_drawn whole.cluster (unwrap_or number (length core.repositories))
            (assigned_for core virt factor) (before.last + 1) (Creation false)) {
              core = with_created number (created_on (assigned_for core virt factor) before) core;
            };
        history = by_creation whole.history (length core.repositories) number;
      })

  -- no replica of the repository is on record, as it may be created again
  blank : (repo : ℕ) (book : Repository) → repository core repo ≡ Some book
      → exists_as core (Some repo) ≡ None → is_blank book ≡ true
  blank repo book known none = holds (is_blank book) (refusal.Exists (repo_id repo))
      (subst (λ x. cause (is_recorded x) (refusal.Exists (repo_id repo)) ≡ None) known none)

  by_number : (number : Option ℕ) → found core virt path ≡ number → exists_as core number ≡ None
      → Left number (repository core (unwrap_or number (length core.repositories)))
  by_number None unknown none = subst (Left None) (sym (got_beyond core.repositories))
      (first_goes whole virt path factor sound unknown some)
  by_number (Some repo) is none =
      let place = place_found (is_at_path virt path) 0 core.repositories repo is in
      let same : place.offset ≡ repo = (let at = place.is in omega (arith, at)) in
      let known : repository core repo ≡ Some place.element =
      ap (repository core) (sym same) ∙ place.there in
      subst (Left (Some repo)) (sym known) (again_goes whole repo virt factor place.element sound
      known (bytes_same place.element.virt virt (both_left _ _ place.passes))
      (blank repo place.element known none) some)

pub a_creation_goes_on : CreateGoesOn
a_creation_goes_on virt path factor whole sound accepted =
    let core = whole.cluster.core in
    let none = first_none (refusal_of core (op.Create virt path factor)) _ accepted in
    let no_storage = length (storages_of core.storages virt) == 0 in
    let first = first_holds (cause no_storage (refusal.UnknownVirtual virt)) _ none in
    let second = first_holds (exists_as core (found core virt path)) _ first.1 in
    by_number whole virt path factor sound
    (not_caused no_storage (refusal.UnknownVirtual virt) first.0) (found core virt path) refl
    second.0
