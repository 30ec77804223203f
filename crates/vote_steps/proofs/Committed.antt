-- Any cast in the committed phase of a push, by the outcome of the prepared one.
use Rattle.std.proofs.Common.{◌≡◌, ℕ, true, Option, None, Some, inl, inr, refl, slice_get}
use Rattle.px_base.specs.Hash.{same_hash}
use Rattle.px_base.specs.declared.hash.Hash.{Hash}
use Rattle.txmanager.specs.Registry.{with_transaction}
use Rattle.voters.specs.declared.outcome.Outcome.{Outcome}
use Rattle.voters.specs.declared.outcome.Outcome.TheVariants as outcome
use Rattle.px_cluster.specs.Casts.{booked_by_commit}
use Rattle.px_cluster.specs.Core.{with_repository}
use Rattle.px_cluster.specs.Ledger.{is_committed}
use Rattle.cluster_form.proofs.Lists.{bool}
use Rattle.cluster_history.specs.Goes.{GoesOn, IsSound}
use Rattle.cluster_history.specs.History.{Whole}
use Rattle.cluster_history.specs.Remembered.{by_commit_vote}
use Rattle.vote_steps.proofs.CommittedCast.{CommittedCast, book, nobody_votes, now, other_hash}
use Rattle.vote_steps.proofs.Confirming.{confirms}
use Rattle.vote_steps.proofs.Results.{commit_is}

module _ (old : Whole) (sound : IsSound old) (c : CommittedCast old.cluster.core) where
  -- what such a cast leaves, and what is remembered of it
  abbrev Leads : Option ℕ → Outcome → Type 0
  Leads storage before = GoesOn old (record {
    cluster = record old.cluster {
      core = with_repository c.push.repo
          (booked_by_commit c.push storage c.hash before (book old sound c))
          (record old.cluster.core {
            transactions = with_transaction old.cluster.core.transactions c.push.tx
                (Some (now old sound c));
          });
    };
    history = by_commit_vote old.history c.push (book old sound c) storage c.hash before;
  })

  -- the node of the voter's storage has answered
  abbrev Answers : Option ℕ → Type 0
  Answers storage = (v : ℕ) → storage ≡ Some v
      → is_committed (old.cluster.ledger c.push.repo v c.push.lease) ≡ true

  -- for the decided hash, or for another one
  by_hash : (g : Hash) → c.first.outcome ≡ outcome.Commit g → (storage : Option ℕ)
      → slice_get c.push.members c.voter ≡ storage → Answers storage
      → Leads storage (outcome.Commit g)
  by_hash g was None is answers = elim (bool (same_hash g c.hash)) [
    | inl holds ↦ (rw holds (nobody_votes old sound c is))
    | inr fails ↦ (rw fails (nobody_votes old sound c is))
  ]
  by_hash g was (Some v) is answers = elim (bool (same_hash g c.hash)) [
    | inl holds ↦ (rw holds (confirms old sound c v is g was (answers v refl)))
    | inr fails ↦ (rw fails (other_hash old sound c v is))
  ]

  -- who is told has the decided hash
  never_told : {P : Type 0} (before : Outcome) → c.first.outcome ≡ before
      → ((g : Hash) → before ≡ outcome.Commit g → ⊥) → P
  never_told before was never =
      let commits = commit_is c.voter c.first before was c.told in
      absurd (never commits.0 commits.1)

  -- whatever was decided
  pub committed_goes : (storage : Option ℕ) (before : Outcome) → c.first.outcome ≡ before
      → slice_get c.push.members c.voter ≡ storage → Answers storage → Leads storage before
  committed_goes storage (outcome.Commit g) was is answers = by_hash g was storage is answers
  committed_goes storage outcome.Open was is answers = never_told outcome.Open was (λ g z. cc)
  committed_goes storage outcome.Fail was is answers = never_told outcome.Fail was (λ g z. cc)
  committed_goes storage outcome.Stop was is answers = never_told outcome.Stop was (λ g z. cc)
