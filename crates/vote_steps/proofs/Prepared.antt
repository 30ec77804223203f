-- Any cast in the prepared phase of a push, by the outcome before it and after it.
use Rattle.std.proofs.Common.{◌≡◌, ℕ, Option, None, Some, refl, sym, ◌∙◌, ap, inl, inr, slice_get}
use Rattle.px_base.specs.declared.hash.Hash.{Hash}
use Rattle.txmanager.specs.Registry.{with_transaction}
use Rattle.voters.specs.declared.act.Act.TheVariants as act
use Rattle.voters.specs.declared.outcome.Outcome.{Outcome}
use Rattle.voters.specs.declared.outcome.Outcome.TheVariants as outcome
use Rattle.voters.proofs.StepLemmas.{outcome_stays}
use Rattle.px_cluster.specs.Casts.{booked_by_outcomes}
use Rattle.px_cluster.specs.Core.{with_repository}
use Rattle.cluster_form.proofs.Lists.{bool}
use Rattle.cluster_history.specs.Goes.{GoesOn, IsSound}
use Rattle.cluster_history.specs.History.{Whole}
use Rattle.cluster_history.specs.Remembered.{by_outcomes}
use Rattle.cluster_history.specs.Seen.{decided_hash}
use Rattle.vote_steps.proofs.Deciding.{decides}
use Rattle.vote_steps.proofs.Joining.{joins, nobody_joins, other_joins}
use Rattle.vote_steps.proofs.PreparedCast.{PreparedCast, book, cast, now, told, unchanged, uncommitted}

-- another outcome than a commit
never : (is so : Outcome) → is ≡ so → ((g : Hash) → so ≡ outcome.Commit g → ⊥) → (g : Hash)
    → is ≡ outcome.Commit g → ⊥
never is so same not g commits = not g (sym same ∙ commits)

module _ (old : Whole) (sound : IsSound old) (c : PreparedCast old.cluster.core) where
  -- what such a cast leaves, and what is remembered of it
  abbrev Leads : Option ℕ → Outcome → Outcome → Type 0
  Leads storage before then_ = GoesOn old (record {
    cluster = record old.cluster {
      core = with_repository c.push.repo
          (booked_by_outcomes c.push (now old sound c) storage before then_ (book old sound c))
          (record old.cluster.core {
            transactions = with_transaction old.cluster.core.transactions c.push.tx
                (Some (now old sound c));
          });
    };
    history = by_outcomes old.history c.push (book old sound c).newest before then_;
  })

  -- the cast comes after the decision
  late : (g : Hash) → c.first.outcome ≡ outcome.Commit g → (storage : Option ℕ) (then_ : Outcome)
      → slice_get c.push.members c.voter ≡ storage → Leads storage (outcome.Commit g) then_
  late g was None then_ is = nobody_joins old sound c g was is
  late g was (Some v) then_ is = elim (bool (told old sound c v)) [
    | inl holds ↦ joins old sound c g was v is holds
    | inr fails ↦ other_joins old sound c g was v is fails
  ]

  -- neither before nor after it a hash is decided
  undecided : (before then_ : Outcome) → c.first.outcome ≡ before
      → (cast old sound c).outcome ≡ then_ → ((g : Hash) → before ≡ outcome.Commit g → ⊥)
      → ((g : Hash) → then_ ≡ outcome.Commit g → ⊥) → decided_hash then_ ≡ decided_hash before
      → GoesOn old (unchanged old sound c)
  undecided before then_ was is not_before not_then hashes = uncommitted old sound c
      (never (cast old sound c).outcome then_ is not_then)
      (never c.first.outcome before was not_before)
      (ap decided_hash is ∙ hashes ∙ sym (ap decided_hash was))

  -- an outcome that is fixed stays
  stays_at : (before : Outcome) → c.first.outcome ≡ before → (before ≡ outcome.Open → ⊥)
      → (cast old sound c).outcome ≡ before
  stays_at before was not_open =
      outcome_stays c.first (act.Cast c.voter c.hash) (λ open_. not_open (sym was ∙ open_)) ∙ was

  -- whatever was decided, and is
  pub prepared_goes : (storage : Option ℕ) (before then_ : Outcome)
      → slice_get c.push.members c.voter ≡ storage → c.first.outcome ≡ before
      → (cast old sound c).outcome ≡ then_ → Leads storage before then_
  prepared_goes storage outcome.Open (outcome.Commit g) is was commits =
      decides old sound c was g commits
  prepared_goes storage outcome.Open outcome.Open is was then_ =
      undecided outcome.Open outcome.Open was then_ (λ g z. cc) (λ g z. cc) refl
  prepared_goes storage outcome.Open outcome.Fail is was then_ =
      undecided outcome.Open outcome.Fail was then_ (λ g z. cc) (λ g z. cc) refl
  prepared_goes storage outcome.Open outcome.Stop is was then_ =
      undecided outcome.Open outcome.Stop was then_ (λ g z. cc) (λ g z. cc) refl
  prepared_goes storage (outcome.Commit g) then_ is was so = late g was storage then_ is
  prepared_goes storage outcome.Fail then_ is was so = undecided outcome.Fail outcome.Fail was
      (stays_at outcome.Fail was (λ z. cc)) (λ g z. cc) (λ g z. cc) refl
  prepared_goes storage outcome.Stop then_ is was so = undecided outcome.Stop outcome.Stop was
      (stays_at outcome.Stop was (λ z. cc)) (λ g z. cc) (λ g z. cc) refl
