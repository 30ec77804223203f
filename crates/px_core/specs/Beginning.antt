-- A push that is to begin.
use Rattle.std.specs.Prelude.{◌≡◌, ℕ, ◌+◌, List, [], ◌∷◌, IsSome, Option, None, Some}
use Rattle.px_base.specs.declared.ids.RepoId.{RepoId}
use Rattle.px_ops.specs.declared.push.Begun.{Begun}
use Rattle.px_ops.specs.declared.refusal.Refusal.{Refusal}
use Rattle.px_cluster.specs.Book.{Repository}
use Rattle.px_cluster.specs.Core.{Core, names_of, repository}
use Rattle.px_cluster.specs.Ids.{gen}
use Rattle.px_cluster.specs.Members.{members, panel_of, targets}
use Rattle.px_cluster.specs.Pushes.{begin_refusal, beginning, drawn_for_members, next_tx}
use Rattle.px_cluster.specs.Refusals.{first_cause, generations_spent, leases_spent, transactions_spent}
use Rattle.px_core.specs.declared.pushes.Beginning.{Beginning}

-- no lease is left, no generation, or no number of a transaction
abbrev pub spent : Repository → ℕ → Option Refusal
spent book last = first_cause (leases_spent book.last
    ∷ generations_spent book.newest ∷ transactions_spent last ∷ [])

-- what is told of a push that begins with these members and targets
abbrev pub IsTold : Core → Repository → List ℕ → List ℕ → Begun → Type 0
IsTold core book members_ targets_ begun = begun ≡ record {
  tx = next_tx core;
  lease = book.last + 1;
  generation = gen book.newest;
  members = names_of core members_;
  targets = names_of core targets_;
}

-- it is the push that begins by the rule, with what the book then has, its panel, and what is told
-- of it
pub record IsBeginning (core : Core) (repo : ℕ) (book : Repository) (plan : Beginning)
    : Type 0 where
  pub push : plan.push ≡ beginning core repo book
  pub entry : plan.entry ≡ drawn_for_members (beginning core repo book) book
  pub panel : plan.panel ≡ panel_of core (members core book)
  pub told : IsTold core book (members core book) (targets core book) plan.begun

-- the repository is on record, nothing refuses the push, and it is the one that begins
pub record IsPlanned (core : Core) (repo : ℕ) (plan : Beginning) : Type 0 where
  pub accepted : begin_refusal core repo (repository core repo) ≡ None
  pub book : Repository
  pub there : repository core repo ≡ Some book
  pub none : begin_refusal core repo (Some book) ≡ None
  pub is : IsBeginning core repo book plan

-- the push that begins next, where nothing refuses it
abbrev pub IsPlan : Core → RepoId → Option Beginning → Type 0
IsPlan core repo None = IsSome (begin_refusal core repo.0 (repository core repo.0))
IsPlan core repo (Some plan) = IsPlanned core repo.0 plan
