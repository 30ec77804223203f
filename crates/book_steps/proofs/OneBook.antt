-- An event that changes the book of one repository, and beside it the queue, the ledger and the
-- history at that repository: each other one is seen as it was.
use Rattle.std.proofs.Common.{◌≡◌, ℕ, List, Bool, Option, Some, refl, ap, find, set}
use Rattle.std.specs.Option.{option_map}
use Rattle.px_ops.specs.declared.job.Job.{Job}
use Rattle.px_cluster.specs.Book.{Repository}
use Rattle.px_cluster.specs.Core.{repository}
use Rattle.px_cluster.specs.Jobs.{is_for}
use Rattle.px_cluster.specs.Ledger.{Ledger}
use Rattle.replica_invariant.specs.Invariant.{Invariant}
use Rattle.replica_invariant.specs.State.{Entry}
use Rattle.safe_states.proofs.Reached.{every_state_has_the_invariant}
use Rattle.safe_states.specs.Grows.{LeadsTo}
use Rattle.cluster_history.specs.Goes.{GoesOn, IsSound}
use Rattle.cluster_history.specs.History.{Whole}
use Rattle.cluster_history.specs.Seen.{seen_job, state_of}
use Rattle.cluster_history.proofs.Frame.{LooksSame}
use Rattle.cluster_history.proofs.OneRepository.{book_goes}

-- what is always so of a repository on record
pub has_invariant : (whole : Whole) → IsSound whole → (repo : ℕ) (book : Repository)
    → repository whole.cluster.core repo ≡ Some book → Invariant (state_of whole repo book)
has_invariant whole sound repo book known =
    every_state_has_the_invariant (state_of whole repo book) (sound.reached repo book known)

-- ---- what changes beside the book

pub record Beside : Type 0 where
  pub jobs : List Job
  pub ledger : Ledger
  pub entry : ℕ → ℕ → Entry
  pub floor : ℕ → ℕ → Option ℕ
  pub level : ℕ → ℕ → Option ℕ
  pub had : ℕ → ℕ → Bool

-- nothing of it
abbrev pub as_it_was : Whole → Beside
as_it_was whole = record {
  jobs = whole.cluster.core.jobs;
  ledger = whole.cluster.ledger;
  entry = whole.history.entry;
  floor = whole.history.floor;
  level = whole.history.level;
  had = whole.history.had;
}

-- the repository has another book, and all this is so
abbrev pub rebooked : Whole → ℕ → Repository → Beside → Whole
rebooked whole repo now beside = record {
  cluster = record whole.cluster {
    core = record whole.cluster.core {
      repositories = set whole.cluster.core.repositories repo now;
      jobs = beside.jobs;
    };
    ledger = beside.ledger;
  };
  history = record whole.history {
    entry = beside.entry;
    floor = beside.floor;
    level = beside.level;
    had = beside.had;
  };
}

-- it is as it was at each other repository
pub record LeavesOthers (whole : Whole) (repo : ℕ) (beside : Beside) : Type 0 where
  pub job : (other target : ℕ) → (other ≡ repo → ⊥)
      → find (is_for other target) beside.jobs ≡ find (is_for other target) whole.cluster.core.jobs
  pub ledger : (other : ℕ) → (other ≡ repo → ⊥) → beside.ledger other ≡ whole.cluster.ledger other
  pub entry : (other : ℕ) → (other ≡ repo → ⊥) → beside.entry other ≡ whole.history.entry other
  pub floor : (other : ℕ) → (other ≡ repo → ⊥) → beside.floor other ≡ whole.history.floor other
  pub level : (other : ℕ) → (other ≡ repo → ⊥) → beside.level other ≡ whole.history.level other
  pub had : (other : ℕ) → (other ≡ repo → ⊥) → beside.had other ≡ whole.history.had other

-- where nothing changes, it is
pub leaves_all : (whole : Whole) (repo : ℕ) → LeavesOthers whole repo (as_it_was whole)
leaves_all whole repo = record {
  job = λ other target differs. refl;
  ledger = λ other differs. refl;
  entry = λ other differs. refl;
  floor = λ other differs. refl;
  level = λ other differs. refl;
  had = λ other differs. refl;
}

-- ---- so it is enough to know where that leads the one repository

module _ (whole : Whole) (repo : ℕ) (book now : Repository) (beside : Beside)
    (known : repository whole.cluster.core repo ≡ Some book)
    (leaves : LeavesOthers whole repo beside) where
  abbrev new : Whole
  new = rebooked whole repo now beside

  looks : (other : ℕ) (b : Repository) → (other ≡ repo → ⊥)
      → repository whole.cluster.core other ≡ Some b → LooksSame whole new other b
  looks other b differs is = record {
    admitted = refl;
    node = λ storage. refl;
    ledger = leaves.ledger other differs;
    entry = leaves.entry other differs;
    text = refl;
    floor = leaves.floor other differs;
    level = leaves.level other differs;
    had = leaves.had other differs;
    read_at = refl;
    job = λ target. ap (option_map seen_job) (leaves.job other target differs);
    turn = refl;
  }

  pub rebooked_goes : LeadsTo (state_of whole repo book) (state_of new repo now) → GoesOn whole new
  rebooked_goes leads = book_goes whole new repo book now known refl looks leads
