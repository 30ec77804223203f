-- The form of transactions and turns: numbers are given in order, a repository has one push at most, and
-- the transaction of a push is a vote of its members by the rule.
use Rattle.std.specs.Prelude.{◌≡◌, ◌<◌, ◌≤◌, ◌==◌, ℕ, false, List, [], ◌∷◌, length, Some}
use Rattle.std.specs.List.{AllByRecursion}
use Rattle.txmanager.specs.Chain.{IsChain}
use Rattle.txmanager.specs.Registry.{Registry, transaction_at}
use Rattle.txmanager.specs.Rounds.{TxAct, after_acts, opened}
use Rattle.txmanager.specs.Voting.{Voting}
use Rattle.voters.specs.Panel.{Roster, poll_of}
use Rattle.px_cluster.specs.Book.{Storage}
use Rattle.px_cluster.specs.Core.{Core, OpenPush, empty}
use Rattle.px_cluster.specs.Members.{panel_of}
use Rattle.px_cluster.specs.Numbers.{is_one_of}

-- ---- transactions

-- they stand in the order of their numbers
abbrev pub AreRising : Registry → Type 0
AreRising [] = Unit {0}
AreRising (entry ∷ entries) =
    AllByRecursion (λ later. entry.0 < later.0) entries × AreRising entries

-- and each number was given
pub record AreNumbered (last : ℕ) (transactions : Registry) : Type 0 where
  pub order : AreRising transactions
  pub given : AllByRecursion (λ entry. entry.0 ≤ last) transactions

-- ---- the vote of a push

-- the panel that members have by the rule, with the names of their storages
abbrev pub panel_for : List Storage → List ℕ → Roster
panel_for storages members = panel_of (record empty { storages = storages }) members

-- no number stands twice
abbrev pub AreDistinct : List ℕ → Type 0
AreDistinct [] = Unit {0}
AreDistinct (number ∷ numbers) = (is_one_of number numbers ≡ false) × AreDistinct numbers

-- The voters are the members in their order, with weights and threshold by the rule. There is one round,
-- which some acts led on from its opening: so its two subtransactions are a chain.
pub record IsVoteOf (storages : List Storage) (members : List ℕ) (vote : Voting) : Type 0 where
  pub voters : vote.voters ≡ (panel_for storages members).voters
  pub acts : List TxAct
  pub subs : vote.subs ≡ after_acts acts (opened (poll_of (panel_for storages members)) 2)
  pub chain : IsChain vote.subs
  pub phases : length vote.subs ≡ 2

-- ---- pushes

-- its transaction was given and is on record, and its members are storages, each once
pub record IsTurn (storages : List Storage) (transactions : Registry) (last : ℕ) (push : OpenPush)
    : Type 0 where
  pub given : push.tx.0 ≤ last
  pub vote : Voting
  pub registered : transaction_at transactions push.tx ≡ Some vote
  pub sound : IsVoteOf storages push.members vote
  pub some : (length push.members == 0) ≡ false
  pub distinct : AreDistinct push.members
  pub known : AllByRecursion (λ member. member < length storages) push.members

-- of two pushes the later has the greater transaction, and another repository
pub record IsBehind (first later : OpenPush) : Type 0 where
  pub tx : first.tx.0 < later.tx.0
  pub repo : (first.repo == later.repo) ≡ false

abbrev pub AreInOrder : List OpenPush → Type 0
AreInOrder [] = Unit {0}
AreInOrder (push ∷ pushes) = AllByRecursion (IsBehind push) pushes × AreInOrder pushes

pub record AreTurnsOf (storages : List Storage) (last : ℕ) (transactions : Registry)
    (pushes : List OpenPush) : Type 0 where
  pub numbers : AreNumbered last transactions
  pub order : AreInOrder pushes
  pub each : AllByRecursion (IsTurn storages transactions last) pushes

abbrev pub AreTurns : Core → Type 0
AreTurns core = AreTurnsOf core.storages core.last_tx core.transactions core.pushes
