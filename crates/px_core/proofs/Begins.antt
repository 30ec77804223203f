-- What a push that begins makes of the core.
use Rattle.std.proofs.Common.{◌≡◌, ◌∙◌, ◌<◌, ◌+◌, ◌==◌, ◌++◌, ℕ, zero, suc, not, List, [], ◌∷◌, Bool, false, Option, None, Some, IfSome, refl, sym, subst, ap, inl, inr, filter, find, length, set, slice_get, arith}
use Rattle.std.specs.List.{AllByRecursion}
use Rattle.px_base.specs.declared.ids.StorageId.{StorageId}
use Rattle.px_base.specs.declared.ids.TxId.{TxId}
use Rattle.px_ops.specs.declared.op.Op.TheVariants as op
use Rattle.px_ops.specs.declared.push.Begun.{Begun}
use Rattle.px_ops.specs.declared.refusal.Refusal.{Refusal}
use Rattle.px_ops.specs.declared.refusal.Refusal.TheVariants as refusal
use Rattle.px_ops.specs.declared.reply.Reply.TheVariants as reply
use Rattle.txmanager.specs.Registry.{Registry, with_registered}
use Rattle.txmanager.specs.Voting.{voting_on}
use Rattle.voters.specs.Panel.{Roster}
use Rattle.px_cluster.specs.Book.{Repository, Storage}
use Rattle.px_cluster.specs.Core.{Core, OpenPush, names_of, repository, turn_of, with_repository}
use Rattle.px_cluster.specs.Ids.{gen, repo_id}
use Rattle.px_cluster.specs.Members.{members, panel_of, targets}
use Rattle.px_cluster.specs.Ops.{answer_of, next_core, reply_of}
use Rattle.px_cluster.specs.Pushes.{begin_refusal, beginning, drawn_for_members, next_tx, read_only, with_begun}
use Rattle.cluster_form.specs.Turns.{IsTurn}
use Rattle.cluster_form.proofs.Lists.{all_such, bool, other_number, same_number}
use Rattle.genbook.specs.Books.{Books, core_of}
use Rattle.genbook.specs.Changes.{numbers_of}
use Rattle.genbook.specs.Rules.{DrawsForMembers}
use Rattle.replqueue.specs.Queue.{Queued}
use Rattle.px_core.specs.Beginning.{IsBeginning, IsPlanned, IsTold, spent}
use Rattle.px_core.specs.Parts.{core_with}
use Rattle.px_core.specs.declared.pushes.Beginning.{Beginning}

-- ---- the core with the push

module _ (books new : Books) (up : List Bool) (votes : Registry) (last : ℕ)
    (pushes : List OpenPush) (reads : List ℕ) (queue : Queued) (repo : ℕ)
    (book : Repository) where
  abbrev core : Core
  core = core_with books up votes last pushes reads queue

  abbrev begins : OpenPush
  begins = beginning core repo book

  pub begun_is : (entry : Repository) (panel : Roster) (tx : TxId) (push : OpenPush)
      (registered : Registry) (open_ : List OpenPush)
      → core_of new ≡ with_repository repo entry (core_of books)
      → entry ≡ drawn_for_members begins book
      → registered ≡ with_registered votes tx (voting_on panel 1)
      → panel ≡ panel_of core begins.members → tx ≡ begins.tx
      → open_ ≡ pushes ++ push ∷ [] → push ≡ begins
      → core_with new up registered tx.0 open_ reads queue ≡ with_begun begins book core
  begun_is entry panel tx push registered open_ put entry_is votes_are panel_is tx_is pushes_are
      push_is =
      let storages : new.storages ≡ books.storages = ap (λ (c : Core). c.storages) put in
      let repositories : new.repositories
      ≡ set books.repositories repo (drawn_for_members begins book) =
      ap (λ (c : Core). c.repositories) put
      ∙ ap (λ (e : Repository). set books.repositories repo e) entry_is in
      let transactions : registered
      ≡ with_registered votes begins.tx (voting_on (panel_of core begins.members) 1) =
      votes_are ∙ ap (λ (t : TxId). with_registered votes t (voting_on panel 1)) tx_is
      ∙ ap (λ (p : Roster). with_registered votes begins.tx (voting_on p 1)) panel_is in
      let opened : open_ ≡ pushes ++ begins ∷ [] =
      pushes_are ∙ ap (λ (p : OpenPush). pushes ++ p ∷ []) push_is in
      λ i. record core {
        storages = storages i;
        repositories = repositories i;
        last_tx = (tx_is i).0;
        transactions = transactions i;
        pushes = opened i;
      }

-- .. is what the operation leaves
pub begin_leads : (core : Core) (repo : ℕ) (book : Repository)
    → repository core repo ≡ Some book → begin_refusal core repo (Some book) ≡ None
    → with_begun (beginning core repo book) book core ≡ next_core core (op.Begin (repo_id repo))
begin_leads core repo book there none = rw there (rw none refl)

-- ---- a push that does not begin after all

-- it ends, and all pushes are as before
pub ended_again : (tx : TxId) (push : OpenPush) (pushes : List OpenPush)
    → AllByRecursion (λ (other : OpenPush). other.tx.0 < tx.0) pushes → push.tx ≡ tx
    → filter (λ (other : OpenPush). not (other.tx.0 == tx.0)) (pushes ++ push ∷ []) ≡ pushes
ended_again tx push [] later same = elim (bool (push.tx.0 == tx.0)) [
  | inl holds ↦ (rw holds refl)
  | inr fails ↦ absurd (other_number push.tx.0 tx.0 fails (ap (λ (t : TxId). t.0) same))
]
ended_again tx push (first ∷ pushes) later same = elim (bool (first.tx.0 == tx.0)) [
  | inl holds ↦ absurd (let is = same_number first.tx.0 tx.0 holds in
      let below = later.0 in omega (arith, is, below))
  | inr fails ↦ (rw fails (ap (λ (ps : List OpenPush). first ∷ ps)
      (ended_again tx push pushes later.1 same)))
]

-- ---- the causes of a refusal, in their order

pub read_only_refuses : (core : Core) (repo : ℕ) (book : Repository) (why : Refusal)
    → repository core repo ≡ Some book → turn_of core repo ≡ None
    → read_only core book ≡ Some why
    → begin_refusal core repo (repository core repo) ≡ Some why
read_only_refuses core repo book why there free is = rw there (rw free (rw is refl))

pub spent_refuses : (core : Core) (repo : ℕ) (book : Repository) (why : Refusal)
    → repository core repo ≡ Some book → turn_of core repo ≡ None → read_only core book ≡ None
    → spent book core.last_tx ≡ Some why
    → begin_refusal core repo (repository core repo) ≡ Some why
spent_refuses core repo book why there free writable is =
    rw there (rw free (rw writable is))

-- ---- a push that was worked out

pub planned : (core : Core) (repo : ℕ) (plan : Beginning)
    → begin_refusal core repo (repository core repo) ≡ None
    → IfSome (repository core repo) (λ book. IsBeginning core repo book plan)
    → IsPlanned core repo plan
planned core repo plan none is = by (repository core repo) refl none is
  where
    by : (there : Option Repository) → repository core repo ≡ there
        → begin_refusal core repo there ≡ None
        → IfSome there (λ book. IsBeginning core repo book plan) → IsPlanned core repo plan
    by None there none_ is_ = absurd (let z : Some refusal.UnknownRepo ≡ None = none_ in cc)
    by (Some book) there none_ is_ =
        record { accepted = none; book = book; there = there; none = none_; is = is_ }

-- the repository is that of the push
pub planned_own : (core : Core) (repo : ℕ) (plan : Beginning) → IsPlanned core repo plan
    → IsPlanned core plan.push.repo plan
planned_own core repo plan is = subst (λ (n : ℕ). IsPlanned core n plan)
    (sym (ap (λ (push : OpenPush). push.repo) is.is.push)) is

-- its repository has a number that is on the book
pub within : (repositories : List Repository) (repo : ℕ) (book : Repository)
    → slice_get repositories repo ≡ Some book → repo < length repositories
within [] repo book there = absurd (let none : None ≡ Some book = there in cc)
within (r ∷ rs) zero book there = omega arith
within (r ∷ rs) (suc repo) book there =
    let rest = within rs repo book there in omega (arith, rest)

-- its transaction is later than all others
pub others_before : (storages : List Storage) (transactions : Registry) (last : ℕ) (tx : TxId)
    (pushes : List OpenPush) → tx.0 ≡ last + 1
    → AllByRecursion (IsTurn storages transactions last) pushes
    → AllByRecursion (λ (other : OpenPush). other.tx.0 < tx.0) pushes
others_before storages transactions last tx pushes is all =
    all_such (IsTurn storages transactions last) (λ (other : OpenPush). other.tx.0 < tx.0) pushes
    (λ push turn. let given = turn.given in omega (arith, given, is)) all

-- what is answered
pub begin_answer : (core : Core) (repo : ℕ) (book : Repository) (begun : Begun)
    → repository core repo ≡ Some book
    → IsTold core book (members core book) (targets core book) begun
    → reply.Begun begun ≡ answer_of core (op.Begin (repo_id repo))
begin_answer core repo book begun there told = rw there (ap reply.Begun told)

pub begin_replies : (core : Core) (repo : ℕ) (book : Repository) (begun : Begun)
    → repository core repo ≡ Some book → begin_refusal core repo (Some book) ≡ None
    → IsTold core book (members core book) (targets core book) begun
    → reply.Begun begun ≡ reply_of core (op.Begin (repo_id repo))
begin_replies core repo book begun there none told = rw there (rw none (ap reply.Begun told))

-- the push is found by its transaction, which is later than all others
pub begun_found : (push : OpenPush) (pushes : List OpenPush)
    → AllByRecursion (λ (other : OpenPush). other.tx.0 < push.tx.0) pushes
    → find (λ (other : OpenPush). other.tx.0 == push.tx.0) (pushes ++ push ∷ []) ≡ Some push
begun_found push [] later = elim (bool (push.tx.0 == push.tx.0)) [
  | inl holds ↦ (rw holds refl)
  | inr fails ↦ absurd (other_number push.tx.0 push.tx.0 fails refl)
]
begun_found push (first ∷ pushes) later = elim (bool (first.tx.0 == push.tx.0)) [
  | inl holds ↦ absurd (let is = same_number first.tx.0 push.tx.0 holds in
      let below = later.0 in omega (arith, is, below))
  | inr fails ↦ (rw fails (begun_found push pushes later.1))
]

-- what was worked out along the members and the targets of the rule is the push that begins
pub is_beginning : (core : Core) (repo : ℕ) (book : Repository) (storages others : List StorageId)
    (begun : Begun) (panel : Roster) (entry : Repository) (push : OpenPush)
    → numbers_of storages ≡ members core book → numbers_of others ≡ targets core book
    → IsTold core book (numbers_of storages) (numbers_of others) begun
    → panel ≡ panel_of core (numbers_of storages) → DrawsForMembers storages book entry
    → push ≡ record {
      tx = begun.tx;
      repo = repo;
      lease = begun.lease;
      begun = book.newest;
      members = numbers_of storages;
      canceled = false;
      stopped = false;
    } → IsBeginning core repo book
    (record { entry = entry; push = push; panel = panel; begun = begun })
is_beginning core repo book storages others begun panel entry push are others_are told panel_is
    draws push_is =
    let tx_is : begun.tx ≡ next_tx core = ap (λ (b : Begun). b.tx) told in
    let lease_is : begun.lease ≡ book.last + 1 = ap (λ (b : Begun). b.lease) told in
    record {
      push = push_is ∙ (λ i. record {
        tx = tx_is i;
        repo = repo;
        lease = lease_is i;
        begun = book.newest;
        members = are i;
        canceled = false;
        stopped = false;
      });
      entry = draws (beginning core repo book) refl (sym are);
      panel = panel_is ∙ ap (panel_of core) are;
      told = told ∙ (λ i. record {
        tx = next_tx core;
        lease = book.last + 1;
        generation = gen book.newest;
        members = names_of core (are i);
        targets = names_of core (others_are i);
      });
    }
