-- What a vote makes of the core.
use Rattle.std.proofs.Common.{◌≡◌, ◌∙◌, ℕ, List, Bool, true, false, if◌then◌else◌, Option, None, Some, Result, Ok, Err, OnErr, refl, ap, subst}
use Rattle.std.specs.Option.{option_map}
use Rattle.px_base.specs.Hash.{same_hash}
use Rattle.px_base.specs.declared.hash.Hash.{Hash}
use Rattle.px_base.specs.declared.ids.TxId.{TxId}
use Rattle.px_base.specs.declared.phase.Phase.{Phase}
use Rattle.px_base.specs.declared.phase.Phase.TheVariants.{Prepared, Committed}
use Rattle.px_ops.specs.declared.op.Op.{Op}
use Rattle.px_ops.specs.declared.op.Op.TheVariants as op
use Rattle.px_ops.specs.declared.reply.Reply.TheVariants as reply
use Rattle.txmanager.specs.Registry.{Registry, answer_at, with_changed, with_transaction}
use Rattle.txmanager.specs.VoterCalls.{after_cast, cast_answer}
use Rattle.txmanager.specs.Voting.{Voting}
use Rattle.voters.specs.declared.outcome.Outcome.{Outcome}
use Rattle.voters.specs.declared.outcome.Outcome.TheVariants as outcome
use Rattle.voters.specs.declared.voter_result.VoterResult.{VoterResult}
use Rattle.txmanager.specs.declared.refusal.TxRefusal.{TxRefusal}
use Rattle.px_cluster.specs.Book.{Repository}
use Rattle.px_cluster.specs.Casts.{booked_by, booked_by_commit, booked_by_outcomes, came_late, confirmed_on, member_named}
use Rattle.px_cluster.specs.Core.{Core, OpenPush, push_of, repository, voting, with_repository}
use Rattle.px_cluster.specs.Ops.{answer_of, left_by, next_core, refusal_of, unless_refused}
use Rattle.px_cluster.specs.Pushes.{prepared_outcome}
use Rattle.px_cluster.specs.Refusals.{refusal_in}
use Rattle.genbook.specs.Books.{Books, IsNamedAs, core_of}
use Rattle.replqueue.specs.Queue.{Queued}
use Rattle.px_core.specs.Counting.{IsCounted}
use Rattle.px_core.specs.Parts.{core_with}
use Rattle.px_core.specs.Steps.{IsCause, Steps}
use Rattle.px_core.specs.declared.casts.Counting.{Counting}
use Rattle.px_core.specs.declared.fault.Fault.{Fault}
use Rattle.px_core.specs.declared.fault.Fault.TheVariants.{Memory, Refused}
use Rattle.px_core.proofs.Parts.{put_in}

-- ---- what is booked stays at its virtual storage and path

late_named : (push : OpenPush) (votes : Voting) (storage : Option ℕ) (book : Repository)
    → IsNamedAs book (came_late push votes storage book)
late_named push votes None book = (refl, refl)
late_named push votes (Some storage) book = (refl, refl)

outcomes_named : (push : OpenPush) (votes : Voting) (storage : Option ℕ) (was now : Outcome)
    (book : Repository) → IsNamedAs book (booked_by_outcomes push votes storage was now book)
outcomes_named push votes storage outcome.Open outcome.Open book = (refl, refl)
outcomes_named push votes storage outcome.Open (outcome.Commit hash) book = (refl, refl)
outcomes_named push votes storage outcome.Open outcome.Fail book = (refl, refl)
outcomes_named push votes storage outcome.Open outcome.Stop book = (refl, refl)
outcomes_named push votes storage (outcome.Commit hash) now book =
    late_named push votes storage book
outcomes_named push votes storage outcome.Fail now book = (refl, refl)
outcomes_named push votes storage outcome.Stop now book = (refl, refl)

confirmed_named : (push : OpenPush) (storage : Option ℕ) (book : Repository)
    → IsNamedAs book (confirmed_on push storage book)
confirmed_named push None book = (refl, refl)
confirmed_named push (Some storage) book = (refl, refl)

commit_named : (push : OpenPush) (storage : Option ℕ) (hash : Hash) (was : Outcome)
    (book : Repository) → IsNamedAs book (booked_by_commit push storage hash was book)
commit_named push storage hash (outcome.Commit decided) book =
    by (same_hash decided hash)
  where
    by : (same : Bool) → IsNamedAs book
        ((if same then confirmed_on push storage else (λ repo. repo)) book)
    by true = confirmed_named push storage book
    by false = (refl, refl)
commit_named push storage hash outcome.Open book = (refl, refl)
commit_named push storage hash outcome.Fail book = (refl, refl)
commit_named push storage hash outcome.Stop book = (refl, refl)

pub booked_named : (push : OpenPush) (name : List ℕ) (phase : Phase) (hash : Hash)
    (old new : Voting) (book : Repository)
    → IsNamedAs book (booked_by push name phase hash old new book)
booked_named push name Prepared hash old new book = outcomes_named push new
    (member_named push old name) (prepared_outcome old) (prepared_outcome new) book
booked_named push name Committed hash old new book =
    commit_named push (member_named push old name) hash (prepared_outcome old) book

-- ---- a vote on a push

module _ (core : Core) (tx : TxId) (name : List ℕ) (phase : Phase) (hash : Hash) where
  -- the transaction and the entry that are counted and booked are what the vote leaves
  pub push_leads : (push : OpenPush) (old : Voting) (book : Repository)
      → push_of core tx ≡ Some push → voting core tx ≡ Some old
      → repository core push.repo ≡ Some book
      → with_repository push.repo
      (booked_by push name phase hash old (after_cast name phase hash old) book)
      (record core {
        transactions =
            with_transaction core.transactions tx (Some (after_cast name phase hash old));
      })
      ≡ left_by core (op.Cast tx name phase hash)
  push_leads push old book of_tx voted there = rw voted (rw of_tx (rw there refl))

  -- ---- a vote on a transaction that is no push

  counted : (there : Option Voting) → voting core tx ≡ there
      → with_changed core.transactions tx (after_cast name phase hash)
      ≡ with_transaction core.transactions tx (option_map (after_cast name phase hash) there)
  counted there is = ap (λ (o : Option Voting).
      with_transaction core.transactions tx (option_map (after_cast name phase hash) o)) is

  pub alone_leads : (transactions : Registry) → push_of core tx ≡ None
      → transactions ≡ with_changed core.transactions tx (after_cast name phase hash)
      → record core { transactions = transactions } ≡ left_by core (op.Cast tx name phase hash)
  alone_leads transactions none state = by (voting core tx) refl
    where
      by : (there : Option Voting) → voting core tx ≡ there
          → record core { transactions = transactions } ≡ left_by core (op.Cast tx name phase hash)
      by None there = rw there (λ i. record core { transactions = (state ∙ counted None there) i })
      by (Some old) there = rw there (rw none
          (λ i. record core { transactions = (state ∙ counted (Some old) there) i }))

  pub alone_next : push_of core tx ≡ None → (result : Result (ℕ × VoterResult) TxRefusal)
      (transactions : Registry)
      → result ≡ answer_at (voting core tx) tx (cast_answer name phase hash)
      → transactions ≡ with_changed core.transactions tx (after_cast name phase hash)
      → OnErr result (transactions ≡ core.transactions)
      → record core { transactions = transactions } ≡ next_core core (op.Cast tx name phase hash)
  alone_next none result transactions is state same =
      subst (λ (r : Result (ℕ × VoterResult) TxRefusal). record core { transactions = transactions }
      ≡ unless_refused (refusal_in r) core (left_by core (op.Cast tx name phase hash))) is
      (by result same)
    where
      by : (r : Result (ℕ × VoterResult) TxRefusal) → OnErr r (transactions ≡ core.transactions)
          → record core { transactions = transactions }
          ≡ unless_refused (refusal_in r) core (left_by core (op.Cast tx name phase hash))
      by (Ok counted_) same_ = alone_leads transactions none state
      by (Err why) same_ = λ i. record core { transactions = same_ i }

-- ---- a vote that was counted in copies

module _ (books new : Books) (up : List Bool) (votes : Registry) (last : ℕ)
    (pushes : List OpenPush) (reads : List ℕ) (queue : Queued) (tx : TxId) (name : List ℕ)
    (phase : Phase) (hash : Hash)
    (push : OpenPush) (plan : Counting) where
  abbrev core : Core
  core = core_with books up votes last pushes reads queue

  module _ (of_tx : push_of core tx ≡ Some push) (same : push.tx ≡ tx)
      (is : IsCounted core push name phase hash plan) where
    voted : voting core tx ≡ Some is.votes
    voted = subst (λ (t : TxId). voting core t ≡ Some is.votes) same is.voted

    -- what takes its place is what the vote leaves
    pub counted_leads : (transactions : Registry) (repo : ℕ)
        → transactions ≡ with_transaction votes tx (Some plan.then) → repo ≡ push.repo
        → core_of new ≡ with_repository repo plan.entry (core_of books)
        → core_with new up transactions last pushes reads queue
        ≡ left_by core (op.Cast tx name phase hash)
    counted_leads transactions repo votes_are repo_is put =
        let counted_ : transactions
        ≡ with_transaction votes tx (Some (after_cast name phase hash is.votes)) =
        votes_are ∙ ap (λ (v : Voting). with_transaction votes tx (Some v)) is.then_ in
        let entry_is : plan.entry
        ≡ booked_by push name phase hash is.votes (after_cast name phase hash is.votes) is.book =
        is.entry ∙ ap (λ (v : Voting). booked_by push name phase hash is.votes v is.book)
        is.then_ in
        put_in books new up transactions last pushes reads queue repo plan.entry put
        ∙ (λ i. with_repository (repo_is i) (entry_is i)
        (core_with books up (counted_ i) last pushes reads queue))
        ∙ push_leads core tx name phase hash push is.votes is.book of_tx voted is.there

    -- .. and it is answered so
    pub counted_accepted : refusal_of core (op.Cast tx name phase hash) ≡ None
    counted_accepted = rw voted (rw is.answer refl)

    pub counted_answer : reply.Counted plan.sub plan.result
        ≡ answer_of core (op.Cast tx name phase hash)
    counted_answer = rw voted (rw is.answer refl)

-- a fault that has its cause, and changes nothing
pub fault_steps : (old : Core) (asked : Op) (fault : Fault) → IsCause (refusal_of old asked) fault
    → Steps old asked (Err fault) old
fault_steps old asked (Refused why) is = (is, refl)
fault_steps old asked Memory is = refl
