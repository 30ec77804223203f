-- Transactions and turns keep their form where one is opened, changed, closed or marked.
use Rattle.std.proofs.Common.{◌≡◌, ◌<◌, ◌+◌, ◌==◌, ℕ, not, List, [], ◌∷◌, ◌++◌, Bool, true, false, if◌then◌else◌, Option, None, Some, Result, Ok, Err, refl, sym, ◌∙◌, ap, subst, inl, inr, map, filter, length, arith}
use Rattle.std.specs.BTreeMap.{is_at}
use Rattle.std.specs.List.{AllByRecursion}
use Rattle.std.specs.Option.{option_map}
use Rattle.std.specs.Ordering.{nat_cmp}
use Rattle.px_base.specs.declared.hash.Hash.{Hash}
use Rattle.px_base.specs.declared.ids.TxId.{TxId}
use Rattle.px_base.specs.declared.phase.Phase.{Phase}
use Rattle.txmanager.proofs.CarryLemmas.{act_step, after_acts-append}
use Rattle.txmanager.proofs.ChainLemmas.{KeepEach}
use Rattle.txmanager.proofs.RegistryLemmas.{other_closed, other_registered, other_with}
use Rattle.txmanager.specs.Readings.{outcome_in}
use Rattle.txmanager.specs.Registry.{Registry, transaction_at, with_registered, with_transaction, without_transaction}
use Rattle.txmanager.specs.Rounds.{TxAct, CancelVoter, Cast, Stop, after_act}
use Rattle.txmanager.specs.VoterCalls.{after_cancel_voter, after_cast, cancel_voter_answer, cast_answer}
use Rattle.txmanager.specs.Voting.{Voting, after_stop, number_of, stop_answer, unless_err, with_act, with_act_by}
use Rattle.txmanager.specs.declared.refusal.TxRefusal.{TxRefusal}
use Rattle.voters.specs.Votes.{Votes}
use Rattle.voters.specs.declared.outcome.Outcome.{Outcome}
use Rattle.voters.specs.declared.outcome.Outcome.TheVariants as outcome
use Rattle.px_cluster.specs.Book.{Storage}
use Rattle.px_cluster.specs.Core.{OpenPush}
use Rattle.px_cluster.specs.Pushes.{is_open, outcome_or_open, prepared_outcome}
use Rattle.cluster_form.specs.Turns.{AreDistinct, AreInOrder, AreTurnsOf, IsBehind, IsTurn, IsVoteOf}
use Rattle.cluster_form.proofs.JobLists.{all_two}
use Rattle.cluster_form.proofs.Lists.{all_both, all_filter, all_map, all_such, bool, choose, if_kept, same_number, some_is}
use Rattle.cluster_form.proofs.Registries.{apart_tx, found_set, numbered_more, numbered_removed, numbered_set, same_tx}

order_filtered : (test : OpenPush → Bool) (pushes : List OpenPush) → AreInOrder pushes
    → AreInOrder (filter test pushes)
order_filtered test [] order = tt
order_filtered test (push ∷ pushes) order = choose AreInOrder (test push)
    (push ∷ filter test pushes) (filter test pushes)
    (λ holds. (all_filter (IsBehind push) test pushes order.0, order_filtered test pushes order.1))
    (λ fails. order_filtered test pushes order.1)

-- ---- acts on a vote

length_kept : (old new : List Votes) → KeepEach old new → length new ≡ length old
length_kept [] [] keeps = refl
length_kept [] (sub ∷ new) keeps = absurd keeps
length_kept (sub ∷ old) [] keeps = absurd keeps
length_kept (sub ∷ old) (next ∷ new) keeps =
    let rest = length_kept old new keeps.1 in omega (arith, rest)

-- where it is open after an act, it was open before
open_before : (was now : Outcome) → ((was ≡ outcome.Open → ⊥) → now ≡ was) → is_open now ≡ true
    → is_open was ≡ true
open_before outcome.Open now keeps is = refl
open_before (outcome.Commit hash) now keeps is =
    subst (λ o. is_open o ≡ true) (keeps (λ same. cc)) is
open_before outcome.Fail now keeps is = subst (λ o. is_open o ≡ true) (keeps (λ same. cc)) is
open_before outcome.Stop now keeps is = subst (λ o. is_open o ≡ true) (keeps (λ same. cc)) is

prepared_before : (old new : List Votes) → KeepEach old new
    → is_open (outcome_or_open (outcome_in 0 new)) ≡ true
    → is_open (outcome_or_open (outcome_in 0 old)) ≡ true
prepared_before [] [] keeps is = refl
prepared_before [] (sub ∷ new) keeps is = absurd keeps
prepared_before (sub ∷ old) [] keeps is = absurd keeps
prepared_before (sub ∷ old) (next ∷ new) keeps is =
    open_before sub.outcome next.outcome keeps.0.outcome is

-- it stays a vote of the push, and its first phase is open only where that was open before
pub record StaysVote (storages : List Storage) (members_ : List ℕ) (old new : Voting) : Type 0 where
  pub sound : IsVoteOf storages members_ new
  pub before : is_open (prepared_outcome new) ≡ true → is_open (prepared_outcome old) ≡ true

abbrev pub LeadsOn : Voting → Voting → Type 0
LeadsOn old new = (storages : List Storage) (members_ : List ℕ) → IsVoteOf storages members_ old
    → StaysVote storages members_ old new

pub led_on : (old : Voting) (act : TxAct) → LeadsOn old (with_act old act)
led_on old act storages members_ is =
    let step = act_step act old.subs is.chain in
    record {
      sound = record {
        voters = is.voters;
        acts = is.acts ++ act ∷ [];
        subs = ap (λ subs. after_act subs act) is.subs
            ∙ sym (after_acts-append is.acts (act ∷ []) _);
        chain = step.chain;
        phases = length_kept old.subs (after_act old.subs act) step.keeps ∙ is.phases;
      };
      before = prepared_before old.subs (after_act old.subs act) step.keeps;
    }

stays_so : (old : Voting) → LeadsOn old old
stays_so old storages members_ is = record { sound = is; before = λ still. still }

by_voter : (old : Voting) (voter : Option ℕ) (act : ℕ → TxAct)
    → LeadsOn old (with_act_by old voter act)
by_voter old None act = stays_so old
by_voter old (Some voter) act = led_on old (act voter)

unless_refused : {A : Type 0} (answer : Result A TxRefusal) (old new : Voting) → LeadsOn old new
    → LeadsOn old (unless_err answer old new)
unless_refused (Ok value) old new leads = leads
unless_refused (Err why) old new leads = stays_so old

pub by_cast : (name : List ℕ) (phase : Phase) (hash : Hash) (old : Voting)
    → LeadsOn old (after_cast name phase hash old)
by_cast name phase hash old = unless_refused (cast_answer name phase hash old) old _
    (by_voter old (number_of name old) (λ voter. Cast voter hash))

pub by_withdrawal : (name : List ℕ) (old : Voting) → LeadsOn old (after_cancel_voter name old)
by_withdrawal name old = unless_refused (cancel_voter_answer name old) old _
    (by_voter old (number_of name old) CancelVoter)

pub by_stop : (old : Voting) → LeadsOn old (after_stop old)
by_stop old = unless_refused (stop_answer old) old (with_act old Stop) (led_on old Stop)

-- ---- one transaction changed

module _ (storages : List Storage) (last : ℕ) (transactions : Registry) (tx : TxId) where
  turn_set : (old new : Voting) → transaction_at transactions tx ≡ Some old → LeadsOn old new
      → (push : OpenPush) → IsTurn storages transactions last push
      → IsTurn storages (with_transaction transactions tx (Some new)) last push
  turn_set old new there leads push turn = elim (bool (push.tx.0 == tx.0)) [
    | inl holds ↦ (let same = same_tx push.tx tx (same_number push.tx.0 tx.0 holds) in
        let vote : turn.vote ≡ old =
        some_is turn.vote old (sym turn.registered ∙ ap (transaction_at transactions) same ∙ there)
        in record {
          given = turn.given;
          vote = new;
          registered = ap (transaction_at (with_transaction transactions tx (Some new))) same
              ∙ found_set tx.0 transactions old new there;
          sound = (leads storages push.members
              (subst (λ v. IsVoteOf storages push.members v) vote turn.sound)).sound;
          some = turn.some;
          distinct = turn.distinct;
          known = turn.known;
        })
    | inr fails ↦ record {
      given = turn.given;
      vote = turn.vote;
      registered = other_with transactions tx push.tx (Some new) (apart_tx push.tx tx fails)
          ∙ turn.registered;
      sound = turn.sound;
      some = turn.some;
      distinct = turn.distinct;
      known = turn.known;
    }
  ]

  pub turns_set : (pushes : List OpenPush) (old new : Voting)
      → transaction_at transactions tx ≡ Some old → LeadsOn old new
      → AreTurnsOf storages last transactions pushes
      → AreTurnsOf storages last (with_transaction transactions tx (Some new)) pushes
  turns_set pushes old new there leads turns = record {
    numbers = numbered_set last (is_at (nat_cmp tx.0)) transactions new turns.numbers;
    order = turns.order;
    each = all_such (IsTurn storages transactions last) _ pushes (turn_set old new there leads)
        turns.each;
  }

  pub turns_changed : (pushes : List OpenPush) (becomes : Voting → Voting)
      → ((old : Voting) → LeadsOn old (becomes old)) → (there : Option Voting)
      → transaction_at transactions tx ≡ there → AreTurnsOf storages last transactions pushes
      → AreTurnsOf storages last (with_transaction transactions tx (option_map becomes there)) pushes
  turns_changed pushes becomes leads None is turns = turns
  turns_changed pushes becomes leads (Some old) is turns =
      turns_set pushes old (becomes old) is (leads old) turns

-- ---- one transaction closed

module _ (storages : List Storage) (last : ℕ) (transactions : Registry) (tx : TxId) where
  turn_left : (push : OpenPush) → (push.tx.0 == tx.0) ≡ false
      → IsTurn storages transactions last push
      → IsTurn storages (without_transaction transactions tx) last push
  turn_left push other turn = record {
    given = turn.given;
    vote = turn.vote;
    registered =
        other_closed transactions tx push.tx (apart_tx push.tx tx other) ∙ turn.registered;
    sound = turn.sound;
    some = turn.some;
    distinct = turn.distinct;
    known = turn.known;
  }

  all_left : (pushes : List OpenPush) → AllByRecursion (IsTurn storages transactions last) pushes
      → AllByRecursion (IsTurn storages (without_transaction transactions tx) last)
      (filter (λ (push : OpenPush). not (push.tx.0 == tx.0)) pushes)
  all_left [] all = tt
  all_left (push ∷ pushes) all = elim (bool (push.tx.0 == tx.0)) [
    | inl holds ↦ (rw holds (all_left pushes all.1))
    | inr fails ↦ (rw fails (turn_left push fails all.0, all_left pushes all.1))
  ]

  pub turns_closed : (pushes : List OpenPush) → AreTurnsOf storages last transactions pushes
      → AreTurnsOf storages last (without_transaction transactions tx)
      (filter (λ (push : OpenPush). not (push.tx.0 == tx.0)) pushes)
  turns_closed pushes turns = record {
    numbers = numbered_removed last (is_at (nat_cmp tx.0)) transactions turns.numbers;
    order = order_filtered (λ (push : OpenPush). not (push.tx.0 == tx.0)) pushes turns.order;
    each = all_left pushes turns.each;
  }

-- ---- marks of a cancel and a stop

pub record KeepsPush (change : OpenPush → OpenPush) : Type 0 where
  pub tx : (push : OpenPush) → (change push).tx ≡ push.tx
  pub repo : (push : OpenPush) → (change push).repo ≡ push.repo
  pub members_ : (push : OpenPush) → (change push).members ≡ push.members

module _ (change : OpenPush → OpenPush) (keeps : KeepsPush change) where
  order_changed : (pushes : List OpenPush) → AreInOrder pushes → AreInOrder (map change pushes)
  order_changed [] order = tt
  order_changed (push ∷ pushes) order = (
    all_map (IsBehind push) (IsBehind (change push)) change pushes (λ later behind. record {
      tx = (let one = ap (λ (t : TxId). t.0) (keeps.tx push) in
          let other = ap (λ (t : TxId). t.0) (keeps.tx later) in
          let above = behind.tx in omega (arith, one, other, above));
      repo = (λ i. keeps.repo push i == keeps.repo later i) ∙ behind.repo;
    }) order.0,
    order_changed pushes order.1,
  )

  turn_changed : (storages : List Storage) (transactions : Registry) (last : ℕ) (push : OpenPush)
      → IsTurn storages transactions last push → IsTurn storages transactions last (change push)
  turn_changed storages transactions last push turn = record {
    given = (let same = ap (λ (t : TxId). t.0) (keeps.tx push) in
        let given = turn.given in omega (arith, same, given));
    vote = turn.vote;
    registered = ap (transaction_at transactions) (keeps.tx push) ∙ turn.registered;
    sound = subst (λ ms. IsVoteOf storages ms turn.vote) (sym (keeps.members_ push)) turn.sound;
    some = ap (λ (ms : List ℕ). length ms == 0) (keeps.members_ push) ∙ turn.some;
    distinct = subst AreDistinct (sym (keeps.members_ push)) turn.distinct;
    known = subst (AllByRecursion (λ member. member < length storages)) (sym (keeps.members_ push))
        turn.known;
  }

  pub turns_marked : (storages : List Storage) (last : ℕ) (transactions : Registry)
      (pushes : List OpenPush) → AreTurnsOf storages last transactions pushes
      → AreTurnsOf storages last transactions (map change pushes)
  turns_marked storages last transactions pushes turns = record {
    numbers = turns.numbers;
    order = order_changed pushes turns.order;
    each = all_map (IsTurn storages transactions last) (IsTurn storages transactions last) change
        pushes (turn_changed storages transactions last) turns.each;
  }

pub keeps_marked : (tx : TxId) (change : OpenPush → OpenPush) → KeepsPush change
    → KeepsPush (λ push. if push.tx.0 == tx.0 then change push else push)
keeps_marked tx change keeps = record {
  tx = λ push. if_kept (λ (x : OpenPush). x.tx) (push.tx.0 == tx.0) (change push) push
      (keeps.tx push);
  repo = λ push. if_kept (λ (x : OpenPush). x.repo) (push.tx.0 == tx.0) (change push) push
      (keeps.repo push);
  members_ = λ push. if_kept (λ (x : OpenPush). x.members) (push.tx.0 == tx.0) (change push) push
      (keeps.members_ push);
}

-- ---- a transaction more

module _ (storages : List Storage) (last : ℕ) (transactions : Registry) (pushes : List OpenPush)
    (turns : AreTurnsOf storages last transactions pushes) (tx : TxId) (next : tx.0 ≡ last + 1)
    (vote : Voting) where
  abbrev more : Registry
  more = with_registered transactions tx vote

  turn_later : (push : OpenPush) → IsTurn storages transactions last push
      → IsTurn storages more (last + 1) push
  turn_later push turn =
      let given = turn.given in
      record {
        given = omega (arith, given);
        vote = turn.vote;
        registered = other_registered transactions tx push.tx vote
            (λ same. let number = ap (λ (t : TxId). t.0) same in omega (arith, number, given, next))
            ∙ turn.registered;
        sound = turn.sound;
        some = turn.some;
        distinct = turn.distinct;
        known = turn.known;
      }

  all_later : AllByRecursion (IsTurn storages more (last + 1)) pushes
  all_later = all_such (IsTurn storages transactions last) (IsTurn storages more (last + 1)) pushes
      turn_later turns.each

  pub turns_opened : AreTurnsOf storages (last + 1) more pushes
  turns_opened = record {
    numbers = numbered_more last transactions turns.numbers tx next vote;
    order = turns.order;
    each = all_later;
  }

  -- .. of a push, whose repository had none
  pub turns_begun : (push : OpenPush) → push.tx ≡ tx
      → AllByRecursion (λ (old : OpenPush). (old.repo == push.repo) ≡ false) pushes
      → IsTurn storages more (last + 1) push
      → AreTurnsOf storages (last + 1) more (pushes ++ push ∷ [])
  turns_begun push same others turn = record {
    numbers = numbered_more last transactions turns.numbers tx next vote;
    order = order_more pushes turns.order (all_two (IsTurn storages transactions last)
        (λ (old : OpenPush). (old.repo == push.repo) ≡ false) (λ old. IsBehind old push) pushes
        (λ old was other. record {
          tx = (let given = was.given in
              let number = ap (λ (t : TxId). t.0) same in omega (arith, given, number, next));
          repo = other;
        }) turns.each others);
    each = all_both _ pushes (push ∷ []) all_later (turn, tt);
  }
    where
      order_more : (olds : List OpenPush) → AreInOrder olds
          → AllByRecursion (λ old. IsBehind old push) olds → AreInOrder (olds ++ push ∷ [])
      order_more [] order all = (tt, tt)
      order_more (old ∷ olds) order all =
          (all_both (IsBehind old) olds (push ∷ []) order.0 (all.0, tt), order_more olds order.1 all.1)
