-- Each transaction on record is what acts made of its opening, and acts lead it on.
use Rattle.std.proofs.Common.{◌≡◌, ◌≤◌, ◌+◌, ◌==◌, ℕ, List, [], ◌∷◌, ◌++◌, Option, None, Some, refl, sym, ◌∙◌, ap, subst, inl, inr, arith}
use Rattle.px_base.specs.declared.ids.TxId.{TxId}
use Rattle.txmanager.proofs.CarryLemmas.{after_acts-append}
use Rattle.txmanager.proofs.RegistryLemmas.{other_closed, other_registered, other_with}
use Rattle.txmanager.specs.Registry.{Registry, transaction_at, with_registered, with_transaction, without_transaction}
use Rattle.txmanager.specs.Rounds.{after_acts}
use Rattle.txmanager.specs.Voting.{Voting}
use Rattle.px_cluster.specs.Astray.{Move, MovesOn}
use Rattle.px_cluster.specs.Cluster.{Cluster}
use Rattle.px_cluster.specs.Core.{Core, voting}
use Rattle.px_cluster.specs.Ops.{refusal_of}
use Rattle.cluster_form.specs.Always.{IsKept}
use Rattle.cluster_form.specs.Books.{AreBooks}
use Rattle.cluster_form.proofs.BooksKept.{books_again, books_left, no_books}
use Rattle.cluster_form.proofs.Induction.{always, first_none}
use Rattle.cluster_form.specs.Form.{HasForm}
use Rattle.cluster_form.specs.Turns.{AreTurns}
use Rattle.cluster_form.proofs.FormKept.{form_always}
use Rattle.cluster_form.proofs.Lists.{bool, same_number}
use Rattle.cluster_form.proofs.Registries.{apart_tx, found_registered, found_set, none_left, same_tx}
use Rattle.cluster_form.proofs.TurnsKept.{no_turns, turns_again, turns_left}
use Rattle.cluster_form.proofs.Uses.{uses_kept}
use Rattle.vote_runs.specs.Acts.{IsLedOn, IsOfPoll, TransactionsAreOfPolls, TransactionsGoOnByActs, WasOnRecord}
use Rattle.vote_runs.proofs.Registers.{IsOfRegistry, and_on, itself, registry_left}

-- ---- over lists of moves

-- what each move keeps, any list of moves keeps
pub kept_on : (P : Cluster → Type 0) → IsKept P → (moves : List Move) (old new : Cluster)
    → MovesOn old moves new → P old → P new
kept_on P kept [] old new is holds = subst P (sym is) holds
kept_on P kept (move ∷ moves) old new is holds =
    kept_on P kept moves is.0 new is.2 (kept old is.0 move holds is.1)

-- one list of moves after the other
pub moves_both : (moves more : List Move) (old then_ new : Cluster) → MovesOn old moves then_
    → MovesOn then_ more new → MovesOn old (moves ++ more) new
moves_both [] more old then_ new first second = subst (λ c. MovesOn c more new) first second
moves_both (move ∷ moves) more old then_ new first second =
    (first.0, first.1, moves_both moves more first.0 then_ new first.2 second)

-- ---- what is true by the transactions, beside the form of books and turns

module _ (R : ℕ → Registry → Type 0) (is : IsOfRegistry R) where
  abbrev pub WithForm : Cluster → Type 0
  WithForm cluster = AreBooks cluster.core × AreTurns cluster.core
      × R cluster.core.last_tx cluster.core.transactions

  pub registry_kept : IsKept WithForm
  registry_kept = uses_kept WithForm
      (λ old new core uses pushed worked holds.
      subst (λ (c : Core). AreBooks c × AreTurns c × R c.last_tx c.transactions) (sym core) holds)
      (λ old asked none holds.
      let none_ = first_none (refusal_of old.core asked) _ none in (
        books_left old.core asked none_ holds.0,
        turns_left old.core asked none_ holds.0.dense holds.1,
        registry_left R is old.core asked none_ holds.0.dense holds.1.numbers holds.2,
      ))
      (λ old holds. (
        books_again old.core holds.0,
        turns_again old.core holds.1,
        is.none old.core.last_tx old.core.transactions holds.2,
      ))

-- ---- what is true of one transaction

-- what is true by the last number, and by what is found of one transaction
pub record IsOfOne (tx : TxId) (Q : ℕ → Option Voting → Type 0) : Type 0 where
  pub opened : (last : ℕ) (found : Option Voting) (vote : Voting) → tx.0 ≡ last + 1
      → IsOfPoll vote → Q last found → Q (last + 1) (Some vote)
  pub later : (last : ℕ) (found : Option Voting) → Q last found → Q (last + 1) found
  pub led : (last : ℕ) (old new : Voting) → IsLedOn old new → Q last (Some old)
      → Q last (Some new)
  pub gone : (last : ℕ) (found : Option Voting) → Q last found → Q last None

module _ (tx : TxId) (Q : ℕ → Option Voting → Type 0) (is : IsOfOne tx Q) where
  abbrev pub OfFound : ℕ → Registry → Type 0
  OfFound last transactions = Q last (transaction_at transactions tx)

  pub one_found : IsOfRegistry OfFound
  one_found = record {
    opened = λ last transactions other vote numbers next poll holds.
        elim (bool (tx.0 == other.0)) [
          | inl here ↦ (let same = same_tx tx other (same_number tx.0 other.0 here) in
              subst (Q (last + 1)) (sym (ap (transaction_at (with_registered transactions other vote))
              same ∙ found_registered last transactions numbers other next vote))
              (is.opened last (transaction_at transactions tx) vote
              (ap (λ (t : TxId). t.0) same ∙ next) poll holds))
          | inr fails ↦ subst (Q (last + 1))
              (sym (other_registered transactions other tx vote (apart_tx tx other fails)))
              (is.later last (transaction_at transactions tx) holds)
        ];
    led = λ last transactions other old new there led holds. elim (bool (tx.0 == other.0)) [
      | inl here ↦ (let same = same_tx tx other (same_number tx.0 other.0 here) in
          subst (Q last) (sym (ap (transaction_at (with_transaction transactions other (Some new)))
          same ∙ found_set other.0 transactions old new there))
          (is.led last old new led
          (subst (Q last) (ap (transaction_at transactions) same ∙ there) holds)))
      | inr fails ↦ subst (Q last)
          (sym (other_with transactions other tx (Some new) (apart_tx tx other fails))) holds
    ];
    closed = λ last transactions other numbers holds. elim (bool (tx.0 == other.0)) [
      | inl here ↦ (let same = same_tx tx other (same_number tx.0 other.0 here) in
          subst (Q last) (sym (ap (transaction_at (without_transaction transactions other)) same
          ∙ none_left other.0 transactions numbers.order))
          (is.gone last (transaction_at transactions tx) holds))
      | inr fails ↦ subst (Q last)
          (sym (other_closed transactions other tx (apart_tx tx other fails))) holds
    ];
    none = λ last transactions holds. is.gone last (transaction_at transactions tx) holds;
  }

-- ---- it is what acts made of an opening

abbrev OfPoll : ℕ → Option Voting → Type 0
OfPoll last None = Unit {0}
OfPoll last (Some vote) = IsOfPoll vote

-- .. and so it is after more acts
led_poll : (old new : Voting) → IsLedOn old new → IsOfPoll old → IsOfPoll new
led_poll old new led is = record {
  poll = is.poll;
  lawful = is.lawful;
  count = is.count;
  acts = is.acts ++ led.acts;
  subs = led.subs ∙ ap (after_acts led.acts) is.subs
      ∙ sym (after_acts-append is.acts led.acts _);
}

-- each change keeps that
poll_kept : (tx : TxId) → IsOfOne tx OfPoll
poll_kept tx = record {
  opened = λ last found vote next poll holds. poll;
  later = λ last found. same last found;
  led = λ last old new led holds. led_poll old new led holds;
  gone = λ last found holds. tt;
}
  where
    same : (last : ℕ) (found : Option Voting) → OfPoll last found → OfPoll (last + 1) found
    same last None holds = tt
    same last (Some vote) holds = holds

-- so each transaction of each run is
pub transactions_are_of_polls : TransactionsAreOfPolls
transactions_are_of_polls node moves new tx now is there =
    subst (OfPoll new.core.last_tx) there
    (always (WithForm (OfFound tx OfPoll (poll_kept tx)) (one_found tx OfPoll (poll_kept tx)))
    (registry_kept (OfFound tx OfPoll (poll_kept tx)) (one_found tx OfPoll (poll_kept tx)))
    (λ start. (no_books, no_turns, tt)) node moves new is).2

-- ---- acts lead it on

-- it is no more on record, or acts led it on from what it was
abbrev IsLedFrom : Option Voting → Option Voting → Type 0
IsLedFrom was None = Unit {0}
IsLedFrom None (Some now) = ⊥
IsLedFrom (Some before) (Some now) = IsLedOn before now

module _ (tx : TxId) (was : Option Voting) where
  -- its number was given
  abbrev GoesOn : ℕ → Option Voting → Type 0
  GoesOn last found = (tx.0 ≤ last) × IsLedFrom was found

  -- from where it was, by more acts
  led_more : (from : Option Voting) (old new : Voting) → IsLedOn old new
      → IsLedFrom from (Some old) → IsLedFrom from (Some new)
  led_more None old new led is = absurd is
  led_more (Some before) old new led is = and_on before old new is led

  goes_kept : IsOfOne tx GoesOn
  goes_kept = record {
    opened = λ last found vote next poll holds.
        let given = holds.0 in absurd (omega (arith, given, next));
    later = λ last found holds. (let given = holds.0 in omega (arith, given), holds.1);
    led = λ last old new led holds. (holds.0, led_more was old new led holds.1);
    gone = λ last found holds. (holds.0, tt);
  }

-- each is led on from itself
led_itself : (found : Option Voting) → IsLedFrom found found
led_itself None = tt
led_itself (Some vote) = itself vote

-- what is led on was on record
was_on_record : (old : Cluster) (tx : TxId) (was : Option Voting) (now : Voting)
    → voting old.core tx ≡ was → IsLedFrom was (Some now) → WasOnRecord old tx now
was_on_record old tx None now there is = absurd is
was_on_record old tx (Some before) now there is =
    record { before = before; there = there; led = is }

-- over any list of moves
pub goes_on_by_acts : (moves : List Move) (old new : Cluster) (tx : TxId) (now : Voting)
    → HasForm old → MovesOn old moves new → tx.0 ≤ old.core.last_tx
    → voting new.core tx ≡ Some now → WasOnRecord old tx now
goes_on_by_acts moves old new tx now form is given there =
    let was = voting old.core tx in
    let Q = GoesOn tx was in
    was_on_record old tx was now refl (subst (IsLedFrom was) there
    (kept_on (WithForm (OfFound tx Q (goes_kept tx was)) (one_found tx Q (goes_kept tx was)))
    (registry_kept (OfFound tx Q (goes_kept tx was)) (one_found tx Q (goes_kept tx was)))
    moves old new is (form.core.books, form.core.turns, (given, led_itself was))).2.1)

-- .. of a run
pub transactions_go_on_by_acts : TransactionsGoOnByActs
transactions_go_on_by_acts node moves more old new tx now before is given there =
    goes_on_by_acts more old new tx now (form_always node moves old before) is given there
