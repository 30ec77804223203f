-- Each move keeps the form of the core and leaves a generation for each push that is not decided.
use Rattle.std.proofs.Common.{◌≡◌, ◌<◌, ◌-◌, ◌^◌, ◌==◌, ℕ, not, nat_lt, List, [], ◌∷◌, true, Option, None, Some, refl, sym, ◌∙◌, ap, subst, find, arith}
use Rattle.std.specs.List.{AllByRecursion}
use Rattle.std.specs.Option.{option_map}
use Rattle.std.proofs.lemmas.Bool.Decides.{nat_tests}
use Rattle.px_base.specs.declared.hash.Hash.{Hash}
use Rattle.px_base.specs.declared.ids.TxId.{TxId}
use Rattle.px_base.specs.declared.phase.Phase.{Phase}
use Rattle.px_ops.specs.declared.op.Op.{Op}
use Rattle.px_ops.specs.declared.op.Op.TheVariants as op
use Rattle.px_ops.specs.declared.refusal.Refusal.{Refusal}
use Rattle.txmanager.specs.Registry.{with_transaction}
use Rattle.txmanager.specs.VoterCalls.{after_cast}
use Rattle.txmanager.specs.Voting.{Voting}
use Rattle.px_cluster.specs.Book.{Repository}
use Rattle.px_cluster.specs.Casts.{booked_by, cast_on, with_cast_booked}
use Rattle.px_cluster.specs.Core.{Core, OpenPush, empty, push_of, repository, turn_of, voting, with_repository, with_repository_by}
use Rattle.px_cluster.specs.Ids.{repo_id}
use Rattle.px_cluster.specs.Jobs.{without_running}
use Rattle.px_cluster.specs.Ops.{left_by, refusal_of, unless_refused}
use Rattle.px_cluster.specs.Pushes.{begin_refusal, beginning, begun_at, drawn_for_members, is_open, prepared_outcome, read_only, turn_taken}
use Rattle.px_cluster.specs.Refusals.{generations_spent, leases_spent}
use Rattle.px_cluster.specs.Creating.{unknown_storage}
use Rattle.px_cluster.specs.Repairs.{accept_refusal, accepted}
use Rattle.cluster_form.specs.Always.{HoldsAlways, IsKept, IsKeptByOps, IsKeptByRestarts, OfCore}
use Rattle.cluster_form.specs.Form.{IsFormed}
use Rattle.cluster_form.specs.Left.{AreLeft, IsFormedAndLeft, IsLeft}
use Rattle.cluster_form.specs.Turns.{AreInOrder, IsBehind, IsTurn}
use Rattle.cluster_form.specs.Within.{IsPushWithin}
use Rattle.cluster_form.proofs.FormKept.{formed_again, formed_at_first, formed_left}
use Rattle.cluster_form.proofs.Induction.{always, first_none}
use Rattle.cluster_form.proofs.JobLists.{all_two}
use Rattle.cluster_form.proofs.LeftBooks.{RaisesNone, Stays, change_so, newest_left, newest_of, open_cast}
use Rattle.cluster_form.proofs.LeftVotes.{WasOpen, set_so, votes_left}
use Rattle.cluster_form.proofs.Lists.{all_find, same_number, same_self, some_is}
use Rattle.cluster_form.proofs.PushLists.{pushes_left}
use Rattle.cluster_form.proofs.Registries.{found_set, same_tx}
use Rattle.cluster_form.proofs.TurnLists.{by_cast}
use Rattle.cluster_form.proofs.TurnsKept.{first_holds, no_turn, not_caused}
use Rattle.cluster_form.proofs.Uses.{uses_kept}
use Rattle.cluster_form.proofs.WithinLists.{got_set}

-- ---- an open push

-- each has the turn of its repository
all_have_turns : (pushes : List OpenPush) → AreInOrder pushes
    → AllByRecursion (λ (push : OpenPush).
    find (λ (other : OpenPush). other.repo == push.repo) pushes ≡ Some push) pushes
all_have_turns [] order = tt
all_have_turns (push ∷ pushes) order = (
  rw (same_self push.repo) refl,
  all_two (IsBehind push) (λ (later : OpenPush).
      find (λ (other : OpenPush). other.repo == later.repo) pushes ≡ Some later)
      (λ (later : OpenPush).
      find (λ (other : OpenPush). other.repo == later.repo) (push ∷ pushes) ≡ Some later) pushes
      (λ later behind is. rw behind.repo is) order.0 (all_have_turns pushes order.1),
)

record IsOpenPush (core : Core) (push : OpenPush) : Type 0 where
  turn : IsTurn core.storages core.transactions core.last_tx push
  within : IsPushWithin core.repositories push
  has_turn : turn_of core push.repo ≡ Some push

all_open : (core : Core) → IsFormed core → AllByRecursion (IsOpenPush core) core.pushes
all_open core form = all_two (λ push. IsTurn core.storages core.transactions core.last_tx push
    × IsPushWithin core.repositories push) (λ push. turn_of core push.repo ≡ Some push)
    (IsOpenPush core) core.pushes
    (λ push are has. record { turn = are.0; within = are.1; has_turn = has })
    (all_two (IsTurn core.storages core.transactions core.last_tx) (IsPushWithin core.repositories)
    _ core.pushes (λ push turn within. (turn, within)) form.turns.each form.within.pushes)
    (all_have_turns core.pushes form.turns.order)

-- a generation is still left for it where its first phase was open before if it is now, and newest
-- is the same then
still_left : (old new : Core) (push : OpenPush) → IsPushWithin old.repositories push
    → WasOpen old.transactions new.transactions push.tx
    → ((now : Voting) → voting new push.tx ≡ Some now → is_open (prepared_outcome now) ≡ true
    → Stays old.repositories new.repositories push.repo)
    → IsLeft old push → IsLeft new push
still_left old new push within votes books left book vote there later open_ =
    let was = votes vote later open_ in
    let same : Some book.newest ≡ Some within.book.newest =
    sym (ap (option_map newest_of) there) ∙ books vote later open_ within.book within.there in
    subst (λ n. n < 2 ^ 64 - 1) (sym (some_is book.newest within.book.newest same))
    (left within.book was.0 within.there was.1 was.2)

-- ---- a cast

module _ (core : Core) (form : IsFormed core) (tx : TxId) (name : List ℕ) (phase : Phase)
    (hash : Hash) (push : OpenPush) (is : IsOpenPush core push) (left : IsLeft core push) where
  module _ (old : Voting) (there : voting core tx ≡ Some old) where
    abbrev new : Voting
    new = after_cast name phase hash old

    abbrev counted : Core
    counted = record core { transactions = with_transaction core.transactions tx (Some new) }

    was_open : WasOpen core.transactions counted.transactions push.tx
    was_open = set_so core form.turns push is.turn tx old new there (by_cast name phase hash old)

    module _ (cast_ : OpenPush) (of_tx : push_of core tx ≡ Some cast_) where
      the_push : IsOpenPush core cast_ × ((cast_.tx.0 == tx.0) ≡ true)
      the_push = all_find (IsOpenPush core) (λ (p : OpenPush). p.tx.0 == tx.0) core.pushes cast_
          (all_open core form) of_tx

      -- the open push of that repository is the one of the cast
      is_new : push.repo ≡ cast_.repo → (now : Voting) → voting counted push.tx ≡ Some now
          → is_open (prepared_outcome now) ≡ true → is_open (prepared_outcome new) ≡ true
      is_new here now later open_ =
          let same : push ≡ cast_ = some_is push cast_ (sym is.has_turn ∙ ap (turn_of core) here
          ∙ the_push.0.has_turn) in
          let tx_is : push.tx ≡ tx = ap (λ (p : OpenPush). p.tx) same
          ∙ same_tx cast_.tx tx (same_number cast_.tx.0 tx.0 the_push.1) in
          subst (λ v. is_open (prepared_outcome v) ≡ true) (some_is now new (sym later
          ∙ ap (voting counted) tx_is ∙ found_set tx.0 core.transactions old new there)) open_

      booked : (book : Option Repository) → repository core cast_.repo ≡ book
          → IsLeft (with_repository_by book cast_.repo (booked_by cast_ name phase hash old new)
          counted) push
      booked None none = still_left core counted push is.within was_open
          (λ now later open_ book found. ap (option_map newest_of) found) left
      booked (Some book) found = still_left core
          (with_repository cast_.repo (booked_by cast_ name phase hash old new book) counted) push
          is.within was_open (λ now later open_. change_so core.repositories cast_.repo book _ push.repo found
          (λ here. open_cast cast_ name phase hash old new book (is_new here now later open_)))
          left

    of_push : (cast_ : Option OpenPush) → push_of core tx ≡ cast_
        → IsLeft (with_cast_booked cast_ name phase hash old new counted) push
    of_push None none = still_left core counted push is.within was_open
        (λ now later open_ book found. ap (option_map newest_of) found) left
    of_push (Some cast_) of_tx = booked cast_ of_tx (repository core cast_.repo) refl

  cast : (vote : Option Voting) → voting core tx ≡ vote
      → IsLeft (cast_on tx name phase hash vote core) push
  cast None there = left
  cast (Some old) there = of_push old there (push_of core tx) refl

-- ---- an acceptance, which is refused while a push has the turn

module _ (core : Core) (repo storage lease : ℕ) (push : OpenPush) (is : IsOpenPush core push)
    (left : IsLeft core push) where
  free : (there : Option Repository) → accept_refusal core repo there storage lease ≡ None
      → turn_of core repo ≡ None
  free None none = absurd (cc)
  free (Some book) none = no_turn (turn_of core repo) (first_holds (turn_taken (turn_of core repo))
      _ (first_holds (unknown_storage core book storage) _ none).1).0

  accepts : (there : Option Repository) → repository core repo ≡ there
      → turn_of core repo ≡ None
      → IsLeft (with_repository_by there repo (accepted storage) (without_running repo storage core))
      push
  accepts None found none = left
  accepts (Some book) found none = still_left core
      (with_repository repo (accepted storage book) (without_running repo storage core)) push
      is.within (λ now later open_. (now, later, open_)) (λ now later open_.
      change_so core.repositories repo book _ push.repo found (λ here.
      absurd (let z : Some push ≡ None = sym is.has_turn ∙ ap (turn_of core) here ∙ none in cc)))
      left

-- ---- Begin

new_left : (core : Core) (repo : ℕ) (book : Repository) → repository core repo ≡ Some book
    → begin_refusal core repo (Some book) ≡ None
    → IsLeft (begun_at repo (Some book) core) (beginning core repo book)
new_left core repo book is none now vote there later open_ =
    let newest : now.newest ≡ book.newest = ap newest_of (some_is now _ (sym there
    ∙ got_set core.repositories repo book (drawn_for_members (beginning core repo book) book) is))
    in
    let turn = first_holds (turn_taken (turn_of core repo)) _ none in
    let writable = first_holds (read_only core book) _ turn.1 in
    let leases = first_holds (leases_spent book.last) _ writable.1 in
    let generations = first_holds (generations_spent book.newest) _ leases.1 in
    let below = not_caused (not (nat_lt book.newest (2 ^ 64 - 1))) _ generations.0 in
    grind (arith, nat_tests, newest, below)

-- ---- each operation

module _ (core : Core) (form : IsFormed core) where
  -- what raises no newest generation
  plain : (asked : Op) → RaisesNone asked → (push : OpenPush)
      → IsOpenPush core push → IsLeft core push → IsLeft (left_by core asked) push
  plain asked none push is left = still_left core (left_by core asked) push is.within
      (votes_left core form.turns push is.turn asked)
      (λ now later open_. newest_left push.repo core asked none) left

  one_left : (asked : Op) → refusal_of core asked ≡ None → (push : OpenPush)
      → IsOpenPush core push → IsLeft core push → IsLeft (left_by core asked) push
  one_left (op.Cast tx name phase hash) none push is left =
      cast core form tx name phase hash push is left (voting core tx) refl
  one_left (op.Accept repo storage lease) none push is left =
      accepts core repo.0 storage.0 lease push is left (repository core repo.0) refl
      (free core repo.0 storage.0 lease push is left (repository core repo.0) none)
  one_left (op.Admit virt name) none push is left = plain (op.Admit virt name) tt push is left
  one_left (op.Health storage up) none push is left = plain (op.Health storage up) tt push is left
  one_left (op.Open threshold rounds voters) none push is left =
      plain (op.Open threshold rounds voters) tt push is left
  one_left (op.Withdraw tx voter) none push is left = plain (op.Withdraw tx voter) tt push is left
  one_left (op.Cancel tx) none push is left = plain (op.Cancel tx) tt push is left
  one_left (op.Stop tx) none push is left = plain (op.Stop tx) tt push is left
  one_left (op.Collect tx voter sub) none push is left =
      plain (op.Collect tx voter sub) tt push is left
  one_left (op.Outcome tx sub) none push is left = plain (op.Outcome tx sub) tt push is left
  one_left (op.Close tx) none push is left = plain (op.Close tx) tt push is left
  one_left (op.Create virt path factor) none push is left =
      plain (op.Create virt path factor) tt push is left
  one_left (op.Enrol at storage lease) none push is left =
      plain (op.Enrol at storage lease) tt push is left
  one_left (op.Begin at) none push is left = plain (op.Begin at) tt push is left
  one_left (op.Finish tx) none push is left = plain (op.Finish tx) tt push is left
  one_left (op.Dequeue target now) none push is left = plain (op.Dequeue target now) tt push is left
  one_left (op.Beat job lease now) none push is left = plain (op.Beat job lease now) tt push is left
  one_left (op.Ack job lease good) none push is left = plain (op.Ack job lease good) tt push is left
  one_left (op.Stale now span) none push is left = plain (op.Stale now span) tt push is left
  one_left (op.Reconcile only) none push is left = plain (op.Reconcile only) tt push is left
  one_left (op.RouteRead at) none push is left = plain (op.RouteRead at) tt push is left
  one_left (op.SetFactor at factor) none push is left =
      plain (op.SetFactor at factor) tt push is left
  one_left (op.AcceptBegin at storage) none push is left =
      plain (op.AcceptBegin at storage) tt push is left
  one_left (op.SettleBegin at storage) none push is left =
      plain (op.SettleBegin at storage) tt push is left
  one_left (op.Settle at storage lease last) none push is left =
      plain (op.Settle at storage lease last) tt push is left
  one_left (op.Booked at) none push is left = plain (op.Booked at) tt push is left
  one_left (op.Find virt path) none push is left = plain (op.Find virt path) tt push is left
  one_left (op.Holder at) none push is left = plain (op.Holder at) tt push is left

  begun_left : (asked : Op) → refusal_of core asked ≡ None → (repo : ℕ) (book : Repository)
      → repository core repo ≡ Some book → asked ≡ op.Begin (repo_id repo)
      → IsLeft (left_by core asked) (beginning core repo book)
  begun_left asked none repo book is begins = subst (λ (o : Op).
      IsLeft (left_by core o) (beginning core repo book)) (sym begins)
      (subst (λ (there : Option Repository).
      IsLeft (begun_at repo there core) (beginning core repo book)) (sym is)
      (new_left core repo book is (subst (λ there. begin_refusal core repo there ≡ None) is
      (subst (λ o. refusal_of core o ≡ None) begins none))))

  pub generations_left : (asked : Op) → refusal_of core asked ≡ None → AreLeft core
      → AreLeft (left_by core asked)
  generations_left asked none are = pushes_left (IsLeft (left_by core asked))
      (λ push canceled stopped is. is) core asked (begun_left asked none)
      (all_two (IsOpenPush core) (IsLeft core) (IsLeft (left_by core asked)) core.pushes
      (one_left asked none) (all_open core form) are)

-- ---- a core alone

both_left : (core : Core) (asked : Op) → refusal_of core asked ≡ None → IsFormedAndLeft core
    → IsFormedAndLeft (left_by core asked)
both_left core asked none are =
    (formed_left core asked none are.0, generations_left core are.0 asked none are.1)

pub kept_by_ops : IsKeptByOps IsFormedAndLeft
kept_by_ops core asked are = by (refusal_of core asked) refl
  where
    by : (why : Option Refusal) → refusal_of core asked ≡ why
        → IsFormedAndLeft (unless_refused why core (left_by core asked))
    by None none = both_left core asked none are
    by (Some why) is = are

pub kept_by_restarts : IsKeptByRestarts IsFormedAndLeft
kept_by_restarts core are = (formed_again core are.0, tt)

pub at_first : IsFormedAndLeft empty
at_first = (formed_at_first, tt)

-- ---- .. and in a cluster

pub both_kept : IsKept (OfCore IsFormedAndLeft)
both_kept = uses_kept (OfCore IsFormedAndLeft)
    (λ old new core uses pushed worked are. subst IsFormedAndLeft (sym core) are)
    (λ old asked none are.
    both_left old.core asked (first_none (refusal_of old.core asked) _ none) are)
    (λ old are. kept_by_restarts old.core are)

pub left_always : HoldsAlways (OfCore AreLeft)
left_always node moves new is =
    (always (OfCore IsFormedAndLeft) both_kept (λ node_. at_first) node moves new is).1
