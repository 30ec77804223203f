-- Transactions and turns keep their form at each operation, and at a restart.
use Rattle.std.proofs.Common.{◌≡◌, ◌<◌, ◌+◌, ◌==◌, ℕ, List, [], ◌∷◌, ◌++◌, Bool, true, false, Option, None, Some, refl, sym, ◌∙◌, subst, inl, inr, find, length, arith}
use Rattle.std.specs.List.{AllByRecursion}
use Rattle.px_base.specs.declared.hash.Hash.{Hash}
use Rattle.px_base.specs.declared.ids.TxId.{TxId}
use Rattle.px_base.specs.declared.phase.Phase.{Phase}
use Rattle.px_ops.specs.declared.job.Job.{Job}
use Rattle.px_ops.specs.declared.job.JobKind.{JobKind}
use Rattle.px_ops.specs.declared.job.JobKind.TheVariants.{Update, Delete}
use Rattle.px_ops.specs.declared.op.Op.{Op}
use Rattle.px_ops.specs.declared.op.Op.TheVariants as op
use Rattle.px_ops.specs.declared.refusal.Refusal.{Refusal}
use Rattle.txmanager.proofs.CarryLemmas.{opened_chain}
use Rattle.txmanager.specs.Registry.{Registry, with_changed, with_registered}
use Rattle.txmanager.specs.Rounds.{Cancel, after_acts, opened}
use Rattle.txmanager.specs.VoterCalls.{after_cancel_voter, after_cast}
use Rattle.txmanager.specs.Voting.{Voting, after_cancel, after_stop, voting_on}
use Rattle.voters.specs.Panel.{poll_of}
use Rattle.px_cluster.specs.Book.{Repository, Storage}
use Rattle.px_cluster.specs.Casts.{booked_by, cast_on, with_cast_booked}
use Rattle.px_cluster.specs.Core.{Core, OpenPush, empty, job_at, push_of, repository, restarted, turn_of, voting, with_repository_by}
use Rattle.px_cluster.specs.Creating.{found, with_created}
use Rattle.px_cluster.specs.Jobs.{ended_job, with_end_booked, without_job}
use Rattle.px_cluster.specs.Members.{hosts, members}
use Rattle.px_cluster.specs.Ops.{left_by, refusal_of}
use Rattle.px_cluster.specs.Pushes.{begin_refusal, beginning, begun_at, next_tx, read_only, turn_taken}
use Rattle.px_cluster.specs.Refusals.{cause, first_cause}
use Rattle.px_cluster.specs.Taking.{Drop, Next, PassOver, Take, Taking, dequeued, dequeued_by, next_job, taken_in}
use Rattle.cluster_form.specs.Books.{IsDense}
use Rattle.cluster_form.specs.Turns.{AreTurns, AreTurnsOf, IsTurn, panel_for}
use Rattle.cluster_form.proofs.Lists.{all_got, all_such, bool}
use Rattle.cluster_form.proofs.Panels.{members_distinct, members_known, members_some, panel_is, panel_stays}
use Rattle.cluster_form.proofs.Registries.{found_registered}
use Rattle.cluster_form.proofs.TurnLists.{LeadsOn, by_cast, by_stop, by_withdrawal, keeps_marked, led_on, turns_begun, turns_changed, turns_closed, turns_marked, turns_opened, turns_set}

-- ---- an admission

module _ (storages : List Storage) (storage : Storage) where
  turn_admitted : (transactions : Registry) (last : ℕ) (push : OpenPush)
      → IsTurn storages transactions last push
      → IsTurn (storages ++ storage ∷ []) transactions last push
  turn_admitted transactions last push turn = record {
    given = turn.given;
    vote = turn.vote;
    registered = turn.registered;
    sound = (let same = panel_stays storages storage push.members turn.known in record {
      voters = turn.sound.voters ∙ (λ i. (sym same i).voters);
      acts = turn.sound.acts;
      subs = subst (λ panel. turn.vote.subs ≡ after_acts turn.sound.acts (opened (poll_of panel) 2))
          (sym same) turn.sound.subs;
      chain = turn.sound.chain;
      phases = turn.sound.phases;
    });
    some = turn.some;
    distinct = turn.distinct;
    known = all_such (λ member. member < length storages) _ push.members
        (λ member within. longer storages member within) turn.known;
  }
    where
      length_more : (xs : List Storage) → length (xs ++ storage ∷ []) ≡ length xs + 1
      length_more [] = refl
      length_more (x ∷ xs) = let rest = length_more xs in omega (arith, rest)

      longer : (xs : List Storage) (n : ℕ) → n < length xs → n < length (xs ++ storage ∷ [])
      longer xs n within = let more = length_more xs in omega (arith, within, more)

  turns_admitted : (transactions : Registry) (last : ℕ) (pushes : List OpenPush)
      → AreTurnsOf storages last transactions pushes
      → AreTurnsOf (storages ++ storage ∷ []) last transactions pushes
  turns_admitted transactions last pushes turns = record {
    numbers = turns.numbers;
    order = turns.order;
    each = all_such (IsTurn storages transactions last) _ pushes
        (turn_admitted transactions last) turns.each;
  }

-- ---- Begin

pub first_holds : (first : Option Refusal) (causes : List (Option Refusal))
    → first_cause (first ∷ causes) ≡ None → (first ≡ None) × (first_cause causes ≡ None)
first_holds None causes is = (refl, is)
first_holds (Some why) causes is = absurd (cc)

pub no_turn : (there : Option OpenPush) → turn_taken there ≡ None → there ≡ None
no_turn None is = refl
no_turn (Some push) is = absurd (cc)

pub not_caused : (holds : Bool) (why : Refusal) → cause holds why ≡ None → holds ≡ false
not_caused true why is = absurd (cc)
not_caused false why is = refl

-- where none is found, each is of another repository
all_others : (repo : ℕ) (pushes : List OpenPush)
    → find (λ (push : OpenPush). push.repo == repo) pushes ≡ None
    → AllByRecursion (λ (push : OpenPush). (push.repo == repo) ≡ false) pushes
all_others repo [] none = tt
all_others repo (push ∷ pushes) none = elim (bool (push.repo == repo)) [
  | inl holds ↦ absurd (let z : Some push ≡ None = rw holds at none in cc)
  | inr fails ↦ (fails, all_others repo pushes (rw fails at none))
]

module _ (core : Core) (repo : ℕ) (book : Repository) (dense : IsDense core.storages book)
    (none : begin_refusal core repo (Some book) ≡ None) (turns : AreTurns core) where
  abbrev push : OpenPush
  push = beginning core repo book

  abbrev vote : Voting
  vote = voting_on (panel_for core.storages push.members) 1

  free : turn_of core repo ≡ None
  free = no_turn (turn_of core repo) (first_holds (turn_taken (turn_of core repo)) _ none).0

  some : (length (members core book) == 0) ≡ false
  some = members_some core book dense
      (not_caused (length (hosts core book) == 0) _ (first_holds (read_only core book) _
      (first_holds (turn_taken (turn_of core repo)) _ none).1).0)

  begins : IsTurn core.storages (with_registered core.transactions push.tx vote) (core.last_tx + 1)
      push
  begins = record {
    given = omega arith;
    vote = vote;
    registered =
        found_registered core.last_tx core.transactions turns.numbers push.tx refl vote;
    sound = record {
      voters = refl;
      acts = [];
      subs = refl;
      chain = opened_chain _ 2 (panel_is core.storages push.members some);
      phases = refl;
    };
    some = some;
    distinct = members_distinct core book dense;
    known = members_known core book dense;
  }

  turns_at_begin : AreTurnsOf core.storages (core.last_tx + 1)
      (with_registered core.transactions push.tx vote) (core.pushes ++ push ∷ [])
  turns_at_begin = turns_begun core.storages core.last_tx core.transactions core.pushes turns push.tx
      refl vote push refl
      (all_others repo core.pushes free) begins

begun : (core : Core) (repo : ℕ) (there : Option Repository) → repository core repo ≡ there
    → AllByRecursion (IsDense core.storages) core.repositories
    → begin_refusal core repo there ≡ None → AreTurns core → AreTurns (begun_at repo there core)
begun core repo None is dense none turns = turns
begun core repo (Some book) is dense none turns = turns_at_begin core repo book
    (all_got (IsDense core.storages) core.repositories repo book dense is) none turns

-- ---- each operation

-- what changes books and jobs leaves the turns
by_book : (core : Core) (repo : ℕ) (change : Repository → Repository) (there : Option Repository)
    → AreTurns core → AreTurns (with_repository_by there repo change core)
by_book core repo change None turns = turns
by_book core repo change (Some book) turns = turns

cast_booked : (core : Core) (push : Option OpenPush) (name : List ℕ) (phase : Phase) (hash : Hash)
    (old new : Voting) → AreTurns core
    → AreTurns (with_cast_booked push name phase hash old new core)
cast_booked core None name phase hash old new turns = turns
cast_booked core (Some push) name phase hash old new turns =
    by_book core push.repo (booked_by push name phase hash old new) (repository core push.repo) turns

cast : (core : Core) (tx : TxId) (name : List ℕ) (phase : Phase) (hash : Hash)
    (vote : Option Voting) → voting core tx ≡ vote → AreTurns core
    → AreTurns (cast_on tx name phase hash vote core)
cast core tx name phase hash None is turns = turns
cast core tx name phase hash (Some old) is turns = cast_booked (record core { transactions = _ })
    (push_of core tx) name phase hash old (after_cast name phase hash old)
    (turns_set core.storages core.last_tx core.transactions tx core.pushes old
    (after_cast name phase hash old) is (by_cast name phase hash old) turns)

changed : (core : Core) (tx : TxId) (becomes : Voting → Voting)
    → ((old : Voting) → LeadsOn old (becomes old)) → AreTurns core
    → AreTurnsOf core.storages core.last_tx (with_changed core.transactions tx becomes) core.pushes
changed core tx becomes leads turns = turns_changed core.storages core.last_tx core.transactions tx
    core.pushes becomes leads (voting core tx) refl turns

created : (core : Core) (there : Option ℕ) (book : Repository) → AreTurns core
    → AreTurns (with_created there book core)
created core None book turns = turns
created core (Some repo) book turns = turns

taken : (core : Core) (job : Job) (source : Option ℕ) (now : ℕ) (there : Option Repository)
    → AreTurns core → AreTurns (taken_in there job source now core)
taken core job source now None turns = turns
taken core job source now (Some book) turns = turns

dequeued_so : (core : Core) (next : Option Next) (now : ℕ) → AreTurns core
    → AreTurns (dequeued next now core)
dequeued_so core None now turns = turns
dequeued_so core (Some next) now turns = by_what next.taking
  where
    by_what : (taking : Taking) → AreTurns (dequeued_by next.job taking now core)
    by_what PassOver = turns
    by_what Drop = turns
    by_what (Take source) =
        taken core next.job source now (repository core next.job.repo.0) turns

ended_so : (core : Core) (good : Bool) (job : Option Job) → AreTurns core
    → AreTurns (ended_job good job core)
ended_so core good None turns = turns
ended_so core true (Some job) turns = by_kind job.kind
  where
    by_kind : (kind : JobKind) → AreTurns (with_end_booked job kind (without_job job.number core))
    by_kind Update = by_book (without_job job.number core) job.repo.0 _
        (repository core job.repo.0) turns
    by_kind Delete = turns
ended_so core false (Some job) turns = turns

pub turns_left : (core : Core) (asked : Op) → refusal_of core asked ≡ None
    → AllByRecursion (IsDense core.storages) core.repositories → AreTurns core
    → AreTurns (left_by core asked)
turns_left core (op.Admit virt name) none dense turns =
    turns_admitted core.storages _ core.transactions core.last_tx core.pushes turns
turns_left core (op.Health storage up) none dense turns = turns
turns_left core (op.Open threshold rounds voters) none dense turns =
    turns_opened core.storages core.last_tx core.transactions core.pushes turns (next_tx core) refl _
turns_left core (op.Cast tx voter phase hash) none dense turns =
    cast core tx voter phase hash (voting core tx) refl turns
turns_left core (op.Withdraw tx voter) none dense turns =
    changed core tx (after_cancel_voter voter) (by_withdrawal voter) turns
turns_left core (op.Cancel tx) none dense turns =
    turns_marked _ (keeps_marked tx (λ push. record push { canceled = true })
    (record { tx = λ push. refl; repo = λ push. refl; members_ = λ push. refl }))
    core.storages core.last_tx _ core.pushes
    (changed core tx after_cancel (λ old. led_on old Cancel) turns)
turns_left core (op.Stop tx) none dense turns =
    turns_marked _ (keeps_marked tx (λ push. record push { stopped = true })
    (record { tx = λ push. refl; repo = λ push. refl; members_ = λ push. refl }))
    core.storages core.last_tx _ core.pushes (changed core tx after_stop by_stop turns)
turns_left core (op.Collect tx voter sub) none dense turns = turns
turns_left core (op.Outcome tx sub) none dense turns = turns
turns_left core (op.Close tx) none dense turns =
    turns_closed core.storages core.last_tx core.transactions tx core.pushes turns
turns_left core (op.Create virt path factor) none dense turns =
    created core (found core virt path) _ turns
turns_left core (op.Enrol repo storage lease) none dense turns =
    by_book core repo.0 _ (repository core repo.0) turns
turns_left core (op.Begin repo) none dense turns =
    begun core repo.0 (repository core repo.0) refl dense none turns
turns_left core (op.Finish tx) none dense turns =
    turns_closed core.storages core.last_tx core.transactions tx core.pushes turns
turns_left core (op.Dequeue target now) none dense turns =
    dequeued_so core (next_job core target.0) now turns
turns_left core (op.Beat job lease now) none dense turns = turns
turns_left core (op.Ack job lease good) none dense turns =
    ended_so core good (job_at core job.0) turns
turns_left core (op.Stale now span) none dense turns = turns
turns_left core (op.Reconcile only) none dense turns = turns
turns_left core (op.RouteRead repo) none dense turns = turns
turns_left core (op.SetFactor repo factor) none dense turns =
    by_book core repo.0 _ (repository core repo.0) turns
turns_left core (op.AcceptBegin repo storage) none dense turns =
    by_book (record core { jobs = _ }) repo.0 _ (repository core repo.0) turns
turns_left core (op.Accept repo storage lease) none dense turns =
    by_book (record core { jobs = _ }) repo.0 _ (repository core repo.0) turns
turns_left core (op.SettleBegin repo storage) none dense turns =
    by_book (record core { jobs = _ }) repo.0 _ (repository core repo.0) turns
turns_left core (op.Settle repo storage lease last) none dense turns =
    by_book (record core { jobs = _ }) repo.0 _ (repository core repo.0) turns
turns_left core (op.Booked repo) none dense turns = turns
turns_left core (op.Find virt path) none dense turns = turns
turns_left core (op.Holder repo) none dense turns = turns

pub turns_again : (core : Core) → AreTurns core → AreTurns (restarted core)
turns_again core turns =
    record { numbers = record { order = tt; given = tt }; order = tt; each = tt }

pub no_turns : AreTurns empty
no_turns = record { numbers = record { order = tt; given = tt }; order = tt; each = tt }
