-- The first phase of an open push is open after an operation only where it was open before.
use Rattle.std.proofs.Common.{◌≡◌, ◌==◌, ℕ, List, Bool, true, false, Option, None, Some, refl, sym, ◌∙◌, ap, subst, inl, inr, arith}
use Rattle.std.specs.Option.{option_map}
use Rattle.px_base.specs.declared.hash.Hash.{Hash}
use Rattle.px_base.specs.declared.ids.TxId.{TxId}
use Rattle.px_base.specs.declared.phase.Phase.{Phase}
use Rattle.px_ops.specs.declared.job.Job.{Job}
use Rattle.px_ops.specs.declared.job.JobKind.{JobKind}
use Rattle.px_ops.specs.declared.job.JobKind.TheVariants.{Update, Delete}
use Rattle.px_ops.specs.declared.op.Op.{Op}
use Rattle.px_ops.specs.declared.op.Op.TheVariants as op
use Rattle.txmanager.proofs.RegistryLemmas.{other_closed, other_registered, other_with}
use Rattle.txmanager.specs.Registry.{Registry, transaction_at, with_registered, with_transaction, without_transaction}
use Rattle.txmanager.specs.Rounds.{Cancel}
use Rattle.txmanager.specs.VoterCalls.{after_cancel_voter, after_cast}
use Rattle.txmanager.specs.Voting.{Voting, after_cancel, after_stop}
use Rattle.px_cluster.specs.Book.{Repository}
use Rattle.px_cluster.specs.Casts.{booked_by, cast_on, with_cast_booked}
use Rattle.px_cluster.specs.Core.{Core, OpenPush, job_at, push_of, repository, voting, with_repository_by}
use Rattle.px_cluster.specs.Creating.{found, with_created}
use Rattle.px_cluster.specs.Jobs.{ended_job, with_end_booked, without_job}
use Rattle.px_cluster.specs.Ops.{left_by}
use Rattle.px_cluster.specs.Pushes.{begun_at, is_open, next_tx, prepared_outcome}
use Rattle.px_cluster.specs.Taking.{Drop, Next, PassOver, Take, Taking, dequeued, dequeued_by, next_job, taken_in}
use Rattle.cluster_form.specs.Turns.{AreTurns, IsTurn, IsVoteOf}
use Rattle.cluster_form.proofs.Lists.{bool, same_number, some_is}
use Rattle.cluster_form.proofs.Registries.{apart_tx, found_set, none_left, same_tx}
use Rattle.cluster_form.proofs.TurnLists.{LeadsOn, by_cast, by_stop, by_withdrawal, led_on}

-- ---- one transaction

-- where it is on record and its first phase is open, that was so before
abbrev pub WasOpen : Registry → Registry → TxId → Type 0
WasOpen old new tx = (now : Voting) → transaction_at new tx ≡ Some now
    → is_open (prepared_outcome now) ≡ true → (was : Voting)
    × (transaction_at old tx ≡ Some was) × (is_open (prepared_outcome was) ≡ true)

found_same : (old new : Registry) (tx : TxId) → transaction_at new tx ≡ transaction_at old tx
    → WasOpen old new tx
found_same old new tx same now there is = (now, sym same ∙ there, is)

module _ (core : Core) (turns : AreTurns core) (push : OpenPush)
    (turn : IsTurn core.storages core.transactions core.last_tx push) where
  abbrev was_open : Registry → Type 0
  was_open new = WasOpen core.transactions new push.tx

  same : was_open core.transactions
  same = found_same core.transactions core.transactions push.tx refl

  pub set_so : (tx : TxId) (old new : Voting) → voting core tx ≡ Some old → LeadsOn old new
      → was_open (with_transaction core.transactions tx (Some new))
  set_so tx old new there leads = elim (bool (push.tx.0 == tx.0)) [
    | inl holds ↦ (let is = same_tx push.tx tx (same_number push.tx.0 tx.0 holds) in
        let here : voting core push.tx ≡ Some old = ap (voting core) is ∙ there in
        let sound : IsVoteOf core.storages push.members old =
        subst (λ v. IsVoteOf core.storages push.members v)
        (some_is turn.vote old (sym turn.registered ∙ here)) turn.sound in
        λ now later open_. (
          old,
          here,
          (leads core.storages push.members sound).before (
              subst (λ v. is_open (prepared_outcome v) ≡ true) (some_is now new (sym later
              ∙ ap (transaction_at (with_transaction core.transactions tx (Some new))) is
              ∙ found_set tx.0 core.transactions old new there)) open_),
        ))
    | inr fails ↦ found_same core.transactions _ push.tx
        (other_with core.transactions tx push.tx (Some new) (apart_tx push.tx tx fails))
  ]

  changed : (tx : TxId) (becomes : Voting → Voting)
      → ((old : Voting) → LeadsOn old (becomes old)) → (there : Option Voting)
      → voting core tx ≡ there
      → was_open (with_transaction core.transactions tx (option_map becomes there))
  changed tx becomes leads None is = same
  changed tx becomes leads (Some old) is = set_so tx old (becomes old) is (leads old)

  closed : (tx : TxId) → was_open (without_transaction core.transactions tx)
  closed tx = elim (bool (push.tx.0 == tx.0)) [
    | inl holds ↦ (let is = same_tx push.tx tx (same_number push.tx.0 tx.0 holds) in
        let none : transaction_at (without_transaction core.transactions tx) push.tx ≡ None =
        ap (transaction_at (without_transaction core.transactions tx)) is
        ∙ none_left tx.0 core.transactions turns.numbers.order in
        λ now later open_. absurd (let z : None ≡ Some now = sym none ∙ later in cc))
    | inr fails ↦ found_same core.transactions _ push.tx
        (other_closed core.transactions tx push.tx (apart_tx push.tx tx fails))
  ]

  opened : (vote : Voting)
      → was_open (with_registered core.transactions (next_tx core) vote)
  opened vote = found_same core.transactions _ push.tx
      (other_registered core.transactions (next_tx core) push.tx vote (λ is.
      let number = ap (λ (t : TxId). t.0) is in
      let given = turn.given in omega (arith, number, given)))

  -- ---- each operation

  -- what changes books and jobs leaves the transactions
  by_book : (old : Core) (repo : ℕ) (change : Repository → Repository)
      (there : Option Repository) → was_open old.transactions
      → was_open (with_repository_by there repo change old).transactions
  by_book old repo change None is = is
  by_book old repo change (Some book) is = is

  cast_booked : (old : Core) (cast_ : Option OpenPush) (name : List ℕ) (phase : Phase)
      (hash : Hash) (was now : Voting) → was_open old.transactions
      → was_open (with_cast_booked cast_ name phase hash was now old).transactions
  cast_booked old None name phase hash was now is = is
  cast_booked old (Some push_) name phase hash was now is =
      by_book old push_.repo (booked_by push_ name phase hash was now)
      (repository old push_.repo) is

  cast : (tx : TxId) (name : List ℕ) (phase : Phase) (hash : Hash) (vote : Option Voting)
      → voting core tx ≡ vote → was_open (cast_on tx name phase hash vote core).transactions
  cast tx name phase hash None is = same
  cast tx name phase hash (Some old) is = cast_booked (record core { transactions = _ })
      (push_of core tx) name phase hash old (after_cast name phase hash old)
      (set_so tx old (after_cast name phase hash old) is (by_cast name phase hash old))

  created : (there : Option ℕ) (book : Repository)
      → was_open (with_created there book core).transactions
  created None book = same
  created (Some repo) book = same

  begun : (repo : ℕ) (there : Option Repository)
      → was_open (begun_at repo there core).transactions
  begun repo None = same
  begun repo (Some book) = opened _

  taken : (job : Job) (source : Option ℕ) (now : ℕ) (there : Option Repository)
      → was_open (taken_in there job source now core).transactions
  taken job source now None = same
  taken job source now (Some book) = same

  dequeued_so : (next : Option Next) (now : ℕ) → was_open (dequeued next now core).transactions
  dequeued_so None now = same
  dequeued_so (Some next) now = by_what next.taking
    where
      by_what : (taking : Taking) → was_open (dequeued_by next.job taking now core).transactions
      by_what PassOver = same
      by_what Drop = same
      by_what (Take source) = taken next.job source now (repository core next.job.repo.0)

  ended_so : (good : Bool) (job : Option Job) → was_open (ended_job good job core).transactions
  ended_so good None = same
  ended_so true (Some job) = by_kind job.kind
    where
      by_kind : (kind : JobKind)
          → was_open (with_end_booked job kind (without_job job.number core)).transactions
      by_kind Update = by_book (without_job job.number core) job.repo.0 _
          (repository core job.repo.0) same
      by_kind Delete = same
  ended_so false (Some job) = same

  pub votes_left : (asked : Op) → was_open (left_by core asked).transactions
  votes_left (op.Admit virt name) = same
  votes_left (op.Health storage up) = same
  votes_left (op.Open threshold rounds voters) = opened _
  votes_left (op.Cast tx voter phase hash) = cast tx voter phase hash (voting core tx) refl
  votes_left (op.Withdraw tx voter) =
      changed tx (after_cancel_voter voter) (by_withdrawal voter) (voting core tx) refl
  votes_left (op.Cancel tx) =
      changed tx after_cancel (λ old. led_on old Cancel) (voting core tx) refl
  votes_left (op.Stop tx) = changed tx after_stop by_stop (voting core tx) refl
  votes_left (op.Collect tx voter sub) = same
  votes_left (op.Outcome tx sub) = same
  votes_left (op.Close tx) = closed tx
  votes_left (op.Create virt path factor) = created (found core virt path) _
  votes_left (op.Enrol repo storage lease) = by_book core repo.0 _ (repository core repo.0) same
  votes_left (op.Begin repo) = begun repo.0 (repository core repo.0)
  votes_left (op.Finish tx) = closed tx
  votes_left (op.Dequeue target now) = dequeued_so (next_job core target.0) now
  votes_left (op.Beat job lease now) = same
  votes_left (op.Ack job lease good) = ended_so good (job_at core job.0)
  votes_left (op.Stale now span) = same
  votes_left (op.Reconcile only) = same
  votes_left (op.RouteRead repo) = same
  votes_left (op.SetFactor repo factor) = by_book core repo.0 _ (repository core repo.0) same
  votes_left (op.AcceptBegin repo storage) =
      by_book (record core { jobs = _ }) repo.0 _ (repository core repo.0) same
  votes_left (op.Accept repo storage lease) =
      by_book (record core { jobs = _ }) repo.0 _ (repository core repo.0) same
  votes_left (op.SettleBegin repo storage) =
      by_book (record core { jobs = _ }) repo.0 _ (repository core repo.0) same
  votes_left (op.Settle repo storage lease last) =
      by_book (record core { jobs = _ }) repo.0 _ (repository core repo.0) same
  votes_left (op.Booked repo) = same
  votes_left (op.Find virt path) = same
  votes_left (op.Holder repo) = same
