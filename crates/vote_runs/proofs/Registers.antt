-- What an operation makes of the transactions: one more is registered, acts lead one on, or one is
-- closed.
use Rattle.std.proofs.Common.{◌≡◌, ◌+◌, ◌*◌, ℕ, List, [], ◌∷◌, ◌++◌, Bool, true, false, Option, None, Some, Result, Ok, Err, refl, sym, ◌∙◌}
use Rattle.std.specs.List.{AllByRecursion}
use Rattle.std.specs.Option.{option_map}
use Rattle.px_base.specs.declared.hash.Hash.{Hash}
use Rattle.px_base.specs.declared.ids.TxId.{TxId}
use Rattle.px_base.specs.declared.phase.Phase.{Phase}
use Rattle.px_base.specs.declared.voter.Voter.{Voter}
use Rattle.px_ops.specs.declared.job.Job.{Job}
use Rattle.px_ops.specs.declared.job.JobKind.{JobKind}
use Rattle.px_ops.specs.declared.job.JobKind.TheVariants.{Update, Delete}
use Rattle.px_ops.specs.declared.op.Op.{Op}
use Rattle.px_ops.specs.declared.op.Op.TheVariants as op
use Rattle.txmanager.proofs.CarryLemmas.{after_acts-append}
use Rattle.txmanager.specs.Registry.{Registry, transaction_at, with_registered, with_transaction, without_transaction}
use Rattle.txmanager.specs.Rounds.{Cancel, CancelVoter, Cast, Stop, TxAct, after_acts}
use Rattle.txmanager.specs.VoterCalls.{after_cancel_voter, after_cast, cancel_voter_answer, cast_answer}
use Rattle.txmanager.specs.Voting.{Voting, after_cancel, after_stop, number_of, stop_answer, unless_err, voting_on, with_act, with_act_by}
use Rattle.txmanager.specs.declared.refusal.TxRefusal.{TxRefusal}
use Rattle.voters.specs.Panel.{poll_of}
use Rattle.px_cluster.specs.Book.{Repository}
use Rattle.px_cluster.specs.Casts.{booked_by, cast_on, with_cast_booked}
use Rattle.px_cluster.specs.Core.{Core, OpenPush, job_at, push_of, repository, turn_of, voting, with_repository_by}
use Rattle.px_cluster.specs.Creating.{found, with_created}
use Rattle.px_cluster.specs.Jobs.{ended_job, with_end_booked, without_job}
use Rattle.px_cluster.specs.Members.{members}
use Rattle.px_cluster.specs.Ops.{left_by, refusal_of}
use Rattle.px_cluster.specs.Pushes.{begin_refusal, begun_at, next_tx, read_only, turn_taken}
use Rattle.px_cluster.specs.Taking.{Drop, Next, PassOver, Take, Taking, dequeued, dequeued_by, next_job, taken_in}
use Rattle.cluster_form.specs.Books.{IsDense}
use Rattle.cluster_form.specs.Turns.{AreNumbered, panel_for}
use Rattle.cluster_form.proofs.Lists.{all_got}
use Rattle.cluster_form.proofs.Panels.{members_some, panel_is}
use Rattle.cluster_form.proofs.TurnsKept.{first_holds, not_caused}
use Rattle.vote_runs.specs.Acts.{IsLedOn, IsOfPoll}
use Rattle.vote_runs.proofs.Panels.{not_refused, poll_lawful}

-- ---- acts

-- after no acts
pub itself : (vote : Voting) → IsLedOn vote vote
itself vote = record { voters = refl; acts = []; subs = refl }

-- after some acts, and then some more
pub and_on : (one then_ later : Voting) → IsLedOn one then_ → IsLedOn then_ later
    → IsLedOn one later
and_on one then_ later first second = record {
  voters = second.voters ∙ first.voters;
  acts = first.acts ++ second.acts;
  subs = second.subs ∙ (λ i. after_acts second.acts (first.subs i))
      ∙ sym (after_acts-append first.acts second.acts one.subs);
}

-- by one act
by_act : (old : Voting) (act : TxAct) → IsLedOn old (with_act old act)
by_act old act = record { voters = refl; acts = act ∷ []; subs = refl }

-- .. by the act of a voter, where there is such a voter
by_voter : (old : Voting) (voter : Option ℕ) (act : ℕ → TxAct)
    → IsLedOn old (with_act_by old voter act)
by_voter old None act = itself old
by_voter old (Some voter) act = by_act old (act voter)

-- a refusal leaves it
unless_refused : {A : Type 0} (answer : Result A TxRefusal) (old new : Voting) → IsLedOn old new
    → IsLedOn old (unless_err answer old new)
unless_refused (Ok value) old new led = led
unless_refused (Err why) old new led = itself old

-- each call on a transaction leads it on
by_cast : (name : List ℕ) (phase : Phase) (hash : Hash) (old : Voting)
    → IsLedOn old (after_cast name phase hash old)
by_cast name phase hash old = unless_refused (cast_answer name phase hash old) old _
    (by_voter old (number_of name old) (λ voter. Cast voter hash))

by_withdrawal : (name : List ℕ) (old : Voting) → IsLedOn old (after_cancel_voter name old)
by_withdrawal name old = unless_refused (cancel_voter_answer name old) old _
    (by_voter old (number_of name old) CancelVoter)

by_stop : (old : Voting) → IsLedOn old (after_stop old)
by_stop old = unless_refused (stop_answer old) old (with_act old Stop) (by_act old Stop)

-- ---- what leaves the last number, the transactions and the pushes

module _ (P : ℕ → Registry → List OpenPush → Type 0) where
  abbrev pub OfVotes : Core → Type 0
  OfVotes core = P core.last_tx core.transactions core.pushes

  -- a change of the book
  pub by_book : (core : Core) (repo : ℕ) (change : Repository → Repository) (there : Option Repository)
      → OfVotes core → OfVotes (with_repository_by there repo change core)
  by_book core repo change None holds = holds
  by_book core repo change (Some book) holds = holds

  -- what a vote on a push books
  pub cast_booked : (core : Core) (push : Option OpenPush) (name : List ℕ) (phase : Phase)
      (hash : Hash) (old new : Voting) → OfVotes core
      → OfVotes (with_cast_booked push name phase hash old new core)
  cast_booked core None name phase hash old new holds = holds
  cast_booked core (Some push) name phase hash old new holds =
      by_book core push.repo (booked_by push name phase hash old new)
      (repository core push.repo) holds

  -- a repository that is created
  pub creates : (core : Core) (there : Option ℕ) (book : Repository) → OfVotes core
      → OfVotes (with_created there book core)
  creates core None book holds = holds
  creates core (Some repo) book holds = holds

  -- a job that is taken
  pub takes : (core : Core) (job : Job) (source : Option ℕ) (now : ℕ) (there : Option Repository)
      → OfVotes core → OfVotes (taken_in there job source now core)
  takes core job source now None holds = holds
  takes core job source now (Some book) holds = holds

  -- what comes of the next job
  pub dequeues : (core : Core) (next : Option Next) (now : ℕ) → OfVotes core
      → OfVotes (dequeued next now core)
  dequeues core None now holds = holds
  dequeues core (Some next) now holds = by_what next.taking
    where
      by_what : (taking : Taking) → OfVotes (dequeued_by next.job taking now core)
      by_what PassOver = holds
      by_what Drop = holds
      by_what (Take source) = takes core next.job source now (repository core next.job.repo.0) holds

  -- a job that ends
  pub ends : (core : Core) (good : Bool) (job : Option Job) → OfVotes core
      → OfVotes (ended_job good job core)
  ends core good None holds = holds
  ends core true (Some job) holds = by_kind job.kind
    where
      by_kind : (kind : JobKind) → OfVotes (with_end_booked job kind (without_job job.number core))
      by_kind Update = by_book (without_job job.number core) job.repo.0 _
          (repository core job.repo.0) holds
      by_kind Delete = holds
  ends core false (Some job) holds = holds

-- ---- what is true by the last number and the transactions

-- each change of the transactions keeps it
pub record IsOfRegistry (R : ℕ → Registry → Type 0) : Type 0 where
  pub opened : (last : ℕ) (transactions : Registry) (tx : TxId) (vote : Voting)
      → AreNumbered last transactions → tx.0 ≡ last + 1 → IsOfPoll vote → R last transactions
      → R (last + 1) (with_registered transactions tx vote)
  pub led : (last : ℕ) (transactions : Registry) (tx : TxId) (old new : Voting)
      → transaction_at transactions tx ≡ Some old → IsLedOn old new → R last transactions
      → R last (with_transaction transactions tx (Some new))
  pub closed : (last : ℕ) (transactions : Registry) (tx : TxId) → AreNumbered last transactions
      → R last transactions → R last (without_transaction transactions tx)
  pub none : (last : ℕ) (transactions : Registry) → R last transactions → R last []

module _ (R : ℕ → Registry → Type 0) (is : IsOfRegistry R) where
  abbrev OfRegistry : ℕ → Registry → List OpenPush → Type 0
  OfRegistry last transactions pushes = R last transactions

  abbrev pub OfBoth : Core → Type 0
  OfBoth core = R core.last_tx core.transactions

  -- ---- a transaction, and a push

  -- a transaction that is opened
  opens : (core : Core) (threshold rounds : ℕ) (voters : List Voter)
      → refusal_of core (op.Open threshold rounds voters) ≡ None
      → AreNumbered core.last_tx core.transactions → OfBoth core
      → OfBoth (left_by core (op.Open threshold rounds voters))
  opens core threshold rounds voters none numbers holds =
      is.opened core.last_tx core.transactions (next_tx core) _ numbers refl (record {
        poll = poll_of (record { voters = voters; threshold = threshold });
        lawful = poll_lawful voters threshold
            (not_refused voters threshold (first_holds _ _ none).0);
        count = 2 * rounds;
        acts = [];
        subs = refl;
      }) holds

  -- that of a push that begins
  begins : (core : Core) (repo : ℕ) (there : Option Repository) → repository core repo ≡ there
      → AllByRecursion (IsDense core.storages) core.repositories
      → begin_refusal core repo there ≡ None → AreNumbered core.last_tx core.transactions
      → OfBoth core → OfBoth (begun_at repo there core)
  begins core repo None at dense none numbers holds = holds
  begins core repo (Some book) at dense none numbers holds =
      let some = members_some core book
      (all_got (IsDense core.storages) core.repositories repo book dense at)
      (not_caused _ _ (first_holds (read_only core book) _
      (first_holds (turn_taken (turn_of core repo)) _ none).1).0) in
      is.opened core.last_tx core.transactions (next_tx core)
      (voting_on (panel_for core.storages (members core book)) 1) numbers refl (record {
        poll = poll_of (panel_for core.storages (members core book));
        lawful = panel_is core.storages (members core book) some;
        count = 2;
        acts = [];
        subs = refl;
      }) holds

  -- ---- acts on one

  -- what becomes of one that is on record
  changed : (core : Core) (tx : TxId) (becomes : Voting → Voting) (there : Option Voting)
      → transaction_at core.transactions tx ≡ there
      → ((old : Voting) → IsLedOn old (becomes old)) → OfBoth core
      → R core.last_tx (with_transaction core.transactions tx (option_map becomes there))
  changed core tx becomes None at leads holds = holds
  changed core tx becomes (Some old) at leads holds =
      is.led core.last_tx core.transactions tx old (becomes old) at (leads old) holds

  -- a vote
  casts : (core : Core) (tx : TxId) (name : List ℕ) (phase : Phase) (hash : Hash)
      (vote : Option Voting) → voting core tx ≡ vote → OfBoth core
      → OfBoth (cast_on tx name phase hash vote core)
  casts core tx name phase hash None at holds = holds
  casts core tx name phase hash (Some old) at holds = cast_booked OfRegistry (record core { transactions = _ })
      (push_of core tx) name phase hash old (after_cast name phase hash old)
      (is.led core.last_tx core.transactions tx old (after_cast name phase hash old) at
      (by_cast name phase hash old) holds)

  -- ---- each operation

  pub registry_left : (core : Core) (asked : Op) → refusal_of core asked ≡ None
      → AllByRecursion (IsDense core.storages) core.repositories
      → AreNumbered core.last_tx core.transactions → OfBoth core
      → OfBoth (left_by core asked)
  registry_left core (op.Open threshold rounds voters) none dense numbers holds =
      opens core threshold rounds voters none numbers holds
  registry_left core (op.Cast tx voter phase hash) none dense numbers holds =
      casts core tx voter phase hash (voting core tx) refl holds
  registry_left core (op.Withdraw tx voter) none dense numbers holds =
      changed core tx (after_cancel_voter voter) (voting core tx) refl (by_withdrawal voter) holds
  registry_left core (op.Cancel tx) none dense numbers holds =
      changed core tx after_cancel (voting core tx) refl (λ old. by_act old Cancel) holds
  registry_left core (op.Stop tx) none dense numbers holds =
      changed core tx after_stop (voting core tx) refl by_stop holds
  registry_left core (op.Close tx) none dense numbers holds =
      is.closed core.last_tx core.transactions tx numbers holds
  registry_left core (op.Finish tx) none dense numbers holds =
      is.closed core.last_tx core.transactions tx numbers holds
  registry_left core (op.Begin repo) none dense numbers holds =
      begins core repo.0 (repository core repo.0) refl dense none numbers holds
  registry_left core (op.Create virt path factor) none dense numbers holds =
      creates OfRegistry core (found core virt path) _ holds
  registry_left core (op.Enrol repo storage lease) none dense numbers holds =
      by_book OfRegistry core repo.0 _ (repository core repo.0) holds
  registry_left core (op.Dequeue target now) none dense numbers holds =
      dequeues OfRegistry core (next_job core target.0) now holds
  registry_left core (op.Ack job lease good) none dense numbers holds =
      ends OfRegistry core good (job_at core job.0) holds
  registry_left core (op.SetFactor repo factor) none dense numbers holds =
      by_book OfRegistry core repo.0 _ (repository core repo.0) holds
  registry_left core (op.AcceptBegin repo storage) none dense numbers holds =
      by_book OfRegistry (record core { jobs = _ }) repo.0 _ (repository core repo.0) holds
  registry_left core (op.Accept repo storage lease) none dense numbers holds =
      by_book OfRegistry (record core { jobs = _ }) repo.0 _ (repository core repo.0) holds
  registry_left core (op.SettleBegin repo storage) none dense numbers holds =
      by_book OfRegistry (record core { jobs = _ }) repo.0 _ (repository core repo.0) holds
  registry_left core (op.Settle repo storage lease last) none dense numbers holds =
      by_book OfRegistry (record core { jobs = _ }) repo.0 _ (repository core repo.0) holds
  registry_left core (op.Admit virt name) none dense numbers holds = holds
  registry_left core (op.Health storage up) none dense numbers holds = holds
  registry_left core (op.Collect tx voter sub) none dense numbers holds = holds
  registry_left core (op.Outcome tx sub) none dense numbers holds = holds
  registry_left core (op.Beat job lease now) none dense numbers holds = holds
  registry_left core (op.Stale now span) none dense numbers holds = holds
  registry_left core (op.Reconcile only) none dense numbers holds = holds
  registry_left core (op.RouteRead repo) none dense numbers holds = holds
  registry_left core (op.Booked repo) none dense numbers holds = holds
  registry_left core (op.Find virt path) none dense numbers holds = holds
  registry_left core (op.Holder repo) none dense numbers holds = holds
