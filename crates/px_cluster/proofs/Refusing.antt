-- A refusal changes nothing: where the core answers a refusal it stays, and so does what a delivery
-- that is refused would change.
use Rattle.std.proofs.Common.{◌≡◌, ℕ, Bool, true, false, Option, None, Some, Result, Ok, Err, refl, sym, ap, ◌∙◌, inl, inr}
use Rattle.px_ops.specs.declared.node_refusal.NodeRefusal.{NodeRefusal}
use Rattle.px_ops.specs.declared.op.Op.{Op}
use Rattle.px_ops.specs.declared.op.Op.TheVariants as op
use Rattle.px_ops.specs.declared.job.Job.{Job}
use Rattle.px_ops.specs.declared.refusal.Refusal.{Refusal}
use Rattle.px_ops.specs.declared.reply.Reply.{Reply}
use Rattle.px_ops.specs.declared.reply.Reply.TheVariants as reply
use Rattle.node_calls.specs.ReplicaState.{ReplicaState}
use Rattle.txmanager.specs.Registry.{answer_at}
use Rattle.txmanager.specs.VoterCalls as by
use Rattle.txmanager.specs.Voting as on
use Rattle.txmanager.specs.declared.refusal.TxRefusal.{TxRefusal}
use Rattle.voters.specs.declared.outcome.Outcome.{Outcome}
use Rattle.voters.specs.declared.voter_result.VoterResult.{VoterResult}
use Rattle.px_cluster.specs.Acknowledged.{done_in, event_refusal, op_reply}
use Rattle.px_cluster.specs.Book.{Repository}
use Rattle.px_cluster.specs.Cluster.{Cluster}
use Rattle.px_cluster.specs.Core.{Core, OpenPush, job_at, push_of, repository, voting}
use Rattle.px_cluster.specs.Creating.{found}
use Rattle.px_cluster.specs.Deliveries.{Delivers, ReadsRefs, TakesSnapshot}
use Rattle.px_cluster.specs.Effects.{Effect, Location, effect_of, location_of, source_of}
use Rattle.px_cluster.specs.Events.{Answer, Replied, Voted, refused}
use Rattle.px_cluster.specs.Events as event
use Rattle.px_cluster.specs.Jobs.{end_reply}
use Rattle.px_cluster.specs.Ledger.{Purpose, answered}
use Rattle.px_cluster.specs.Ops.{about, answer_of, collected, counted, outcome_told, told, unless_refused}
use Rattle.px_cluster.specs.Pushes.{finish_reply}
use Rattle.px_cluster.specs.Refused.{RefusalChangesNothing}
use Rattle.px_cluster.specs.Step.{IsAsked, keeps_nothing, settling, tells_done}
use Rattle.px_cluster.specs.Taking.{Drop, Next, PassOver, Take, Taking, dequeue_reply, next_job, reply_by, taken_reply}

-- ---- the core never answers a refusal where nothing refuses

abbrev is_refusal : Reply → Bool
is_refusal (reply.Refused why) = true
is_refusal other = false

about_what_there_is : {A : Type 0} (there : Option A) (answer : A → Reply)
    → ((x : A) → is_refusal (answer x) ≡ false) → is_refusal (about there answer) ≡ false
about_what_there_is None answer none = refl
about_what_there_is (Some x) answer none = none x

a_cast : (answer : Result (ℕ × VoterResult) TxRefusal) → is_refusal (counted answer) ≡ false
a_cast (Ok x) = refl
a_cast (Err why) = refl

a_result : (sub : ℕ) (answer : Result VoterResult TxRefusal)
    → is_refusal (collected sub answer) ≡ false
a_result sub (Ok x) = refl
a_result sub (Err why) = refl

an_outcome : (answer : Result Outcome TxRefusal) → is_refusal (outcome_told answer) ≡ false
an_outcome (Ok x) = refl
an_outcome (Err why) = refl

an_end : (vote : Option on.Voting) (push : Option OpenPush)
    → is_refusal (finish_reply vote push) ≡ false
an_end None push = refl
an_end (Some vote) None = refl
an_end (Some vote) (Some push) = refl

a_job : (core : Core) (next : Option Next) (now : ℕ)
    → is_refusal (dequeue_reply core next now) ≡ false
a_job core None now = refl
a_job core (Some next) now = by_taking next.taking
  where
    from_source : (book : Option Repository) (source : Option ℕ)
        → is_refusal (taken_reply core book next.job source now) ≡ false
    from_source None source = refl
    from_source (Some book) source = refl

    by_taking : (taking : Taking) → is_refusal (reply_by core next.job taking now) ≡ false
    by_taking PassOver = refl
    by_taking Drop = refl
    by_taking (Take source) = from_source (repository core next.job.repo.0) source

an_ended_job : (good : Bool) (job : Option Job) → is_refusal (end_reply good job) ≡ false
an_ended_job good None = refl
an_ended_job true (Some job) = refl
an_ended_job false (Some job) = refl

no_refusal : (core : Core) (asked : Op) → is_refusal (answer_of core asked) ≡ false
no_refusal core (op.Admit virt name) = refl
no_refusal core (op.Health storage up) = refl
no_refusal core (op.Open threshold rounds voters) = refl
no_refusal core (op.Cast tx voter phase hash) =
    a_cast (answer_at (voting core tx) tx (by.cast_answer voter phase hash))
no_refusal core (op.Withdraw tx voter) = refl
no_refusal core (op.Cancel tx) = refl
no_refusal core (op.Stop tx) = refl
no_refusal core (op.Collect tx voter sub) =
    a_result sub (answer_at (voting core tx) tx (on.collect_answer voter sub))
no_refusal core (op.Outcome tx sub) =
    an_outcome (answer_at (voting core tx) tx (on.outcome_answer sub))
no_refusal core (op.Close tx) = refl
no_refusal core (op.Create virt path factor) = refl
no_refusal core (op.Enrol repo storage lease) = refl
no_refusal core (op.Begin repo) = about_what_there_is (repository core repo.0) _ (λ book. refl)
no_refusal core (op.Finish tx) = an_end (voting core tx) (push_of core tx)
no_refusal core (op.Dequeue target now) = a_job core (next_job core target.0) now
no_refusal core (op.Beat job lease now) = refl
no_refusal core (op.Ack job lease good) = an_ended_job good (job_at core job.0)
no_refusal core (op.Stale now after) = refl
no_refusal core (op.Reconcile only) = refl
no_refusal core (op.RouteRead repo) =
    about_what_there_is (repository core repo.0) _ (λ book. refl)
no_refusal core (op.SetFactor repo factor) =
    about_what_there_is (repository core repo.0) _ (λ book. refl)
no_refusal core (op.AcceptBegin repo storage) =
    about_what_there_is (repository core repo.0) _ (λ book. refl)
no_refusal core (op.Accept repo storage lease) =
    about_what_there_is (repository core repo.0) _ (λ book. refl)
no_refusal core (op.SettleBegin repo storage) =
    about_what_there_is (repository core repo.0) _ (λ book. refl)
no_refusal core (op.Settle repo storage lease last) =
    about_what_there_is (repository core repo.0) _ (λ book. refl)
no_refusal core (op.Booked repo) = about_what_there_is (repository core repo.0) _ (λ book. refl)
no_refusal core (op.Find virt path) =
    about_what_there_is (found core virt path) _ (λ repo. refl)
no_refusal core (op.Holder repo) = refl

-- so an operation that is answered a refusal was refused, and all stays
stays_by : (refusal : Option Refusal) (answer : Reply) (old done : Cluster) (why : Refusal)
    → is_refusal answer ≡ false → told refusal answer ≡ reply.Refused why
    → unless_refused refusal old done ≡ old
stays_by None answer old done why none is =
    absurd (let both : true ≡ false = sym (ap is_refusal is) ∙ none in cc)
stays_by (Some cause) answer old done why none is = refl

stays_asked : (old new : Cluster) (asked : Op) (why : Refusal)
    → IsAsked old asked (refused why) new → new ≡ old
stays_asked old new asked why is =
    let replied = is.replied in
    let same : op_reply old asked ≡ reply.Refused why = cc in
    is.leads
    ∙ stays_by (event_refusal old asked) (answer_of old.core asked) old (done_in old asked) why
    (no_refusal old.core asked) same

-- ---- deliveries

-- the reply of the core, or a refusal
abbrev is_reply : Answer → Bool
is_reply (Replied said) = true
is_reply other = false

module _ {A : Type 0} (refuses : ReplicaState → NodeRefusal → Type 0)
    (does : ReplicaState → A → ReplicaState → Type 0) (tells : A → Answer)
    (keeps : Purpose → Purpose) (none : (x : A) → is_reply (tells x) ≡ false) where
  stays_delivered : (old new : Cluster) (effect : Option Effect) (why : Refusal)
      → Delivers refuses does tells keeps old effect (refused why) new → new ≡ old
  stays_delivered old new None why is = is.1
  stays_delivered old new (Some effect) why (inl is) = is.same
  stays_delivered old new (Some effect) why (inr is) =
      absurd (let both : true ≡ false = ap is_reply is.answer_ ∙ none is.result in cc)

stays_read : (old new : Cluster) (location : Option Location) (why : Refusal)
    → ReadsRefs old location (refused why) new → new ≡ old
stays_read old new None why is = is.1
stays_read old new (Some location) why is = is.1

stays_taken : (old new : Cluster) (source : Option Location) (effect : Option Effect)
    (why : Refusal) → TakesSnapshot old source effect (refused why) new → new ≡ old
stays_taken old new source None why is = is.1
stays_taken old new None (Some effect) why is = is.1
stays_taken old new (Some source) (Some effect) why (inl is) = is.same
stays_taken old new (Some source) (Some effect) why (inr is) =
    absurd (let both : true ≡ false = ap is_reply is.answer_ in cc)

-- ---- each event

pub changes_nothing : RefusalChangesNothing
changes_nothing old new (event.Asks asked) why other is = stays_asked old new asked why is
changes_nothing old new (event.Settled repo storage lease) why other is =
    stays_asked old new (settling old repo storage lease) why is
changes_nothing old new (event.Make storage repo lease) why other is =
    stays_delivered _ _ tells_done answered (λ x. refl) old new
    (effect_of old (event.Make storage repo lease)) why is
changes_nothing old new (event.Prepare tx storage push) why other is =
    stays_delivered _ _ Voted keeps_nothing (λ x. refl) old new
    (effect_of old (event.Prepare tx storage push)) why is
changes_nothing old new (event.Commit tx storage) why other is =
    stays_delivered _ _ Voted answered (λ x. refl) old new
    (effect_of old (event.Commit tx storage)) why is
changes_nothing old new (event.Abort tx storage) why other is =
    stays_delivered _ _ tells_done keeps_nothing (λ x. refl) old new
    (effect_of old (event.Abort tx storage)) why is
changes_nothing old new (event.Refs storage repo) why other is =
    stays_read old new (location_of old repo storage) why is
changes_nothing old new (event.TakeSnapshot job lease) why other is =
    let effect = effect_of old (event.TakeSnapshot job lease) in
    stays_taken old new (source_of old job effect) effect why is
changes_nothing old new (event.Apply job lease) why other is =
    stays_delivered _ _ tells_done answered (λ x. refl) old new
    (effect_of old (event.Apply job lease)) why is
changes_nothing old new (event.Remove job lease) why other is =
    stays_delivered _ _ tells_done answered (λ x. refl) old new
    (effect_of old (event.Remove job lease)) why is
changes_nothing old new (event.Fence storage repo lease) why other is = absurd other
changes_nothing old new event.Restart why other is =
    let replied = is.replied in absurd (cc)
