-- Each move of the cluster is to each of its repositories a list of events of that one repository, or
-- its creation.
use Rattle.std.proofs.Common.{◌≡◌, Option, None, Some, refl, sym, ◌∙◌, ap, subst}
use Rattle.px_ops.specs.declared.op.Op.{Op}
use Rattle.px_ops.specs.declared.op.Op.TheVariants as op
use Rattle.px_ops.specs.declared.refusal.Refusal.{Refusal}
use Rattle.px_cluster.specs.Acknowledged.{done_in, event_refusal}
use Rattle.px_cluster.specs.Astray.{GoesAstray, Happens, IsLost, Unanswered}
use Rattle.px_cluster.specs.Cluster.{Cluster}
use Rattle.px_cluster.specs.Events.{Answer, Event}
use Rattle.px_cluster.specs.Events as event
use Rattle.px_cluster.specs.Ops.{unless_refused}
use Rattle.px_cluster.specs.Step.{IsAsked, Step, settling}
use Rattle.cluster_history.specs.Goes.{GoesOn, IsOneList, IsSound, OpGoesOn}
use Rattle.cluster_history.specs.History.{Whole}
use Rattle.cluster_history.specs.Remembered.{after_asking, after_move, by_op}
use Rattle.cluster_history.proofs.Effects.{nothing_goes}
use Rattle.book_steps.proofs.Accepting.{a_replica_is_accepted}
use Rattle.book_steps.proofs.Admitted.{an_admission_goes_on}
use Rattle.book_steps.proofs.Creating.{a_creation_goes_on}
use Rattle.book_steps.proofs.Enrol.{an_enrolment_goes_on}
use Rattle.book_steps.proofs.Factor.{a_factor_is_set}
use Rattle.book_steps.proofs.Fencing.{a_settling_begins, an_acceptance_begins}
use Rattle.book_steps.proofs.Settling.{a_replica_is_settled}
use Rattle.delivery_steps.proofs.Apply.{apply_goes, unanswered_apply_goes}
use Rattle.delivery_steps.proofs.Commit.{commit_goes, unanswered_commit_goes}
use Rattle.delivery_steps.proofs.Fence.{fence_goes, unanswered_fence_goes}
use Rattle.delivery_steps.proofs.Loss.{loss_goes}
use Rattle.delivery_steps.proofs.Make.{make_goes, unanswered_make_goes}
use Rattle.delivery_steps.proofs.Pushes.{abort_goes, prepare_goes, unanswered_abort_goes, unanswered_prepare_goes}
use Rattle.delivery_steps.proofs.Refs.{refs_go}
use Rattle.delivery_steps.proofs.Remove.{remove_goes, unanswered_remove_goes}
use Rattle.delivery_steps.proofs.Snapshot.{snapshot_goes}
use Rattle.job_steps.proofs.Dequeue.{a_dequeue_goes_on}
use Rattle.job_steps.proofs.Ends.{an_end_goes_on}
use Rattle.job_steps.proofs.Planned.{a_plan_goes_on}
use Rattle.job_steps.proofs.QueueChanges.{a_beat_goes_on, stale_workers_go_on}
use Rattle.push_steps.proofs.Begun.{begin_goes}
use Rattle.push_steps.proofs.Collected.{collect_goes}
use Rattle.push_steps.proofs.Ended.{close_goes, finish_goes, restart_goes}
use Rattle.push_steps.proofs.Opened.{open_goes}
use Rattle.push_steps.proofs.Quiet.{booked_goes, find_goes, health_goes, holder_goes, outcome_goes, read_goes}
use Rattle.vote_steps.proofs.Casts.{a_cast_goes_on}
use Rattle.vote_steps.proofs.Ends.{a_cancel_goes_on, a_stop_goes_on, a_withdrawal_goes_on}
use Rattle.cluster_runs.specs.Runs.{EachMoveGoesOn}

-- ---- each operation

each_op : (asked : Op) → OpGoesOn asked
each_op (op.Admit virt name) = an_admission_goes_on virt name
each_op (op.Health storage up) = health_goes storage up
each_op (op.Open threshold rounds voters) = open_goes threshold rounds voters
each_op (op.Cast tx voter phase hash) = a_cast_goes_on tx voter phase hash
each_op (op.Withdraw tx voter) = a_withdrawal_goes_on tx voter
each_op (op.Cancel tx) = a_cancel_goes_on tx
each_op (op.Stop tx) = a_stop_goes_on tx
each_op (op.Collect tx voter sub) = collect_goes tx voter sub
each_op (op.Outcome tx sub) = outcome_goes tx sub
each_op (op.Close tx) = close_goes tx
each_op (op.Create virt path factor) = a_creation_goes_on virt path factor
each_op (op.Enrol repo storage lease) = an_enrolment_goes_on repo storage lease
each_op (op.Begin repo) = begin_goes repo
each_op (op.Finish tx) = finish_goes tx
each_op (op.Dequeue target now) = a_dequeue_goes_on target now
each_op (op.Beat job lease now) = a_beat_goes_on job lease now
each_op (op.Ack job lease good) = an_end_goes_on job lease good
each_op (op.Stale now span) = stale_workers_go_on now span
each_op (op.Reconcile only) = a_plan_goes_on only
each_op (op.RouteRead repo) = read_goes repo
each_op (op.SetFactor repo factor) = a_factor_is_set repo factor
each_op (op.AcceptBegin repo storage) = an_acceptance_begins repo storage
each_op (op.Accept repo storage lease) = a_replica_is_accepted repo storage lease
each_op (op.SettleBegin repo storage) = a_settling_begins repo storage
each_op (op.Settle repo storage lease last) = a_replica_is_settled repo storage lease last
each_op (op.Booked repo) = booked_goes repo
each_op (op.Find virt path) = find_goes virt path
each_op (op.Holder repo) = holder_goes repo

-- an operation as an event: where it is refused, nothing happens
asked_goes : (whole : Whole) (asked : Op) (answer : Answer) (new : Cluster) → IsSound whole
    → IsAsked whole.cluster asked answer new
    → GoesOn whole (record { cluster = new; history = after_asking whole asked })
asked_goes whole asked answer new sound is = by (event_refusal whole.cluster asked) refl
  where
    by : (refusal : Option Refusal) → event_refusal whole.cluster asked ≡ refusal
        → GoesOn whole (record { cluster = new; history = after_asking whole asked })
    by None none = subst (λ (w : Whole). GoesOn whole w) (λ i. record {
      cluster = sym (is.leads
          ∙ ap (λ r. unless_refused r whole.cluster (done_in whole.cluster asked)) none) i;
      history = sym (ap (λ r. unless_refused r whole.history
          (by_op whole.history whole.cluster asked)) none) i;
    }) (each_op asked whole sound none)
    by (Some why) some = subst (λ (w : Whole). GoesOn whole w) (λ i. record {
      cluster = sym (is.leads
          ∙ ap (λ r. unless_refused r whole.cluster (done_in whole.cluster asked)) some) i;
      history = sym (ap (λ r. unless_refused r whole.history
          (by_op whole.history whole.cluster asked)) some) i;
    }) (nothing_goes whole)

-- ---- each event

event_goes : (whole : Whole) (happened : Event) (answer : Answer) (new : Cluster) → IsSound whole
    → IsOneList whole happened → Step whole.cluster happened answer new
    → GoesOn whole (after_move whole (Happens happened answer) new)
event_goes whole (event.Asks asked) answer new sound one is =
    asked_goes whole asked answer new sound is
event_goes whole (event.Settled repo storage lease) answer new sound one is =
    asked_goes whole (settling whole.cluster repo storage lease) answer new sound is
event_goes whole (event.Make storage repo lease) answer new sound one is =
    make_goes storage repo lease whole answer new sound one is
event_goes whole (event.Prepare tx storage push) answer new sound one is =
    prepare_goes tx storage push whole answer new sound one is
event_goes whole (event.Commit tx storage) answer new sound one is =
    commit_goes tx storage whole answer new sound one is
event_goes whole (event.Abort tx storage) answer new sound one is =
    abort_goes tx storage whole answer new sound one is
event_goes whole (event.Refs storage repo) answer new sound one is =
    refs_go storage repo whole answer new sound one is
event_goes whole (event.TakeSnapshot job lease) answer new sound one is =
    snapshot_goes job lease whole answer new sound one is
event_goes whole (event.Apply job lease) answer new sound one is =
    apply_goes job lease whole answer new sound one is
event_goes whole (event.Remove job lease) answer new sound one is =
    remove_goes job lease whole answer new sound one is
event_goes whole (event.Fence storage repo lease) answer new sound one is =
    fence_goes storage repo lease whole answer new sound one is
event_goes whole event.Restart answer new sound one is =
    restart_goes whole answer new sound one is

-- ---- each effect whose answer is lost

astray_goes : (whole : Whole) (happened : Event) (new : Cluster) → IsSound whole
    → IsOneList whole happened → Unanswered whole.cluster happened new
    → GoesOn whole (after_move whole (GoesAstray happened) new)
astray_goes whole (event.Make storage repo lease) new sound one is =
    unanswered_make_goes storage repo lease whole new sound one is
astray_goes whole (event.Prepare tx storage push) new sound one is =
    unanswered_prepare_goes tx storage push whole new sound one is
astray_goes whole (event.Commit tx storage) new sound one is =
    unanswered_commit_goes tx storage whole new sound one is
astray_goes whole (event.Abort tx storage) new sound one is =
    unanswered_abort_goes tx storage whole new sound one is
astray_goes whole (event.Apply job lease) new sound one is =
    unanswered_apply_goes job lease whole new sound one is
astray_goes whole (event.Remove job lease) new sound one is =
    unanswered_remove_goes job lease whole new sound one is
astray_goes whole (event.Fence storage repo lease) new sound one is =
    unanswered_fence_goes storage repo lease whole new sound one is
astray_goes whole (event.Asks asked) new sound one is = absurd is
astray_goes whole (event.Settled repo storage lease) new sound one is = absurd is
astray_goes whole (event.Refs storage repo) new sound one is = absurd is
astray_goes whole (event.TakeSnapshot job lease) new sound one is = absurd is
astray_goes whole event.Restart new sound one is = absurd is

-- ---- each move

pub each_move_goes : EachMoveGoesOn
each_move_goes whole (Happens happened answer) new sound one is =
    event_goes whole happened answer new sound one is
each_move_goes whole (GoesAstray happened) new sound one is =
    astray_goes whole happened new sound one is
each_move_goes whole (IsLost storage test) new sound one is =
    subst (λ c. GoesOn whole (after_move whole (IsLost storage test) c)) (sym is)
    (loss_goes whole storage test sound)
