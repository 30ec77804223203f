-- The end of a job: a good end of an update books its target, that of a delete leaves the book, and
-- a bad end leaves the job.
use Rattle.std.proofs.Common.{◌≡◌, ◌==◌, ℕ, not, true, false, Option, Some, refl, sym, ◌∙◌, ap, subst, is_some}
use Rattle.std.specs.Option.{option_map}
use Rattle.px_ops.specs.declared.booking.Booking.TheVariants as booked_as
use Rattle.px_ops.specs.declared.job.Job.{Job}
use Rattle.px_ops.specs.declared.job.JobKind.{JobKind}
use Rattle.px_ops.specs.declared.job.JobKind.TheVariants.{Delete, Update}
use Rattle.px_ops.specs.declared.op.Op.TheVariants as op
use Rattle.px_ops.specs.declared.refusal.Refusal.TheVariants as refusal
use Rattle.px_cluster.specs.Acknowledged.{is_answered, work_answered}
use Rattle.px_cluster.specs.Book.{Replica, Repository, booked, is_assigned_in, kept_in, with_replica_on}
use Rattle.px_cluster.specs.Cluster.{Cluster}
use Rattle.px_cluster.specs.Core.{job_at, with_repository_by}
use Rattle.px_cluster.specs.Jobs.{ended_job, is_in_progress, with_end_booked, without_job}
use Rattle.px_cluster.specs.Ledger.{is_worked}
use Rattle.px_cluster.specs.Ops.{refusal_of}
use Rattle.replica_invariant.specs.Jobs.{ended}
use Rattle.replica_invariant.specs.Purposes.{Updating}
use Rattle.replica_invariant.specs.State.{Running, State, with_replica, with_value}
use Rattle.safe_states.specs.Happens.{EndsUpdate}
use Rattle.cluster_form.proofs.Among.{IsAmong, found_among}
use Rattle.cluster_form.proofs.Induction.{first_none}
use Rattle.cluster_history.specs.Goes.{GoesOn, IsSound}
use Rattle.cluster_history.specs.History.{Whole, with_value_at}
use Rattle.cluster_history.specs.Remembered.{by_end, if_known}
use Rattle.cluster_history.specs.Seen.{is_update, seen_job, state_of}
use Rattle.cluster_history.proofs.Books.{changed_elsewhere, changed_here}
use Rattle.cluster_history.proofs.Frame.{once_to, same_replica, same_state}
use Rattle.cluster_history.proofs.OneReplica.{value_elsewhere, value_here}
use Rattle.job_steps.specs.Jobs.{AckGoesOn}
use Rattle.job_steps.proofs.JobReplica.{IsForReplica, for_replica}
use Rattle.job_steps.proofs.OneJob.{Change, IsOfOne, job_goes, replica_after, state_after, whole_after}
use Rattle.job_steps.proofs.Queues.{gone_elsewhere, gone_here}
use Rattle.job_steps.proofs.QueueChanges.{bad_end_goes, left_goes}
use Rattle.job_steps.proofs.Workers.{in_progress, second_none, unless_so, update_answered, worker_is}

-- ---- a good end, of a worker that has the lease, and whose work the node answered

module _ (whole : Whole) (sound : IsSound whole) (lease : ℕ) (job : Job)
    (among : IsAmong job whole.cluster.core.jobs) (runs : is_in_progress job.state ≡ true)
    (under : job.lease ≡ lease)
    (worked : is_worked job.number.0 (whole.cluster.ledger job.repo.0 job.target.0 lease)
    ≡ true) where
  abbrev c : Cluster
  c = whole.cluster

  abbrev r : ℕ
  r = job.repo.0

  abbrev t : ℕ
  t = job.target.0

  abbrev g : ℕ
  g = job.generation.0

  at : IsForReplica whole job
  at = for_replica whole sound job among

  abbrev st : State
  st = state_of whole r at.book

  abbrev to_generation : Replica → Replica
  to_generation = booked (booked_as.At job.generation)

  abbrev change : Change
  change = record {
    last = at.book.last;
    replicas = (with_replica_on t to_generation at.book).replicas;
    replica = to_generation at.replica;
    jobs = (without_job job.number c.core).jobs;
    ledger = c.ledger;
    worked = c.worked;
    floor = with_value_at whole.history.floor r t (Some g);
  }

  -- the floors of this repository
  floor_here : (x : ℕ) → change.floor r x ≡ with_value (whole.history.floor r) t (Some g) x
  floor_here x = ap (λ f. f x)
      (value_here whole.history.floor r (with_value (whole.history.floor r) t (Some g)))

  -- only the target changes
  of_one : IsOfOne whole r t at.book change
  of_one = record {
    here = changed_here to_generation (λ x. refl) at.book t ∙ ap (option_map to_generation) at.on;
    elsewhere = λ x differs. changed_elsewhere to_generation (λ x. refl) at.book t x differs;
    there = ap (λ (o : Option Replica). is_some o) at.on;
    assigned = ap is_assigned_in (sym at.on);
    jobs = gone_elsewhere job c.core.jobs sound.form.core.jobs.order among;
    ledgers = λ x differs. refl;
    uses = λ x differs. refl;
    floors = λ x differs. value_elsewhere whole.history.floor r _ x differs;
    floors_here = λ x differs. floor_here x
        ∙ value_elsewhere (whole.history.floor r) t (Some g) x differs;
  }

  -- it is seen as after the end of an update
  replica_is : replica_after whole r t at.book change ≡ ended (st.replica t) g
  replica_is = same_replica (replica_after whole r t at.book change) (ended (st.replica t) g)
      (ap kept_in (sym at.on)) refl
      (floor_here t ∙ value_here (whole.history.floor r) t (Some g)) refl refl refl refl
      (ap (option_map seen_job) (gone_here job c.core.jobs sound.form.core.jobs.order among))

  -- and so is the repository
  state_is : state_after whole r t at.book change ≡ with_replica st t (ended (st.replica t) g)
  state_is = same_state (state_after whole r t at.book change)
      (with_replica st t (ended (st.replica t) g)) refl refl refl
      (ap (with_value st.replica t) replica_is) refl

  -- an update
  update_ends : is_update job.kind ≡ true → GoesOn whole (whole_after whole r t at.book change)
  update_ends update =
      let running : (seen_job job).state ≡ Running lease =
      in_progress job.state job.lease runs ∙ ap Running under in
      let drawn = (at.may.clause.running lease running).purpose.update update in
      let answered = update_answered (whole.history.read_at r t lease) job.number.0
      (c.ledger r t lease) drawn.0 g drawn.1 drawn.2 drawn.3 worked in
      job_goes whole r t at.book change of_one at.known
      (once_to st (with_replica st t (ended (st.replica t) g))
      (state_after whole r t at.book change) state_is
      (EndsUpdate st t (seen_job job) lease drawn.0 drawn.1 (record {
        job_ = at.has;
        update = update;
        running = running;
        purpose = drawn.3 ∙ ap (Updating drawn.0 g drawn.1) answered;
      })))

  -- an update or a delete
  ends_well : (kind : JobKind) → job.kind ≡ kind → GoesOn whole (record {
    cluster = record c { core = with_end_booked job kind (without_job job.number c.core) };
    history = by_end whole.history job kind;
  })
  ends_well Update is = subst (λ (o : Option Repository). GoesOn whole (record {
    cluster = record c {
      core = with_repository_by o r (with_replica_on t to_generation)
          (without_job job.number c.core);
    };
    history = by_end whole.history job Update;
  })) (sym at.known) (update_ends (ap is_update is))
  ends_well Delete is =
      left_goes whole sound (λ (x : Job). not (x.number.0 == job.number.0))

-- ---- the operation

pub an_end_goes_on : AckGoesOn
an_end_goes_on number lease true whole sound accepted =
    let c = whole.cluster in
    let asked = op.Ack number lease true in
    let worker = worker_is number lease (job_at c.core number.0)
    (first_none (refusal_of c.core asked) _ accepted) in
    let answered : work_answered c lease (job_at c.core number.0) ≡ true =
    unless_so (is_answered c asked) refusal.NotAcked
    (second_none (refusal_of c.core asked) _ accepted) in
    subst (λ (o : Option Job). GoesOn whole (record {
      cluster = record c { core = ended_job true o c.core };
      history = if_known whole.history o (λ (x : Job). by_end whole.history x x.kind);
    })) (sym worker.is) (ends_well whole sound lease worker.job
    (found_among (λ (x : Job). x.number.0 == number.0) c.core.jobs worker.job worker.is) worker.runs
    worker.under (sym (ap (work_answered c lease) worker.is) ∙ answered) worker.job.kind refl)
an_end_goes_on number lease false whole sound accepted =
    let c = whole.cluster in
    let worker = worker_is number lease (job_at c.core number.0)
    (first_none (refusal_of c.core (op.Ack number lease false)) _ accepted) in
    subst (λ (o : Option Job).
    GoesOn whole (record whole { cluster = record c { core = ended_job false o c.core } }))
    (sym worker.is) (bad_end_goes whole sound worker.job.number)
