-- A worker asks for the next job of its storage: there is none, it is dropped, or an update or a
-- delete is taken.
use Rattle.std.proofs.Common.{◌≡◌, ◌==◌, ◌+◌, ℕ, not, List, Bool, true, false, Option, None, Some, refl, sym, ◌∙◌, ap, subst, find, is_some}
use Rattle.std.specs.Option.{option_map}
use Rattle.px_ops.specs.declared.booking.Booking.TheVariants as booked_as
use Rattle.px_ops.specs.declared.job.Job.{Job}
use Rattle.px_ops.specs.declared.job.JobKind.{JobKind}
use Rattle.px_ops.specs.declared.job.JobKind.TheVariants.{Delete, Update}
use Rattle.px_cluster.specs.Book.{Replica, Repository, booked, booking_in, drawn_for, is_assigned_in, is_on, replica_on, with_lease_for, with_replica_on}
use Rattle.px_cluster.specs.Cluster.{Cluster, with_value as with_destination}
use Rattle.px_cluster.specs.Core.{repository, with_repository}
use Rattle.px_cluster.specs.Issues.{issues_taking, issues_work, issues_work_in, purpose_of}
use Rattle.px_cluster.specs.Jobs.{with_job_changed}
use Rattle.px_cluster.specs.Ledger.{with_purpose}
use Rattle.px_cluster.specs.Taking.{Drop, Next, PassOver, Take, Taking, as_taken, book_as_taken, dequeued, dequeued_by, may_be_taken, next_job, taken_in, taking, taking_by, taking_in}
use Rattle.replica_invariant.specs.Booking.{Absent, Booking}
use Rattle.replica_invariant.specs.Jobs.{IsNoMember, delete_taken, draw_at, taken, update_taken}
use Rattle.replica_invariant.specs.Purposes.{Deleting, Purpose, Updating}
use Rattle.replica_invariant.specs.State.{Job as SeenJob, Running, State, Waiting, with_value}
use Rattle.safe_states.specs.Happens.{TakesDelete, TakesUpdate}
use Rattle.cluster_form.proofs.Among.{IsAmong, next_is}
use Rattle.cluster_form.proofs.JobLists.{LeavesJob}
use Rattle.cluster_form.proofs.Lists.{some_is}
use Rattle.cluster_history.specs.Goes.{GoesOn, IsSound}
use Rattle.cluster_history.specs.History.{Whole}
use Rattle.cluster_history.specs.Seen.{is_update, seen_booking, seen_job, seen_purpose, state_of}
use Rattle.cluster_history.proofs.Books.{changed_elsewhere, changed_here}
use Rattle.cluster_history.proofs.Frame.{looks_itself, once_to, same_functions, same_replica, same_state}
use Rattle.cluster_history.proofs.OneReplica.{ledger_beside, ledger_here, ledger_other, purpose_seen}
use Rattle.cluster_history.proofs.OneRepository.{none_goes}
use Rattle.job_steps.specs.Jobs.{DequeueGoesOn}
use Rattle.job_steps.proofs.JobReplica.{IsForReplica, for_replica}
use Rattle.job_steps.proofs.Newest.{assigned_newest, not_seen_at}
use Rattle.job_steps.proofs.OneJob.{Change, IsOfOne, job_goes, replica_after, state_after, whole_after}
use Rattle.job_steps.proofs.Queues as queue
use Rattle.job_steps.proofs.QueueChanges.{left_goes}
use Rattle.job_steps.proofs.Taking.{IsDelete, IsUpdate, delete_is, may_take, next_taking, outside, seen_outside, update_is, waits}

-- ---- a job is taken

module _ (whole : Whole) (sound : IsSound whole) (job : Job) (source : Option ℕ) (now target : ℕ)
    (among : IsAmong job whole.cluster.core.jobs)
    (may : may_be_taken whole.cluster.core target job ≡ true) where
  abbrev c : Cluster
  c = whole.cluster

  abbrev r : ℕ
  r = job.repo.0

  abbrev t : ℕ
  t = job.target.0

  at : IsForReplica whole job
  at = for_replica whole sound job among

  abbrev book : Repository
  book = at.book

  abbrev lease : ℕ
  lease = book.last + 1

  abbrev st : State
  st = state_of whole r book

  abbrev change_to : List Replica → Replica → Change
  change_to replicas replica = record {
    last = lease;
    replicas = replicas;
    replica = replica;
    jobs = (with_job_changed job.number (as_taken book source now) c.core).jobs;
    ledger = with_purpose c.ledger r t lease (purpose_of job book source);
    worked = with_destination c.worked job.number.0 (Some (record { repo = r; number = t }));
    floor = whole.history.floor;
  }

  -- the job stays the one of its repository and target
  leaves : LeavesJob (as_taken book source now)
  leaves = record { number = λ x. refl; repo = λ x. refl; target = λ x. refl }

  -- only the target changes
  of_one : (replicas : List Replica) (replica : Replica)
      → find (is_on t) replicas ≡ Some replica
      → ((x : ℕ) → (x ≡ t → ⊥) → find (is_on x) replicas ≡ replica_on book x)
      → replica.assigned ≡ at.replica.assigned
      → IsOfOne whole r t book (change_to replicas replica)
  of_one replicas replica here elsewhere assigned = record {
    here = here;
    elsewhere = elsewhere;
    there = ap (λ (o : Option Replica). is_some o) at.on;
    assigned = assigned ∙ ap is_assigned_in (sym at.on);
    jobs = queue.changed_elsewhere job c.core.jobs sound.form.core.jobs.order among
        (as_taken book source now) leaves;
    ledgers = ledger_other c.ledger r t lease (purpose_of job book source);
    uses = λ x differs. same_functions _ _
        (λ l. ledger_beside c.ledger r t lease (purpose_of job book source) x l differs);
    floors = λ x differs. refl;
    floors_here = λ x differs. refl;
  }

  -- where that leads
  module _ (replicas : List Replica) (replica : Replica) (purpose : Purpose) (update : Bool)
      (booking : Booking) (kept : replica.kept ≡ lease)
      (books : seen_booking replica.booking ≡ booking)
      (drawn : seen_purpose (whole.history.read_at r t lease) (purpose_of job book source)
      ≡ purpose)
      (kind : is_update job.kind ≡ update) where
    -- the target is seen as one of which a job is taken
    replica_is : replica_after whole r t book (change_to replicas replica)
        ≡ taken (st.replica t) lease purpose update book.newest booking
    replica_is = same_replica (replica_after whole r t book (change_to replicas replica))
        (taken (st.replica t) lease purpose update book.newest booking) kept books
        refl refl refl refl
        (same_functions _ _ (λ l. ap (seen_purpose (whole.history.read_at r t l))
        (ledger_here c.ledger r t lease (purpose_of job book source) l)
        ∙ purpose_seen (whole.history.read_at r t) (c.ledger r t) lease
        (purpose_of job book source) l
        ∙ ap (λ p. with_value (st.replica t).purpose lease p l) drawn))
        (ap (option_map seen_job) (queue.changed_here job c.core.jobs
        sound.form.core.jobs.order among (as_taken book source now) leaves)
        ∙ ap (λ (b : Bool). let x : Option SeenJob = Some (record {
          update = b;
          generation = book.newest;
          state = Running lease;
        }) in x) kind)

    -- and so is the repository
    state_is : state_after whole r t book (change_to replicas replica)
        ≡ draw_at st t (taken (st.replica t) lease purpose update book.newest booking)
    state_is = same_state (state_after whole r t book (change_to replicas replica))
        (draw_at st t (taken (st.replica t) lease purpose update book.newest booking))
        refl refl refl (ap (with_value st.replica t) replica_is) refl

  -- no member of the open push
  no_member : IsNoMember st t
  no_member = seen_outside c.core _ t (outside c.core target job may)

  waiting : (seen_job job).state ≡ Waiting
  waiting = waits c.core target job may

  abbrev drawn_book : Repository
  drawn_book = with_lease_for t book

  abbrev drawn : Replica
  drawn = drawn_for lease at.replica

  -- the lease is drawn for the target
  drawn_here : replica_on drawn_book t ≡ Some drawn
  drawn_here = changed_here (drawn_for lease) (λ x. refl) book t
      ∙ ap (option_map (drawn_for lease)) at.on

  -- .. alone
  drawn_elsewhere : (x : ℕ) → (x ≡ t → ⊥) → replica_on drawn_book x ≡ replica_on book x
  drawn_elsewhere x differs = changed_elsewhere (drawn_for lease) (λ y. refl) book t x differs

  -- an update is taken
  updates : is_update job.kind ≡ true → IsUpdate book t source
      → GoesOn whole (whole_after whole r t book (change_to drawn_book.replicas drawn))
  updates kind is = job_goes whole r t book (change_to drawn_book.replicas drawn)
      (of_one drawn_book.replicas drawn drawn_here drawn_elsewhere refl) at.known
      (once_to st (update_taken st t is.from)
      (state_after whole r t book (change_to drawn_book.replicas drawn))
      (state_is drawn_book.replicas drawn (Updating is.from book.newest None false) true
      (st.replica t).booking refl
      (ap (λ (o : Option Replica). seen_booking (booking_in o)) (sym at.on))
      (ap (λ o. seen_purpose (whole.history.read_at r t lease) (purpose_of job book o))
      is.source_) kind)
      (TakesUpdate st t is.from (record {
        source_ = is.current;
        known = at.may.known;
        behind = not_seen_at book.newest _ is.behind;
        outside = no_member;
        waits = λ other under there runs. (
            let same : seen_job job ≡ other = some_is (seen_job job) other (sym at.has ∙ there) in
            let z : Waiting ≡ Running under =
            sym waiting ∙ ap (λ (x : SeenJob). x.state) same ∙ runs in cc);
      })))

  abbrev absent_book : Repository
  absent_book = with_replica_on t (booked booked_as.Absent) drawn_book

  abbrev absent : Replica
  absent = booked booked_as.Absent drawn

  -- a delete is taken, and its target is booked absent
  deletes : is_update job.kind ≡ false → IsDelete book t source
      → GoesOn whole (whole_after whole r t book (change_to absent_book.replicas absent))
  deletes kind is = job_goes whole r t book (change_to absent_book.replicas absent)
      (of_one absent_book.replicas absent
      (changed_here (booked booked_as.Absent) (λ x. refl) drawn_book t
      ∙ ap (option_map (booked booked_as.Absent)) drawn_here)
      (λ x differs. changed_elsewhere (booked booked_as.Absent) (λ y. refl) drawn_book t x differs
      ∙ drawn_elsewhere x differs) refl) at.known
      (once_to st (delete_taken st t)
      (state_after whole r t book (change_to absent_book.replicas absent))
      (state_is absent_book.replicas absent (Deleting false) false Absent refl refl
      (ap (λ o. seen_purpose (whole.history.read_at r t lease) (purpose_of job book o))
      is.source_) kind)
      (TakesDelete st t (record {
        known = at.may.known;
        current = assigned_newest book is.newest;
        unassigned = is.unassigned;
        outside = no_member;
        job = (
          job.generation.0,
          at.has ∙ (λ i. let x : Option SeenJob = Some (record {
            update = kind i;
            generation = job.generation.0;
            state = waiting i;
          }) in x),
        );
      })))

  -- an update or a delete
  by_kind : (kind : JobKind) → job.kind ≡ kind → taking_by c.core book job kind ≡ Take source
      → GoesOn whole (record {
        cluster = record (issues_work_in c job source (Some book)) {
          core = with_job_changed job.number (as_taken book source now)
              (with_repository r (book_as_taken job kind book) c.core);
        };
        history = whole.history;
      })
  by_kind Update is takes =
      updates (ap is_update is) (update_is c.core book at.dense job source takes)
  by_kind Delete is takes = deletes (ap is_update is) (delete_is c.core book job source takes)

  -- whatever it is taken for
  pub takes : taking_in c.core (repository c.core r) job ≡ Take source → GoesOn whole (record {
    cluster = record (issues_work_in c job source (repository c.core r)) {
      core = taken_in (repository c.core r) job source now c.core;
    };
    history = whole.history;
  })
  takes is = subst (λ (o : Option Repository). GoesOn whole (record {
    cluster = record (issues_work_in c job source o) { core = taken_in o job source now c.core };
    history = whole.history;
  })) (sym at.known) (by_kind job.kind refl (ap (λ o. taking_in c.core o job) (sym at.known) ∙ is))

-- ---- the operation

module _ (whole : Whole) (sound : IsSound whole) (target now : ℕ) where
  -- nothing happens
  nothing_goes : GoesOn whole whole
  nothing_goes = none_goes whole whole refl (λ repo book there. looks_itself whole repo book)

  -- by what becomes of the job
  by_taking : (job : Job) (how : Taking) → IsAmong job whole.cluster.core.jobs
      → taking whole.cluster.core target job ≡ how → GoesOn whole (record {
        cluster = record (issues_taking whole.cluster job how) {
          core = dequeued_by job how now whole.cluster.core;
        };
        history = whole.history;
      })
  by_taking job PassOver among is = nothing_goes
  by_taking job Drop among is =
      left_goes whole sound (λ (x : Job). not (x.number.0 == job.number.0))
  by_taking job (Take source) among is =
      let may = may_take whole.cluster.core target job source is in
      takes whole sound job source now target among may.0 may.1

  -- by whether there is one
  by_next : (next : Option Next) → next_job whole.cluster.core target ≡ next
      → GoesOn whole (record {
        cluster = record (issues_work whole.cluster next) {
          core = dequeued next now whole.cluster.core;
        };
        history = whole.history;
      })
  by_next None is = nothing_goes
  by_next (Some next) is = by_taking next.job next.taking
      (next_is whole.cluster.core target whole.cluster.core.jobs next is)
      (next_taking whole.cluster.core target whole.cluster.core.jobs next is)

pub a_dequeue_goes_on : DequeueGoesOn
a_dequeue_goes_on target now whole sound accepted =
    by_next whole sound target.0 now (next_job whole.cluster.core target.0) refl
