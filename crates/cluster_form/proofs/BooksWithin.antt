-- The numbers of a repository stay within what was given, at each change of its book.
use Rattle.std.proofs.Common.{◌≡◌, ◌≤◌, ◌+◌, ◌==◌, ℕ, List, [], ◌∷◌, Bool, true, false, if◌then◌else◌, Option, None, Some, map, arith}
use Rattle.std.specs.List.{AllByRecursion}
use Rattle.std.specs.Str.{bytes_eq}
use Rattle.px_base.specs.Hash.{same_hash}
use Rattle.px_base.specs.declared.hash.Hash.{Hash}
use Rattle.px_base.specs.declared.ids.Gen.{Gen}
use Rattle.px_base.specs.declared.phase.Phase.{Phase}
use Rattle.px_base.specs.declared.phase.Phase.TheVariants.{Prepared, Committed}
use Rattle.px_ops.specs.declared.booking.Booking.{Booking}
use Rattle.px_ops.specs.declared.booking.Booking.TheVariants.{Absent, At, Doubt}
use Rattle.px_ops.specs.declared.job.Job.{Job}
use Rattle.px_ops.specs.declared.job.JobKind.{JobKind}
use Rattle.px_ops.specs.declared.job.JobKind.TheVariants.{Update, Delete}
use Rattle.txmanager.specs.Voting.{Voting}
use Rattle.voters.specs.declared.outcome.Outcome.{Outcome}
use Rattle.voters.specs.declared.outcome.Outcome.TheVariants as outcome
use Rattle.px_cluster.specs.Book.{Replica, Repository, booked, drawn_for, generation, in_doubt, is_absent, is_on, storages_of, with_lease_for, with_replica_on}
use Rattle.px_cluster.specs.Casts.{booked_by, booked_by_commit, booked_by_outcomes, confirmed, confirmed_as, confirmed_on, in_doubt_if_told, is_told, member_named}
use Rattle.px_cluster.specs.Core.{Core, OpenPush}
use Rattle.px_cluster.specs.Creating.{created_on, enrolled, unmade, unrecorded, with_storage}
use Rattle.px_cluster.specs.Factor.{reassigned}
use Rattle.px_cluster.specs.Numbers.{is_one_of}
use Rattle.px_cluster.specs.Pushes.{drawn_for_members, prepared_outcome}
use Rattle.px_cluster.specs.Repairs.{accepted, is_lease, settled, settled_as}
use Rattle.px_cluster.specs.Taking.{book_as_taken}
use Rattle.cluster_form.specs.Within.{IsBookWithin, IsReplicaWithin, IsWithin}
use Rattle.cluster_form.proofs.Lists.{all_both, all_map, choose}

-- ---- bookings

module _ (newest last more later : ℕ) (grows : newest ≤ more) (draws : last ≤ later) where
  pub still_within : (booking : Booking) → IsWithin newest last booking → IsWithin more later booking
  still_within Absent is = tt
  still_within (At g) is = omega (arith, is, grows)
  still_within (Doubt lease was due) is =
      let under = is.0 in
      let before = is.1 in
      let after_ = is.2 in (
        omega (arith, under, draws),
        omega (arith, before, grows),
        omega (arith, after_, grows),
      )

  pub still_so : (replica : Replica) → IsReplicaWithin newest last replica
      → IsReplicaWithin more later replica
  still_so replica is = record {
    kept = (let kept = is.kept in omega (arith, kept, draws));
    booking = still_within replica.booking is.booking;
  }

-- what is held at least is no more than newest
generation_within : (newest last : ℕ) (booking : Booking) → IsWithin newest last booking
    → generation booking ≤ newest
generation_within newest last Absent is = omega arith
generation_within newest last (At g) is = is
generation_within newest last (Doubt lease was due) is = is.1

-- ---- a change of replicas

-- with other newest and last numbers
abbrev Takes : (newest last more later : ℕ) → (Replica → Replica) → Type 0
Takes newest last more later change = (r : Replica) → IsReplicaWithin newest last r
    → IsReplicaWithin more later (change r)

where_passes : (newest last more later : ℕ) → newest ≤ more → last ≤ later
    → (test : Replica → Bool) (change : Replica → Replica) → Takes newest last more later change
    → Takes newest last more later (λ r. if test r then change r else r)
where_passes newest last more later grows draws test change takes r is =
    choose (IsReplicaWithin more later) (test r) (change r) r (λ holds. takes r is)
    (λ fails. still_so newest last more later grows draws r is)

rebooked : (newest last more later : ℕ) → last ≤ later → (becomes : Booking → Booking)
    → ((b : Booking) → IsWithin newest last b → IsWithin more later (becomes b))
    → Takes newest last more later (λ r. booked (becomes r.booking) r)
rebooked newest last more later draws becomes on r is = record {
  kept = (let kept = is.kept in omega (arith, kept, draws));
  booking = on r.booking is.booking;
}

redrawn : (newest last later lease : ℕ) → last ≤ later → lease ≤ later
    → Takes newest last newest later (drawn_for lease)
redrawn newest last later lease draws drawn r is = record {
  kept = drawn;
  booking = still_within newest last newest later (omega arith) draws r.booking is.booking;
}

abbrev pub KeepsWithin : (Repository → Repository) → Type 0
KeepsWithin change = (book : Repository) → IsBookWithin book → IsBookWithin (change book)

module _ (book : Repository) (is : IsBookWithin book) where
  -- replicas changed, and newest and last numbers that did not fall
  changed_within : (more later creation : ℕ) (primary : Option ℕ) (change : Replica → Replica)
      → creation ≤ later → Takes book.newest book.last more later change
      → IsBookWithin (record book {
        newest = more;
        last = later;
        creation = creation;
        primary = primary;
        replicas = map change book.replicas;
      })
  changed_within more later creation primary change created takes = record {
    creation = created;
    replicas = all_map (IsReplicaWithin book.newest book.last) (IsReplicaWithin more later) change
        book.replicas takes is.replicas;
  }

  on_one : (storage : ℕ) (change : Replica → Replica)
      → Takes book.newest book.last book.newest book.last change
      → IsBookWithin (with_replica_on storage change book)
  on_one storage change takes = changed_within book.newest book.last book.creation book.primary _
      is.creation (where_passes book.newest book.last book.newest book.last (omega arith)
      (omega arith) (is_on storage) change takes)

  pub enrolled_within : (storage : ℕ) → IsBookWithin (with_replica_on storage enrolled book)
  enrolled_within storage = on_one storage enrolled
      (where_passes book.newest book.last book.newest book.last (omega arith) (omega arith)
      (λ r. is_absent r.booking) _
      (rebooked book.newest book.last book.newest book.last (omega arith) _
      (λ b was. omega arith)))

  draws_within : (storage : ℕ) → IsBookWithin (with_lease_for storage book)
  draws_within storage =
      changed_within book.newest (book.last + 1) book.creation book.primary _
      (let created = is.creation in omega (arith, created))
      (where_passes book.newest book.last book.newest (book.last + 1) (omega arith) (omega arith)
      (is_on storage) (drawn_for (book.last + 1))
      (redrawn book.newest book.last (book.last + 1) (book.last + 1) (omega arith) (omega arith)))

  pub accepted_within : (storage : ℕ) → IsBookWithin (accepted storage book)
  accepted_within storage =
      changed_within (book.newest + 1) book.last book.creation book.primary _ is.creation
      (where_passes book.newest book.last (book.newest + 1) book.last (omega arith) (omega arith)
      (is_on storage) _
      (rebooked book.newest book.last (book.newest + 1) book.last (omega arith) _
      (λ b was. omega arith)))

  settled_booking : (last : Option ℕ) (b : Booking) → IsWithin book.newest book.last b
      → IsWithin book.newest book.last (settled_as last b)
  settled_booking last Absent was = tt
  settled_booking last (At g) was = was
  settled_booking last (Doubt lease before due) was =
      choose (IsWithin book.newest book.last) (is_lease lease last) (At due) (At before)
      (λ holds. was.2) (λ fails. was.1)

  pub settled_within : (storage : ℕ) (last : Option ℕ)
      → IsBookWithin (with_replica_on storage (settled last) book)
  settled_within storage last = on_one storage (settled last)
      (rebooked book.newest book.last book.newest book.last (omega arith) (settled_as last)
      (settled_booking last))

  pub ended_within : (storage : ℕ) (g : Gen) → g.0 ≤ book.newest
      → IsBookWithin (with_replica_on storage (booked (At g)) book)
  ended_within storage g within = on_one storage (booked (At g))
      (rebooked book.newest book.last book.newest book.last (omega arith) _ (λ b was. within))

  pub reassigned_within : (core : Core) (factor : ℕ) → IsBookWithin (reassigned core factor book)
  reassigned_within core factor =
      changed_within book.newest book.last book.creation book.primary _ is.creation
      (λ r was. record { kept = was.kept; booking = was.booking })

  pub created_within : (storages : List ℕ) → IsBookWithin (created_on storages book)
  created_within storages =
      changed_within book.newest (book.last + 1) (book.last + 1) book.primary _ (omega arith)
      (λ r was. record {
        kept = choose (λ n. n ≤ book.last + 1) (is_one_of r.storage storages) (book.last + 1) r.kept
            (λ holds. omega arith) (λ fails. let kept = was.kept in omega (arith, kept));
        booking = still_within book.newest book.last book.newest (book.last + 1) (omega arith)
            (omega arith) r.booking was.booking;
      })

  pub begun_within : (push : OpenPush) → push.lease ≡ book.last + 1
      → IsBookWithin (drawn_for_members push book)
  begun_within push next = changed_within book.newest push.lease book.creation _ _
      (let created = is.creation in omega (arith, created, next))
      (where_passes book.newest book.last book.newest push.lease (omega arith)
      (omega (arith, next)) (λ r. is_one_of r.storage push.members) (drawn_for push.lease)
      (redrawn book.newest book.last push.lease push.lease (omega (arith, next)) (omega arith)))

  pub admitted_within : (virt : List ℕ) (storage : ℕ) → IsBookWithin (with_storage virt storage book)
  admitted_within virt storage = choose IsBookWithin (bytes_eq book.virt virt) _ book
      (λ holds. record {
        creation = is.creation;
        replicas = all_both (IsReplicaWithin book.newest book.last) book.replicas _ is.replicas
            (record { kept = omega arith; booking = tt }, tt);
      }) (λ fails. is)

pub lease_within : (storage : ℕ) → KeepsWithin (with_lease_for storage)
lease_within storage book is = draws_within book is storage

pub taken_within : (job : Job) (kind : JobKind) → KeepsWithin (book_as_taken job kind)
taken_within job Update book is = draws_within book is job.target.0
taken_within job Delete book is =
    let drawn = with_lease_for job.target.0 book in
    on_one drawn (draws_within book is job.target.0) job.target.0 (booked Absent)
    (rebooked drawn.newest drawn.last drawn.newest drawn.last (omega arith) _ (λ b was. tt))

pub unmade_within : (core : Core) (virt path : List ℕ) → IsBookWithin (unmade core virt path)
unmade_within core virt path =
    record { creation = omega arith; replicas = all_unrecorded (storages_of core.storages virt) }
  where
    all_unrecorded : (storages : List ℕ)
        → AllByRecursion (IsReplicaWithin 0 0) (map unrecorded storages)
    all_unrecorded [] = tt
    all_unrecorded (storage ∷ storages) =
        (record { kept = omega arith; booking = tt }, all_unrecorded storages)

-- ---- votes

module _ (push : OpenPush) (book : Repository) (is : IsBookWithin book)
    (drawn : push.lease ≤ book.last) where
  told_within : (vote : Voting) (more : ℕ) → book.newest ≤ more
      → Takes book.newest book.last more book.last (in_doubt_if_told push vote more)
  told_within vote more grows =
      where_passes book.newest book.last more book.last grows (omega arith)
      (λ r. is_told push vote r.storage) (in_doubt push.lease more)
      (rebooked book.newest book.last more book.last (omega arith) _ (λ b was.
      let before = generation_within book.newest book.last b was in
      (drawn, omega (arith, before, grows), omega arith)))

  late_within : (vote : Voting) (storage : Option ℕ) (before : Hash) (now : Outcome)
      → IsBookWithin (booked_by_outcomes push vote storage (outcome.Commit before) now book)
  late_within vote None before now = is
  late_within vote (Some storage) before now =
      on_one book is storage _ (told_within vote book.newest (omega arith))

  by_outcomes : (vote : Voting) (storage : Option ℕ) (before now : Outcome)
      → IsBookWithin (booked_by_outcomes push vote storage before now book)
  by_outcomes vote storage outcome.Open (outcome.Commit hash) =
      changed_within book is (book.newest + 1) book.last book.creation book.primary _ is.creation
      (told_within vote (book.newest + 1) (omega arith))
  by_outcomes vote storage (outcome.Commit before) now = late_within vote storage before now
  by_outcomes vote storage before now = is

  confirmed_booking : (b : Booking) → IsWithin book.newest book.last b
      → IsWithin book.newest book.last (confirmed_as push.lease b)
  confirmed_booking Absent was = tt
  confirmed_booking (At g) was = was
  confirmed_booking (Doubt under before due) was =
      choose (IsWithin book.newest book.last) (under == push.lease) (At due)
      (Doubt under before due) (λ holds. was.2) (λ fails. was)

  confirmed_within : (storage : Option ℕ) → IsBookWithin (confirmed_on push storage book)
  confirmed_within None = is
  confirmed_within (Some storage) = on_one book is storage (confirmed push.lease)
      (rebooked book.newest book.last book.newest book.last (omega arith) (confirmed_as push.lease)
      confirmed_booking)

  by_commit : (storage : Option ℕ) (hash : Hash) (now : Outcome)
      → IsBookWithin (booked_by_commit push storage hash now book)
  by_commit storage hash (outcome.Commit decided_) = by (same_hash decided_ hash)
    where
      by : (b : Bool)
          → IsBookWithin ((if b then confirmed_on push storage else (λ repo. repo)) book)
      by true = confirmed_within storage
      by false = is
  by_commit storage hash now = is

  pub cast_within : (name : List ℕ) (phase : Phase) (hash : Hash) (old new : Voting)
      → IsBookWithin (booked_by push name phase hash old new book)
  cast_within name Prepared hash old new = by_outcomes new (member_named push old name)
      (prepared_outcome old) (prepared_outcome new)
  cast_within name Committed hash old new =
      by_commit (member_named push old name) hash (prepared_outcome old)
