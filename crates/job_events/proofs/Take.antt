-- An update is taken.
use Rattle.std.proofs.Common.{◌≡◌, ℕ, ◌+◌, ◌≤◌, ◌<◌, Some, None, true, false, inl, inr, refl, sym, ◌∙◌, ap, subst, arith}
use Rattle.replica_invariant.specs.Booking.{Absent, At}
use Rattle.replica_invariant.specs.Invariant.{Invariant, IsUntouched, MemberClause, PushClause, SourceClause}
use Rattle.replica_invariant.specs.Jobs.{CanTakeUpdate, draw_at, taken, TakeUpdateKeeps, with_job}
use Rattle.replica_invariant.specs.Purposes.{Apply, Commit, Fencing, Purpose, Pushing, Updating}
use Rattle.replica_invariant.specs.ReplicaClauses.{FitsApply, FitsEffect, IsRunning, JobClause, ReplicaClauses}
use Rattle.replica_invariant.specs.State.{Job, OpenPush, Replica, Running, Shared, State, with_value}
use Rattle.job_events.proofs.Jobs.{with_job_ok}
use Rattle.push_events.proofs.Draw.{drawn_ok}
use Rattle.push_events.proofs.Later.{Later, replica_later}
use Rattle.push_events.proofs.Purposes.{IsPush, push_over, IsUpdate}
use Rattle.push_events.proofs.Values.{none_some, three, value_case, value_elsewhere, value_here}
use Rattle.replica_invariant.specs.Creations.{drawn}

-- an event that draws a lease for one storage which is no member
module _ (st : State) (t : ℕ) (r' : Replica) (i : Invariant st)
    (ok : ReplicaClauses (record st.shared { last = st.shared.last + 1 }) r')
    (known : t < st.admitted)
    (outside : (p : OpenPush) → st.turn ≡ Some p → p.members t ≡ false)
    (floor : r'.floor ≡ (st.replica t).floor)
    (other : ((x : ℕ) → (with_value st.replica t r' x).booking ≡ Absent) → ⊥)
    (sources : (k a g : ℕ) → IsUpdate (r'.purpose k) a g → SourceClause st.replica t a g)
    (pushes : (k w : ℕ) → IsPush (r'.purpose k) w → IsPush ((st.replica t).purpose k) w) where
  abbrev sh' : Shared
  sh' = record st.shared { last = st.shared.last + 1 }

  later : Later st.shared sh'
  later = record {
    newest = omega arith;
    last = omega arith;
    creation = refl;
    lease = λ d b. refl;
    hash = λ d b. refl;
    content = λ d x b e. e;
    text = λ a b. refl;
  }

  floors : (x : ℕ) → (with_value st.replica t r' x).floor ≡ (st.replica x).floor
  floors x = value_case (λ y r. r.floor ≡ (st.replica y).floor) st.replica t r' x floor (λ n. refl)

  not_member : (p : OpenPush) → st.turn ≡ Some p → p.members t ≡ true → ⊥
  not_member p e m = let z : false ≡ true = sym (outside p e) ∙ m in cc

  turn_ok : (p : OpenPush) → st.turn ≡ Some p → PushClause sh' (with_value st.replica t r') p
  turn_ok p e = let y = i.turn p e in record {
    some = y.some;
    named = λ k n o a. value_case
        (λ v w. w.purpose p.lease ≡ Pushing n o a → p.members v ≡ true) st.replica t r' k
        (λ q. let v = pushes p.lease n (o, a, q) in y.named t n (v.0) (v.1) (v.2))
        (λ z. y.named k n o a);
    undecided = y.undecided;
    told = y.told;
    decided = λ h d. let v = y.decided h d in
        record { newest = v.newest; lease = v.lease; hash = v.hash };
    member =
        λ k. value_case
        (λ v w. p.members v ≡ true → MemberClause p (p.told v) (p.cast v) w) st.replica t r' k
        (λ q. absurd (not_member p e q)) (λ n. y.member k);
    first = λ a k d f. let q = y.first a k d (sym (floors k) ∙ f) in (
      q.0,
      q.1,
      value_case
          (λ v w. p.members v ≡ true → (st.replica v).booking ≡ At (p.begun + 1)
          → w.booking ≡ At (p.begun + 1)) st.replica t r' (q.0) (λ m z. absurd (not_member p e m))
          (λ n m z. z) q.1 q.2,
    );
  }

  pub draw_event : Invariant (draw_at st t r')
  draw_event = record {
    source = λ x l a g o b e. let v =
        value_case
        (λ y r. IsUpdate (r.purpose l) a g → SourceClause st.replica y a g) st.replica t r' x
        (sources l a g) (λ n w. i.source x l a g (w.0) (w.1) (w.2)) (o, b, e) in
        record { other = v.other; floor = (v.floor.0, floors a ∙ v.floor.1, v.floor.2) };
    shape = record {
      some = i.shape.some;
      known = i.shape.known;
      fresh = λ x. value_case (λ y r. st.admitted ≤ y → IsUntouched r) st.replica t r' x
          (λ b. absurd (omega (arith, b, known))) (λ n. i.shape.fresh x);
    };
    log = record {
      creation = omega (arith, i.log.creation);
      zero_lease = i.log.zero_lease;
      zero_content = i.log.zero_content;
      given = i.log.given;
      pushed = λ n k b e. let q = i.log.pushed n k b e in
          record {
            last = omega (arith, q.last);
            before = q.before;
            was = q.was;
            filled = q.filled;
          };
    };
    replicas =
        λ x. value_case (λ y r. ReplicaClauses sh' r) st.replica t r' x ok
        (λ n. replica_later st.shared sh' (st.replica x) later (i.replicas x));
    blank = λ a. absurd (other a);
    turn = turn_ok;
  }

module _ (st : State) (t s : ℕ) (i : Invariant st) (c : CanTakeUpdate st t s) where
  abbrev r : Replica
  r = st.replica t

  abbrev n : ℕ
  n = st.shared.newest

  abbrev l : ℕ
  l = st.shared.last + 1

  abbrev purpose : Purpose
  purpose = Updating s n None false

  abbrev sh2 : Shared
  sh2 = record st.shared { last = l }

  h : ReplicaClauses sh2 (with_job r None)
  h = with_job_ok sh2 r None
      (replica_later st.shared sh2 r
      (record {
        newest = omega arith;
        last = omega arith;
        creation = refl;
        lease = λ d b. refl;
        hash = λ d b. refl;
        content = λ d x b e. e;
        text = λ a b. refl;
      }) (i.replicas t))
      (λ k e. none_some (JobClause n r.kept r.purpose r.booking r.floor k) e)

  below : (x : ℕ) → r.booking ≡ At x → x < n
  below x e =
      elim (three x n) [
        | inl lt ↦ lt
        | inr w ↦
            elim w [
              | inl q ↦ absurd (c.behind (e ∙ ap At q))
              | inr gt ↦
                  absurd (omega (arith, gt, (i.replicas t).book.floor x ((i.replicas t).book.at x e)))
            ]
      ]

  fit : FitsApply (with_job r None) n
  fit = record {
    at = below;
    doubt = λ a w d e. ((i.replicas t).book.doubt a w d e).newest;
    floor = (i.replicas t).book.floor;
  }

  drawn_replica : ReplicaClauses sh2 (drawn (with_job r None) l purpose)
  drawn_replica =
      drawn_ok sh2 (with_job r None) l purpose h refl (omega (arith, (i.replicas t).lease.kept))
      (omega (arith, i.log.creation)) refl refl
      (λ m x a q. absurd (let z : Updating s n None false ≡ Pushing m x a = q in cc))
      (λ g q. let z : n ≡ g = cc in omega (arith, z))
      (λ e q. subst (λ y. FitsEffect (with_job r None) l y) (let z : Apply n ≡ e = cc in z) fit)
      (λ m x q. let z : Apply n ≡ Commit m x = cc in cc)
      (λ j k a b. none_some ⊥ a)
      (λ a g x b q. ((let z : None ≡ x = cc in sym z), (let z : false ≡ b = cc in sym z)))
      (λ y e. let z : Updating s n None false ≡ Fencing (Some y) = e in cc)

  abbrev job : Job
  job = record { update = true; generation = n; state = Running l }

  running : JobClause n l (with_value r.purpose l purpose) r.booking r.floor job
  running = record {
    generation = omega arith;
    deleting = λ u. absurd (let z : true ≡ false = u in cc);
    running =
        λ k e. subst (λ v. IsRunning l (with_value r.purpose l purpose v) r.booking r.floor job v)
        (let z : Running l ≡ Running k = e in let w : l ≡ k = cc in w) (record {
          lease = refl;
          purpose =
              record {
                update = λ u. (s, None, false, value_here r.purpose l purpose);
                delete = λ u. absurd (let z : true ≡ false = u in cc);
              };
          low = λ u f q. (i.replicas t).book.floor f q;
          at = λ u q. c.behind q;
          doubt = λ u a w d q. ((i.replicas t).book.doubt a w d q).newest;
          absent = λ u. absurd (let z : true ≡ false = u in cc);
        });
  }

  replica : ReplicaClauses sh2 (taken r l purpose true n r.booking)
  replica =
      with_job_ok sh2 (drawn (with_job r None) l purpose) (Some job) drawn_replica
      (λ j e. subst (λ v. JobClause n l (with_value r.purpose l purpose) r.booking r.floor v)
      (let z : job ≡ j = cc in z) running)

  apart : s ≡ t → ⊥
  apart e = c.behind (subst (λ v. (st.replica v).booking ≡ At n) e c.source_)

  take : Invariant (draw_at st t (taken r l purpose true n r.booking))
  take = draw_event st t (taken r l purpose true n r.booking) i replica c.known c.outside refl
      (λ a. let z : At n ≡ Absent = sym c.source_
      ∙ sym (ap (λ v. v.booking)
      (value_elsewhere st.replica t (taken r l purpose true n r.booking) s apart)) ∙ a s in cc)
      (λ k a g. value_case
      (λ v d. IsUpdate d a g → SourceClause st.replica t a g) r.purpose l purpose k
      (λ q. let w : Updating s n None false ≡ Updating a g (q.0) (q.1) = q.2 in
      let e1 : s ≡ a = cc in let e2 : n ≡ g = cc in
      subst (λ v. SourceClause st.replica t v g) e1
      (subst (λ v. SourceClause st.replica t s v) e2
      (record { other = apart; floor = (n, (i.replicas s).book.at n c.source_, omega arith) })))
      (λ z q. i.source t k a g (q.0) (q.1) (q.2)))
      (push_over r.purpose l purpose
      (λ w q. absurd (let z : Updating s n None false ≡ Pushing w (q.0) (q.1) = q.2 in cc)))

pub take_update_keeps : TakeUpdateKeeps
take_update_keeps st t s i c = take st t s i c
