-- A replica is accepted.
use Rattle.std.proofs.Common.{◌≡◌, ℕ, ◌+◌, ◌≤◌, ◌<◌, Option, Some, None, true, inl, inr, refl, sym, ◌∙◌, ap, subst, arith}
use Rattle.replica_invariant.specs.Booking.{Absent, At, Doubt}
use Rattle.replica_invariant.specs.Contents.{after}
use Rattle.replica_invariant.specs.Invariant.{Invariant, IsPushed, IsUntouched, LogClause, PushClause}
use Rattle.replica_invariant.specs.Purposes.{Creation, Fencing, Updating}
use Rattle.replica_invariant.specs.Repairs.{accepted, accepted_replica, AcceptKeeps, CanAccept, entry_of}
use Rattle.replica_invariant.specs.ReplicaClauses.{HasLevel, ReplicaClauses}
use Rattle.replica_invariant.specs.State.{Replica, Shared, State, with_value}
use Rattle.repair_events.proofs.Settle.{fence_dead, fence_idle}
use Rattle.push_events.proofs.Dead.{dead_live}
use Rattle.push_events.proofs.Later.{Later, replica_later}
use Rattle.push_events.proofs.Purposes.{idle_job, IsUpdate, source_keeps}
use Rattle.push_events.proofs.Values.{none_some, three, value_case, value_elsewhere, value_here}

-- the replica, over the log as it is afterwards
module _ (sh : Shared) (r : Replica) (answer : Option ℕ) (h : ReplicaClauses sh r)
    (purpose : r.purpose r.kept ≡ Fencing (Some answer))
    (old : ℕ) (level : r.level ≡ Some old)
    (content : (sh.entry sh.newest).content ≡ Some r.node.refs) where
  abbrev g : ℕ
  g = sh.newest

  abbrev r' : Replica
  r' = accepted_replica r g

  v : HasLevel sh r old
  v = h.node.level old level

  pub accepted_ok : ReplicaClauses sh r'
  accepted_ok = record {
    book = record {
      floor = λ f e. let z : g ≡ f = cc in omega (arith, z);
      at = λ x e. ap Some (let z : g ≡ x = cc in z);
      doubt = λ l was due e. absurd (let z : At g ≡ Doubt l was due = e in cc);
      applies = h.book.applies;
    };
    lease = record {
      kept = h.lease.kept;
      zero = h.lease.zero;
      drawn = h.lease.drawn;
      fence = λ e. h.lease.fence v.had;
      committed = h.lease.committed;
    };
    node = record {
      bare = λ e. none_some (At g ≡ Absent) (sym e);
      level = λ x e. let y : g ≡ x = cc in
          record {
            held = v.held;
            had = refl;
            newest = omega (arith, y);
            floor = λ f q. let w : g ≡ f = cc in omega (arith, w, y);
            content = subst (λ d. (sh.entry d).content ≡ Some r.node.refs) y content;
          };
      early = λ e q. none_some (Some g ≡ None) (sym q);
    };
    live = dead_live r' (fence_dead sh r answer h purpose);
    commit = record {
      begun = h.commit.begun;
      issued = h.commit.issued;
      answered = λ l a. let o = h.commit.answered l a in
          record {
            issued = o.issued;
            fence = o.fence;
            doubt = λ was due e. absurd (let z : At g ≡ Doubt l was due = e in cc);
          };
    };
    doubt = record {
      early = λ l was due e. absurd (let z : At g ≡ Doubt l was due = e in cc);
      late = λ l was due e. absurd (let z : At g ≡ Doubt l was due = e in cc);
    };
    ready = h.ready;
    create = record {
      creating = h.create.creating;
      early = h.create.early;
      made = λ l e. let o = h.create.made l e in
          record {
            fence = o.fence;
            level = λ q. absurd
                (let z : Fencing (Some answer) ≡ Creation true = sym purpose ∙ ap r.purpose q ∙ e in
                cc);
          };
      fresh = λ x y z. absurd (let w : At g ≡ Absent = z in cc);
    };
    copy = record {
      snapshot = h.copy.snapshot;
      answered =
          λ l s y x e q. absurd
          (let z : Fencing (Some answer) ≡ Updating s y x true = sym purpose ∙ ap r.purpose q ∙ e in
          cc);
    };
    fencing = h.fencing;
    job = idle_job sh r r.kept r.purpose (At g) (Some g) h (fence_idle sh r answer h purpose)
        (λ x e. none_some ⊥ (sym e));
  }

module _ (st : State) (s : ℕ) (i : Invariant st) (c : CanAccept st s) where
  abbrev sh' : Shared
  sh' = (accepted st s).shared

  abbrev n : ℕ
  n = st.shared.newest

  abbrev replica : Replica
  replica = st.replica s

  abbrev new : Replica
  new = accepted_replica replica (n + 1)

  old_entry : (d : ℕ) → d ≤ n → sh'.entry d ≡ st.shared.entry d
  old_entry d b = value_elsewhere st.shared.entry (n + 1) (entry_of replica) d (λ e. omega arith)

  new_entry : sh'.entry (n + 1) ≡ entry_of replica
  new_entry = value_here st.shared.entry (n + 1) (entry_of replica)

  later : Later st.shared sh'
  later = record {
    newest = omega arith;
    last = omega arith;
    creation = refl;
    lease = λ d b. ap (λ e. e.lease) (old_entry d b);
    hash = λ d b. ap (λ e. e.hash) (old_entry d b);
    content = λ d m b e. ap (λ x. x.content) (old_entry d b) ∙ e;
    text = λ l x. refl;
  }

  level_of : (o : Option ℕ) → replica.level ≡ o → (k : ℕ) × (replica.level ≡ Some k)
  level_of None e = absurd (c.booking ((i.replicas s).node.bare e))
  level_of (Some k) e = (k, e)

  row_ok : ReplicaClauses sh' new
  row_ok = let k = level_of replica.level refl in
      accepted_ok sh' replica c.answer
      (replica_later st.shared sh' replica later (i.replicas s)) c.purpose (k.0) (k.1)
      (ap (λ e. e.content) new_entry)

  pushed_old : (d l : ℕ) → d < n → (sh'.entry (d + 1)).lease ≡ Some l → IsPushed sh' d l
  pushed_old d l b e =
      let o : d + 1 ≤ n = omega (arith, b) in
      let q = i.log.pushed d l b (sym (ap (λ x. x.lease) (old_entry (d + 1) o)) ∙ e) in
      record {
        last = q.last;
        before = q.before;
        was = ap (λ x. x.content) (old_entry d (omega (arith, b))) ∙ q.was;
        filled = λ x f. q.filled x (sym (ap (λ y. y.content) (old_entry (d + 1) o)) ∙ f)
            ∙ ap (λ y. after q.before (st.shared.text l y.hash)) (sym (old_entry (d + 1) o));
      }

  log : LogClause sh'
  log = record {
    creation = i.log.creation;
    zero_lease = ap (λ x. x.lease) (old_entry 0 (omega arith)) ∙ i.log.zero_lease;
    zero_content = λ a. ap (λ x. x.content) (old_entry 0 (omega arith)) ∙ i.log.zero_content a;
    given = λ d b e f. elim (three d (n + 1)) [
      | inl lt ↦ let o : d ≤ n = omega (arith, lt) in
          i.log.given d o (sym (ap (λ x. x.lease) (old_entry d o)) ∙ e)
          (sym (ap (λ x. x.content) (old_entry d o)) ∙ f)
      | inr w ↦
          elim w [
            | inl eq ↦
                none_some ⊥ (sym f ∙ ap (λ x. (sh'.entry x).content) eq ∙ ap (λ x. x.content) new_entry)
            | inr gt ↦ absurd (omega (arith, gt, b))
          ]
    ];
    pushed = λ d l b e. elim (three d n) [
      | inl lt ↦ pushed_old d l lt e
      | inr w ↦ elim w [
        | inl eq ↦
            none_some (IsPushed sh' d l)
            (sym (ap (λ x. x.lease) new_entry) ∙ ap (λ x. (sh'.entry (x + 1)).lease) (sym eq) ∙ e)
        | inr gt ↦ absurd (omega (arith, gt, b))
      ]
    ];
  }

  keeps : Invariant (accepted st s)
  keeps = record {
    source =
        source_keeps st.replica (with_value st.replica s new)
        (λ x f. value_case
        (λ y w. (st.replica y).floor ≡ Some f → (z : ℕ) × (w.floor ≡ Some z)
        × (f ≤ z)) st.replica s new x
        (λ e. (n + 1, refl, (let b = (i.replicas s).book.floor f e in omega (arith, b))))
        (λ m e. (f, e, omega arith)))
        (λ t l a y. value_case
        (λ z w. IsUpdate (w.purpose l) a y
        → IsUpdate ((st.replica z).purpose l) a y) st.replica s new t (λ v. v)
        (λ z v. v)) i.source;
    shape = record {
      some = i.shape.some;
      known = i.shape.known;
      fresh = λ x. value_case (λ y w. st.admitted ≤ y → IsUntouched w) st.replica s new x
          (λ b. absurd (c.booking (i.shape.fresh s b).booking)) (λ m. i.shape.fresh x);
    };
    log = log;
    replicas =
        λ x. value_case (λ y w. ReplicaClauses sh' w) st.replica s new x row_ok
        (λ m. replica_later st.shared sh' (st.replica x) later (i.replicas x));
    blank = λ a. absurd
        (let z : At (n + 1) ≡ Absent = sym (ap (λ w. w.booking) (value_here st.replica s new))
        ∙ a s in cc);
    turn = λ p e. none_some (PushClause sh' (with_value st.replica s new) p) (sym c.turn ∙ e);
  }

pub accept_keeps : AcceptKeeps
accept_keeps st s i c = keeps st s i c
