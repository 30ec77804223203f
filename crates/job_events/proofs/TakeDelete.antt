-- A delete is taken.
use Rattle.std.proofs.Common.{◌≡◌, ℕ, ◌+◌, ◌≤◌, ◌<◌, Some, None, true, false, inl, refl, sym, ◌∙◌, ap, subst, arith}
use Rattle.replica_invariant.specs.Booking.{Absent, At, Doubt}
use Rattle.replica_invariant.specs.Invariant.{SourceClause}
use Rattle.replica_invariant.specs.Jobs.{TakeDeleteKeeps, taken}
use Rattle.replica_invariant.specs.Purposes.{Apply, Commit, Create, Creation, Deleting, Effect, effect, Fencing, is_committed, is_creation, Purpose, Pushing, Remove, Unused, Updating}
use Rattle.replica_invariant.specs.ReplicaClauses.{FitsEffect, IsAnswered, IsApplied, IsIssued, IsMade, IsRunning, IsSnapshot, JobClause, QuietBelow, ReplicaClauses}
use Rattle.replica_invariant.specs.State.{Job, Replica, Running, Shared, Waiting}
use Rattle.job_events.proofs.Take.{draw_event}
use Rattle.push_events.proofs.Dead.{used_named}
use Rattle.push_events.proofs.Later.{replica_later}
use Rattle.push_events.proofs.Purposes.{push_over, fence_over, IsUpdate}
use Rattle.push_events.proofs.Values.{none_some, value_case, value_elsewhere, value_here}

module _ (sh : Shared) (r : Replica) (l : ℕ) (h : ReplicaClauses sh r) (last : l ≡ sh.last)
    (new : r.kept < l) (creation : sh.creation < l) (floor : r.floor ≡ None → ⊥) where
  abbrev c : Purpose
  c = Deleting false

  abbrev job : Job
  job = record { update = false; generation = sh.newest; state = Running l }

  abbrev r' : Replica
  r' = taken r l c false sh.newest Absent

  old : (k : ℕ) → (r.purpose k ≡ Unused → ⊥) → k ≤ r.kept
  old k u = used_named sh r h.lease k u

  quiet : (k : ℕ) → k ≤ r.kept → QuietBelow r k → QuietBelow r' k
  quiet k b q x a y =
      value_case (λ v d. r.node.fence ≤ v → v < k → effect d ≡ None) r.purpose l c x
      (λ s t. absurd (omega (arith, t, b, new))) (λ z s t. q x s t) a y

  no : (a w d : ℕ) → Absent ≡ Doubt a w d → ⊥
  no a w d e = cc

  fits : (k : ℕ) (e : Effect) → FitsEffect r k e → FitsEffect r' k e
  fits k Create x = x
  fits k (Commit n y) x = record { level = x.level; floor = x.floor; booking = inl refl }
  fits k (Apply g) x =
      record {
        at = λ y e. absurd (let z : Absent ≡ At y = e in cc);
        doubt = λ a w d e. absurd (no a w d e);
        floor = x.floor;
      }
  fits k Remove x = record { booking = refl; floor = x.floor }

  acks : (k : ℕ) → is_committed (r'.purpose k) ≡ true → IsAnswered r' k
  acks k e =
      let q = value_case
      (λ v d. is_committed d ≡ true → (effect d ≡ None → ⊥)
      × (v < r.node.fence)) r.purpose l c k (λ q. absurd (let z : false ≡ true = q in cc))
      (λ z q. let v = h.commit.answered k q in (v.issued, v.fence)) e in
      record { issued = q.0; fence = q.1; doubt = λ w d e. absurd (no k w d e) }

  running : JobClause sh.newest l r'.purpose Absent r.floor job
  running = record {
    generation = omega arith;
    deleting = λ u. floor;
    running =
        λ k e. subst (λ v. IsRunning l (r'.purpose v) Absent r.floor job v)
        (let z : Running l ≡ Running k = e in let w : l ≡ k = cc in w) (record {
          lease = refl;
          absent = λ u. refl;
          purpose =
              record {
                update = λ u. absurd (let z : false ≡ true = u in cc);
                delete = λ u. (false, value_here r.purpose l c);
              };
          low = λ u. absurd (let z : false ≡ true = u in cc);
          at = λ u. absurd (let z : false ≡ true = u in cc);
          doubt = λ u. absurd (let z : false ≡ true = u in cc);
        });
  }

  pub deleting_ok : ReplicaClauses sh r'
  deleting_ok = record {
    book = record {
      floor = h.book.floor;
      at = λ g e. absurd (let z : Absent ≡ At g = e in cc);
      doubt = λ a w d e. absurd (no a w d e);
      applies =
          λ k g e. value_case (λ v d. effect d ≡ Some (Apply g) → g ≤ sh.newest) r.purpose l c k
          (λ q. absurd (let z : Remove ≡ Apply g = cc in cc)) (λ z q. h.book.applies k g q) e;
    };
    lease = record {
      kept = omega (arith, last);
      committed = h.lease.committed;
      zero = value_elsewhere r.purpose l c 0 (λ z. absurd (omega (arith, z, new))) ∙ h.lease.zero;
      drawn = λ k b. value_elsewhere r.purpose l c k (λ z. absurd (omega (arith, z, b)))
          ∙ h.lease.drawn k (omega (arith, new, b));
      fence = λ e. omega (arith, h.lease.fence e, new);
    };
    node = record {
      bare = λ e. refl;
      early = h.node.early;
      level = λ k e. let v = h.node.level k e in
          record {
            held = v.held;
            had = v.had;
            newest = v.newest;
            floor = v.floor;
            content = v.content;
          };
    };
    live = record {
      fits = λ k e a q. value_case
          (λ v d. r.node.fence ≤ v → effect d ≡ Some e → FitsEffect r' v e) r.purpose l c k
          (λ s t. subst (λ y. FitsEffect r' l y) (let z : Remove ≡ e = cc in z)
          (record { booking = refl; floor = floor }))
          (λ z s t. fits k e (h.live.fits k e s t)) a q;
      doubt = λ a w d e. absurd (no a w d e);
      commit =
          λ k n x a q. value_case
          (λ v d. r.node.fence ≤ v → effect d ≡ Some (Commit n x) → QuietBelow r' v) r.purpose l c k
          (λ s t. absurd (let z : Remove ≡ Commit n x = cc in cc))
          (λ z s t. quiet k (old k (λ y. none_some ⊥ (sym (ap effect y) ∙ t)))
          (h.live.commit k n x s t)) a q;
    };
    commit = record {
      begun = λ k n x a e. value_case (λ v d. d ≡ Pushing n x a → n ≤ sh.newest) r.purpose l c k
          (λ q. absurd (let z : Deleting false ≡ Pushing n x a = q in cc))
          (λ z q. h.commit.begun k n x a q) e;
      issued =
          λ k n x e. value_case
          (λ v d. effect d ≡ Some (Commit n x) → IsIssued sh v n x) r.purpose l c k
          (λ q. absurd (let z : Remove ≡ Commit n x = cc in cc)) (λ z q. h.commit.issued k n x q) e;
      answered = acks;
    };
    doubt = record {
      early = λ a w d e. absurd (no a w d e);
      late = λ a w d e. absurd (no a w d e);
    };
    ready = h.ready;
    create = record {
      creating =
          λ k e. value_case (λ v d. is_creation d ≡ true → v ≤ sh.creation) r.purpose l c k
          (λ q. absurd (let z : false ≡ true = q in cc)) (λ z q. h.create.creating k q) e;
      early = λ k b e. value_case
          (λ v d. v ≤ sh.creation → is_creation d ≡ false → d ≡ Unused) r.purpose l c k
          (λ s t. absurd (omega (arith, s, creation))) (λ z s t. h.create.early k s t) b e;
      made = λ k e. value_case (λ v d. d ≡ Creation true → IsMade r' v) r.purpose l c k
          (λ q. absurd (let z : Deleting false ≡ Creation true = q in cc))
          (λ z q. let v = h.create.made k q in
          record { fence = v.fence; level = λ y. absurd (z (sym y)) }) e;
      fresh = λ a b d. absurd (omega (arith, b, creation));
    };
    copy = record {
      snapshot =
          λ k s g m y a e. value_case
          (λ v d. d ≡ Updating s g (Some (m, y)) a → IsSnapshot sh g m y) r.purpose l c k
          (λ q. absurd (let z : Deleting false ≡ Updating s g (Some (m, y)) a = q in cc))
          (λ z q. h.copy.snapshot k s g m y a q) e;
      answered =
          λ k s g x e q. value_case
          (λ v d. d ≡ Updating s g x true → l ≡ v
          → IsApplied r.node.fence r.level v g) r.purpose l c k
          (λ z w. absurd (let t : Deleting false ≡ Updating s g x true = z in cc))
          (λ z w t. absurd (z (sym t))) e q;
    };
    fencing =
        fence_over r.purpose l c r.kept r.node.fence l r.node.fence r.node.committed
        r.node.committed h.fencing (λ y e. let z : Deleting false ≡ Fencing (Some y) = e in cc)
        (omega arith) (λ k z w q. absurd (z (sym q)));
    job = λ j e. subst (λ v. JobClause sh.newest l r'.purpose Absent r.floor v)
        (let z : job ≡ j = cc in z) running;
  }

pub take_delete_keeps : TakeDeleteKeeps
take_delete_keeps st t i c =
    let r = st.replica t in let l = st.shared.last + 1 in
    let sh : Shared = record st.shared { last = st.shared.last + 1 } in
    let h : ReplicaClauses sh r =
    replica_later st.shared sh r
    (record {
      newest = omega arith;
      last = omega arith;
      creation = refl;
      lease = λ d b. refl;
      hash = λ d b. refl;
      content = λ d x b e. e;
      text = λ a b. refl;
    }) (i.replicas t) in
    let s = i.shape.some.0 in
    let cur = c.current s i.shape.some.1 in
    let apart : s ≡ t
    → ⊥ = λ e. absurd
    (let z : true ≡ false = sym i.shape.some.1 ∙ ap st.assigned e ∙ c.unassigned in cc) in
    draw_event st t (taken r l (Deleting false) false st.shared.newest Absent) i
    (deleting_ok sh r l h refl (omega (arith, (i.replicas t).lease.kept))
    (omega (arith, i.log.creation))
    (((i.replicas t).job
    (record { update = false; generation = c.job.0; state = Waiting }) c.job.1).deleting refl))
    c.known c.outside refl
    (λ a. let z : At st.shared.newest ≡ Absent = sym cur
    ∙ sym (ap (λ v. v.booking)
    (value_elsewhere st.replica t
    (taken r l (Deleting false) false st.shared.newest Absent) s apart)) ∙ a s in cc)
    (λ k a g. value_case (λ v d. IsUpdate d a g → SourceClause st.replica t a g) r.purpose l
    (Deleting false) k
    (λ q. absurd (let w : Deleting false ≡ Updating a g (q.0) (q.1) = q.2 in cc))
    (λ z q. i.source t k a g (q.0) (q.1) (q.2)))
    (push_over r.purpose l (Deleting false)
    (λ w q. absurd (let z : Deleting false ≡ Pushing w (q.0) (q.1) = q.2 in cc)))
