-- A snapshot is read for an update.
use Rattle.std.proofs.Common.{◌≡◌, ℕ, Option, Some, None, Bool, true, false, inl, inr, refl, sym, ◌∙◌, ap, subst, arith}
use Rattle.replica_invariant.specs.Contents.{Content}
use Rattle.replica_invariant.specs.Invariant.{MemberClause}
use Rattle.replica_invariant.specs.Jobs.{SnapshotKeeps}
use Rattle.replica_invariant.specs.Purposes.{Apply, Commit, Create, Creation, Deleting, Effect, effect, Fencing, is_committed, is_creation, Purpose, Pushing, Remove, Unused, Updating}
use Rattle.replica_invariant.specs.Pushes.{issued}
use Rattle.replica_invariant.specs.ReplicaClauses.{FitsEffect, IsApplied, IsRunning, IsSnapshot, JobClause, ReplicaClauses}
use Rattle.replica_invariant.specs.State.{Job, OpenPush, Replica, Shared}
use Rattle.push_events.proofs.OneReplica.{replica_event, later_self}
use Rattle.push_events.proofs.Changed.{re_begun, re_creating, re_drawn, re_early, re_push, re_zero}
use Rattle.push_events.proofs.Purposes.{IsPush, push_over, fence_over, IsUpdate}
use Rattle.push_events.proofs.Values.{value_case}

module _ (sh : Shared) (r : Replica) (l s g : ℕ) (x : Option (Content × ℕ)) (a : Bool) (m : Content)
    (k : ℕ) (h : ReplicaClauses sh r) (purpose : r.purpose l ≡ Updating s g x a)
    (snap : IsSnapshot sh g m k) where
  abbrev c : Purpose
  c = Updating s g (Some (m, k)) a

  abbrev r' : Replica
  r' = issued r l c

  used : r.purpose l ≡ Unused → ⊥
  used q = let z : Unused ≡ Updating s g x a = sym q ∙ purpose in cc

  push : (w : ℕ) → IsPush (r.purpose l) w → IsPush c w
  push w q = absurd (let z : Updating s g x a ≡ Pushing w (q.0) (q.1) = sym purpose ∙ q.2 in cc)

  back : (w : ℕ) → IsPush c w → IsPush (r.purpose l) w
  back w q = absurd (let z : Updating s g (Some (m, k)) a ≡ Pushing w (q.0) (q.1) = q.2 in cc)

  creation : is_creation c ≡ is_creation (r.purpose l)
  creation = sym (ap is_creation purpose)

  effects : (y : ℕ) → effect (r'.purpose y) ≡ effect (r.purpose y)
  effects y =
      value_case (λ v d. effect d ≡ effect (r.purpose v)) r.purpose l c y (sym (ap effect purpose))
      (λ z. refl)

  acks : (y : ℕ) → is_committed (r'.purpose y) ≡ true → is_committed (r.purpose y) ≡ true
  acks y =
      value_case (λ v d. is_committed d ≡ true → is_committed (r.purpose v) ≡ true) r.purpose l c y
      (λ q. absurd (let z : false ≡ true = q in cc)) (λ z q. q)

  refit : (y : ℕ) (e : Effect) → FitsEffect r y e → FitsEffect r' y e
  refit y Create f = f
  refit y (Commit n z) f = record { level = f.level; floor = f.floor; booking = f.booking }
  refit y (Apply z) f = record { at = f.at; doubt = f.doubt; floor = f.floor }
  refit y Remove f = record { booking = f.booking; floor = f.floor }

  jobs : (q : Job) → r.job ≡ Some q → JobClause sh.newest r.kept r'.purpose r.booking r.floor q
  jobs q e = let v = h.job q e in record {
    generation = v.generation;
    deleting = v.deleting;
    running =
        λ y f. value_case
        (λ z d. IsRunning r.kept (r.purpose z) r.booking r.floor q z
        → IsRunning r.kept d r.booking r.floor q z) r.purpose l c y
        (λ w. record {
          lease = w.lease;
          low = w.low;
          at = w.at;
          doubt = w.doubt;
          absent = w.absent;
          purpose = record {
            update = λ u. let o = w.purpose.update u in (
              s,
              Some (m, k),
              a,
              (let z : Updating s g x a ≡ Updating (o.0) q.generation (o.1) (o.2) = sym purpose
                  ∙ o.3 in let i : g ≡ q.generation = cc in
                  ap (λ y. Updating s y (Some (m, k)) a) i),
            );
            delete = λ u. let o = w.purpose.delete u in
                absurd (let z : Updating s g x a ≡ Deleting (o.0) = sym purpose ∙ o.1 in cc);
          };
        })
        (λ n w. w) (v.running y f);
  }

  pub snapped_ok : ReplicaClauses sh r'
  snapped_ok = record {
    book = record {
      floor = h.book.floor;
      at = h.book.at;
      applies = λ y z e. h.book.applies y z (sym (effects y) ∙ e);
      doubt = λ y w d e. let v = h.book.doubt y w d e in
          record {
            floor = v.floor;
            next = v.next;
            newest = v.newest;
            lease = v.lease;
            purpose = re_push sh r l c h used push back creation y w v.purpose;
          };
    };
    lease = record {
      kept = h.lease.kept;
      zero = re_zero sh r l c h used push back creation;
      drawn = re_drawn sh r l c h used push back creation;
      fence = h.lease.fence;
      committed = h.lease.committed;
    };
    node = record {
      bare = h.node.bare;
      early = h.node.early;
      level = λ y e. let v = h.node.level y e in
          record {
            held = v.held;
            had = v.had;
            newest = v.newest;
            floor = v.floor;
            content = v.content;
          };
    };
    live = record {
      fits = λ y e b q. refit y e (h.live.fits y e b (sym (effects y) ∙ q));
      doubt = λ y w d e n b q. effects n ∙ h.live.doubt y w d e n b q;
      commit = λ y n z b q u d e. effects u ∙ h.live.commit y n z b (sym (effects y) ∙ q) u d e;
    };
    commit = record {
      begun = re_begun sh r l c h used push back creation;
      issued = λ y n z e. h.commit.issued y n z (sym (effects y) ∙ e);
      answered = λ y e. let v = h.commit.answered y (acks y e) in
          record { issued = λ z. v.issued (sym (effects y) ∙ z); fence = v.fence; doubt = v.doubt };
    };
    doubt = record { early = h.doubt.early; late = h.doubt.late };
    ready = h.ready;
    create = record {
      creating = re_creating sh r l c h used push back creation;
      early = re_early sh r l c h used push back creation;
      fresh = h.create.fresh;
      made = λ y e. let v =
          h.create.made y
          (value_case (λ v d. d ≡ Creation true → r.purpose v ≡ Creation true) r.purpose l c y
          (λ q. absurd (let z : Updating s g (Some (m, k)) a ≡ Creation true = q in cc))
          (λ z q. q) e) in record { fence = v.fence; level = v.level };
    };
    copy = record {
      snapshot =
          λ y s2 g2 m2 k2 w. value_case
          (λ v d. d ≡ Updating s2 g2 (Some (m2, k2)) w → IsSnapshot sh g2 m2 k2) r.purpose l c y
          (λ q. let e1 : g ≡ g2 = cc in let e2 : ◌≡◌ {A = Content × ℕ} (m, k) (m2, k2) = cc in
          subst (λ v. IsSnapshot sh v m2 k2) e1
          (subst (λ (v : Content × ℕ). IsSnapshot sh g (v.0) (v.1)) e2 snap))
          (λ z q. h.copy.snapshot y s2 g2 m2 k2 w q);
      answered =
          λ y s2 g2 o. value_case
          (λ v d. d ≡ Updating s2 g2 o true → r.kept ≡ v
          → IsApplied r.node.fence r.level v g2) r.purpose l c y
          (λ q b. let e1 : g ≡ g2 = cc in let e2 : a ≡ true = cc in
          subst (λ v. IsApplied r.node.fence r.level l v) e1
          (h.copy.answered l s g x (purpose ∙ ap (λ v. Updating s g x v) e2) b))
          (λ z q b. h.copy.answered y s2 g2 o q b);
    };
    fencing =
        fence_over r.purpose l c r.kept r.node.fence r.kept r.node.fence r.node.committed
        r.node.committed h.fencing
        (λ y e. let z : Updating s g (Some (m, k)) a ≡ Fencing (Some y) = e in cc) (omega arith)
        (λ k z w q. (q, refl));
    job = jobs;
  }

  pub snapped_member : (p : OpenPush) (t y : Bool) → MemberClause p t y r → MemberClause p t y r'
  snapped_member p t y d = record {
    kept = d.kept;
    purpose = re_push sh r l c h used push back creation p.lease p.begun d.purpose;
    quiet = λ n b q. effects n ∙ d.quiet n b q;
    told = λ e. let v = d.told e in record {
      decided = v.decided;
      booking = elim v.booking [
        | inl z ↦ inl z
        | inr z ↦
            inr (
              z.0,
              value_case
                  (λ v w. is_committed (r.purpose v) ≡ true → is_committed w ≡ true) r.purpose l c p.lease
                  (λ q. absurd (let u : false ≡ true = sym (ap is_committed purpose) ∙ q in cc))
                  (λ n q. q) z.1,
              z.2,
            )
      ];
    };
    untold = λ e. let v = d.untold e in record {
      booking = v.booking;
      level = v.level;
      committed = v.committed;
      purpose =
          value_case
          (λ u w. r.purpose u ≡ Pushing p.begun None false
          → w ≡ Pushing p.begun None false) r.purpose l c p.lease
          (λ q. absurd
          (let z : Updating s g x a ≡ Pushing p.begun None false = sym purpose ∙ q in cc))
          (λ n q. q) v.purpose;
    };
  }

  pub snapped_updates : (y s2 g2 : ℕ) → IsUpdate (r'.purpose y) s2 g2 → IsUpdate (r.purpose y) s2 g2
  snapped_updates y s2 g2 =
      value_case (λ v d. IsUpdate d s2 g2 → IsUpdate (r.purpose v) s2 g2) r.purpose l c y
      (λ q. (
        x,
        a,
        (let z : Updating s g (Some (m, k)) a ≡ Updating s2 g2 (q.0) (q.1) = q.2 in
            let e1 : s ≡ s2 = cc in let e2 : g ≡ g2 = cc in
            purpose ∙ ap (λ v. Updating v g x a) e1 ∙ ap (λ v. Updating s2 v x a) e2),
      ))
      (λ z q. q)

pub snapshot_keeps : SnapshotKeeps
snapshot_keeps st t l s g k x a i c =
    let r = st.replica t in let src = st.replica s in
    let purpose = c.purpose in
    let o = i.source t l s g x a purpose in let v = (i.replicas s).node.level k c.level_ in
    let snap : IsSnapshot st.shared g src.node.refs k =
    record {
      low = omega (arith, o.floor.2, v.floor (o.floor.0) o.floor.1);
      newest = v.newest;
      content = v.content;
    } in
    replica_event st st.shared t (issued r l (Updating s g (Some (src.node.refs, k)) a)) i
    (later_self st.shared) refl refl i.log
    (snapped_ok st.shared r l s g x a src.node.refs k (i.replicas t) purpose snap)
    (λ f. absurd
    (let z : Unused ≡ Updating s g x a = sym (f.purpose l) ∙ purpose in cc)) refl refl refl
    (snapped_updates st.shared r l s g x a src.node.refs k (i.replicas t) purpose snap)
    (push_over r.purpose l (Updating s g (Some (src.node.refs, k)) a)
    (λ w q. absurd
    (let z : Updating s g (Some (src.node.refs, k)) a ≡ Pushing w (q.0) (q.1) = q.2 in cc)))
    (λ p e q. snapped_member st.shared r l s g x a src.node.refs k (i.replicas t) purpose snap p
    (p.told t) (p.cast t) ((i.turn p e).member t q))
