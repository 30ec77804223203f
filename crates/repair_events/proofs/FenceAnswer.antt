-- A fence is answered.
use Rattle.std.proofs.Common.{◌≡◌, ℕ, ◌+◌, ◌≤◌, Option, Some, None, Bool, true, false, inl, inr, refl, sym, ◌∙◌, ap, arith}
use Rattle.replica_invariant.specs.Invariant.{Invariant, MemberClause}
use Rattle.replica_invariant.specs.Purposes.{Apply, Commit, Create, Creation, Effect, effect, Fencing, is_committed, is_creation, is_job, Purpose, Pushing, Remove, Unused, Updating}
use Rattle.replica_invariant.specs.Pushes.{issued}
use Rattle.replica_invariant.specs.Repairs.{CanAnswer, fence_answered, FenceAnswerKeeps}
use Rattle.replica_invariant.specs.ReplicaClauses.{FitsEffect, IsApplied, IsSnapshot, ReadyClause, ReplicaClauses}
use Rattle.replica_invariant.specs.State.{OpenPush, ReadyPush, Replica, Shared, State, with_value}
use Rattle.push_events.proofs.OneReplica.{replica_event, later_self}
use Rattle.push_events.proofs.Changed.{re_begun, re_creating, re_drawn, re_early, re_push, re_zero}
use Rattle.push_events.proofs.Dead.{used_named}
use Rattle.push_events.proofs.Purposes.{IsPush, push_over, IsUpdate, job_over}
use Rattle.push_events.proofs.Raise.{fenced, raised_member, raised_ok}
use Rattle.push_events.proofs.Values.{none_some, value_case}

module _ (sh : Shared) (r : Replica) (l : ℕ) (x : Option (Option ℕ)) (h : ReplicaClauses sh r)
    (purpose : r.purpose l ≡ Fencing x) (reach : l ≤ r.node.fence) where
  abbrev c : Purpose
  c = Fencing (Some r.node.committed)

  abbrev r' : Replica
  r' = issued r l c

  used : r.purpose l ≡ Unused → ⊥
  used q = let z : Unused ≡ Fencing x = sym q ∙ purpose in cc

  push : (w : ℕ) → IsPush (r.purpose l) w → IsPush c w
  push w q = absurd (let z : Fencing x ≡ Pushing w (q.0) (q.1) = sym purpose ∙ q.2 in cc)

  back : (w : ℕ) → IsPush c w → IsPush (r.purpose l) w
  back w q = absurd (let z : Fencing (Some r.node.committed) ≡ Pushing w (q.0) (q.1) = q.2 in cc)

  creation : is_creation c ≡ is_creation (r.purpose l)
  creation = sym (ap is_creation purpose)

  effects : (y : ℕ) → effect (r'.purpose y) ≡ effect (r.purpose y)
  effects y =
      value_case (λ v d. effect d ≡ effect (r.purpose v)) r.purpose l c y (sym (ap effect purpose))
      (λ z. refl)

  acks : (y : ℕ) → is_committed (r'.purpose y) ≡ true → is_committed (r.purpose y) ≡ true
  acks y =
      value_case (λ v d. is_committed d ≡ true → is_committed (r.purpose v) ≡ true) r.purpose l c y
      (λ q. absurd (let z : false ≡ true = q in cc)) (λ z q. q)

  refit : (y : ℕ) (e : Effect) → FitsEffect r y e → FitsEffect r' y e
  refit y Create f = f
  refit y (Commit n z) f = record { level = f.level; floor = f.floor; booking = f.booking }
  refit y (Apply z) f = record { at = f.at; doubt = f.doubt; floor = f.floor }
  refit y Remove f = record { booking = f.booking; floor = f.floor }

  pub answered_ok : ReplicaClauses sh r'
  answered_ok = record {
    book = record {
      floor = h.book.floor;
      at = h.book.at;
      applies = λ y z e. h.book.applies y z (sym (effects y) ∙ e);
      doubt = λ y w d e. let v = h.book.doubt y w d e in
          record {
            floor = v.floor;
            next = v.next;
            newest = v.newest;
            lease = v.lease;
            purpose = re_push sh r l c h used push back creation y w v.purpose;
          };
    };
    lease = record {
      kept = h.lease.kept;
      zero = re_zero sh r l c h used push back creation;
      drawn = re_drawn sh r l c h used push back creation;
      fence = h.lease.fence;
      committed = h.lease.committed;
    };
    node = record {
      bare = h.node.bare;
      early = h.node.early;
      level = λ y e. let v = h.node.level y e in
          record {
            held = v.held;
            had = v.had;
            newest = v.newest;
            floor = v.floor;
            content = v.content;
          };
    };
    live = record {
      fits = λ y e b q. refit y e (h.live.fits y e b (sym (effects y) ∙ q));
      doubt = λ y w d e n b q. effects n ∙ h.live.doubt y w d e n b q;
      commit = λ y n z b q u d e. effects u ∙ h.live.commit y n z b (sym (effects y) ∙ q) u d e;
    };
    commit = record {
      begun = re_begun sh r l c h used push back creation;
      issued = λ y n z e. h.commit.issued y n z (sym (effects y) ∙ e);
      answered = λ y e. let v = h.commit.answered y (acks y e) in
          record { issued = λ z. v.issued (sym (effects y) ∙ z); fence = v.fence; doubt = v.doubt };
    };
    doubt = record { early = h.doubt.early; late = h.doubt.late };
    ready = h.ready;
    create = record {
      creating = re_creating sh r l c h used push back creation;
      early = re_early sh r l c h used push back creation;
      fresh = h.create.fresh;
      made = λ y e. let v =
          h.create.made y
          (value_case (λ v d. d ≡ Creation true → r.purpose v ≡ Creation true) r.purpose l c y
          (λ q. absurd (let z : Fencing (Some r.node.committed) ≡ Creation true = q in cc))
          (λ z q. q) e) in record { fence = v.fence; level = v.level };
    };
    copy = record {
      snapshot =
          λ y s g m k w. value_case
          (λ v d. d ≡ Updating s g (Some (m, k)) w → IsSnapshot sh g m k) r.purpose l c y
          (λ q. absurd
          (let z : Fencing (Some r.node.committed) ≡ Updating s g (Some (m, k)) w = q in cc))
          (λ z q. h.copy.snapshot y s g m k w q);
      answered =
          λ y s g o. value_case
          (λ v d. d ≡ Updating s g o true → r.kept ≡ v
          → IsApplied r.node.fence r.level v g) r.purpose l c y
          (λ q w. absurd (let z : Fencing (Some r.node.committed) ≡ Updating s g o true = q in cc))
          (λ z q w. h.copy.answered y s g o q w);
    };
    fencing = record {
      reached =
          λ y o. value_case (λ v d. d ≡ Fencing (Some o) → v ≤ r.node.fence) r.purpose l c y
          (λ q. reach) (λ z q. h.fencing.reached y o q);
      same = λ y o. value_case
          (λ v d. d ≡ Fencing (Some o) → r.kept ≡ v → r.node.committed ≡ o) r.purpose l c y
          (λ q w. let z : Fencing (Some r.node.committed) ≡ Fencing (Some o) = q in cc)
          (λ z q w. h.fencing.same y o q w);
    };
    job = job_over sh r l c h (ap is_job purpose);
  }

  pub answered_member : (p : OpenPush) (t y : Bool) → MemberClause p t y r → MemberClause p t y r'
  answered_member p t y d = record {
    kept = d.kept;
    purpose = re_push sh r l c h used push back creation p.lease p.begun d.purpose;
    quiet = λ n b q. effects n ∙ d.quiet n b q;
    told = λ e. let v = d.told e in record {
      decided = v.decided;
      booking = elim v.booking [
        | inl z ↦ inl z
        | inr z ↦
            inr (
              z.0,
              value_case
                  (λ v w. is_committed (r.purpose v) ≡ true → is_committed w ≡ true) r.purpose l c p.lease
                  (λ q. absurd (let u : false ≡ true = sym (ap is_committed purpose) ∙ q in cc))
                  (λ n q. q) z.1,
              z.2,
            )
      ];
    };
    untold = λ e. let v = d.untold e in record {
      booking = v.booking;
      level = v.level;
      committed = v.committed;
      purpose =
          value_case
          (λ u w. r.purpose u ≡ Pushing p.begun None false
          → w ≡ Pushing p.begun None false) r.purpose l c p.lease
          (λ q. absurd (let z : Fencing x ≡ Pushing p.begun None false = sym purpose ∙ q in cc))
          (λ n q. q) v.purpose;
    };
  }

module _ (st : State) (t l f : ℕ) (o : Option ReadyPush) (i : Invariant st)
    (c2 : CanAnswer (st.replica t) l f o) where
  abbrev w : Replica
  w = st.replica t

  abbrev sh2 : Shared
  sh2 = st.shared

  named : l ≤ w.kept
  named = used_named sh2 w (i.replicas t).lease l
      (λ e. absurd (let z : Unused ≡ Fencing (c2.purpose.0) = sym e ∙ c2.purpose.1 in cc))

  bound : w.had ≡ true → f ≤ w.kept + 1
  bound e =
      elim c2.least [
        | inl q ↦ omega (arith, q, named)
        | inr q ↦ omega (arith, q, (i.replicas t).lease.fence e)
      ]

  ready : (p : ReadyPush) → o ≡ Some p → ReadyClause sh2 (fenced w f o).node p
  ready p e = elim c2.ready_ [
    | inl n ↦ none_some (ReadyClause sh2 (fenced w f o).node p) (sym n ∙ e)
    | inr q ↦ let v = (i.replicas t).ready p (sym q.0 ∙ e) in
        record { held = v.held; fence = q.1 ∙ v.fence; content = v.content; text = v.text }
  ]

  fence_raised : ReplicaClauses sh2 (fenced w f o)
  fence_raised = raised_ok sh2 w f o (i.replicas t) c2.up bound ready

  keeps : Invariant (record st { replica = with_value st.replica t (fence_answered w l f o) })
  keeps = replica_event st sh2 t (fence_answered w l f o) i (later_self sh2) refl refl i.log
      (answered_ok sh2 (fenced w f o) l (c2.purpose.0) fence_raised c2.purpose.1 c2.reach)
      (λ q. absurd
      (let z : Unused ≡ Fencing (c2.purpose.0) = sym (q.purpose l) ∙ c2.purpose.1 in
      cc)) refl refl refl
      (λ k a n. value_case (λ v d. IsUpdate d a n → IsUpdate (w.purpose v) a n) w.purpose l
      (Fencing (Some w.node.committed)) k
      (λ q. absurd
      (let z : Fencing (Some w.node.committed) ≡ Updating a n (q.0) (q.1) = q.2 in cc))
      (λ z q. q))
      (push_over w.purpose l (Fencing (Some w.node.committed))
      (λ n q. absurd
      (let z : Fencing (Some w.node.committed) ≡ Pushing n (q.0) (q.1) = q.2 in cc)))
      (λ p e m. answered_member sh2 (fenced w f o) l
      (c2.purpose.0) fence_raised c2.purpose.1 c2.reach p (p.told t) (p.cast t)
      (raised_member sh2 w f o (i.replicas t) c2.up bound ready p (p.told t) (p.cast t)
      ((i.turn p e).member t m)))

pub fence_answer_keeps : FenceAnswerKeeps
fence_answer_keeps st t l f o i c = keeps st t l f o i c
