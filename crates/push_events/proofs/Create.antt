-- The creation, the first and again.
use Rattle.std.proofs.Common.{◌≡◌, ℕ, ◌+◌, ◌≤◌, Option, Some, None, Bool, true, false, inl, inr, refl, sym, ◌∙◌, ap, subst, arith}
use Rattle.replica_invariant.specs.Booking.{Absent, At, Doubt}
use Rattle.replica_invariant.specs.Contents.{Content, empty, Updates, Vote}
use Rattle.replica_invariant.specs.Creations.{CanCreate, created, CreateKeeps, drawn, FirstCreateKeeps, opening}
use Rattle.replica_invariant.specs.Invariant.{Invariant, IsUntouched, LogClause, PushClause, SourceClause}
use Rattle.replica_invariant.specs.Purposes.{Apply, Commit, Create, Creation, Effect, effect, Fencing, is_committed, is_creation, Pushing, Remove, Unused, Updating}
use Rattle.replica_invariant.specs.ReplicaClauses.{FitsCommit, FitsEffect, IsApplied, IsIssued, IsMade, IsSnapshot, JobClause, ReplicaClauses}
use Rattle.replica_invariant.specs.State.{AtNode, Replica, Shared, State}
use Rattle.push_events.proofs.Purposes.{fence_over, IsUpdate, source_keeps, update_over}
use Rattle.push_events.proofs.Untouched.{untouched_ok}
use Rattle.push_events.proofs.Values.{choose, none_some, three, value_case, value_elsewhere}

-- what a replica is where all are absent
pub record IsUncreated (sh : Shared) (r : Replica) : Type 0 where
  pub ok : ReplicaClauses sh r
  pub booking : r.booking ≡ Absent
  pub floor : r.floor ≡ None
  pub creation : sh.creation ≡ sh.last
  pub job : r.job ≡ None

module _ (sh : Shared) (r : Replica) (b : IsUncreated sh r) where
  abbrev h : ReplicaClauses sh r
  h = b.ok

  abbrev sh' : Shared
  sh' = record sh { last = sh.last + 1; creation = sh.last + 1 }

  abbrev l : ℕ
  l = sh.last + 1

  abbrev r' : Replica
  r' = drawn r l (Creation false)

  not_doubt : (a w d : ℕ) → r.booking ≡ Doubt a w d → ⊥
  not_doubt a w d e = let z : Absent ≡ Doubt a w d = sym b.booking ∙ e in cc

  not_at : (g : ℕ) → r.booking ≡ At g → ⊥
  not_at g e = let z : Absent ≡ At g = sym b.booking ∙ e in cc

  pub beside : ReplicaClauses sh' r
  beside = record {
    book = record {
      floor = h.book.floor;
      at = h.book.at;
      applies = h.book.applies;
      doubt = λ a w d e. absurd (not_doubt a w d e);
    };
    lease = record {
      kept = omega (arith, h.lease.kept);
      zero = h.lease.zero;
      drawn = h.lease.drawn;
      fence = h.lease.fence;
      committed = h.lease.committed;
    };
    node = record {
      bare = h.node.bare;
      early = h.node.early;
      level = λ k e. let v = h.node.level k e in
          record {
            held = v.held;
            had = v.had;
            newest = v.newest;
            floor = v.floor;
            content = v.content;
          };
    };
    live = h.live;
    commit =
        record {
          begun = h.commit.begun;
          answered = h.commit.answered;
          issued = λ k n x e. let v = h.commit.issued k n x e in
              record { newest = v.newest; lease = v.lease; hash = v.hash };
        };
    doubt = h.doubt;
    ready = λ p e. let v = h.ready p e in
        record { held = v.held; fence = v.fence; content = v.content; text = v.text };
    create = record {
      creating = λ k e. omega (arith, h.create.creating k e, b.creation);
      early = λ k a e. elim
          (three sh.creation k) [
            | inl lt ↦
                h.lease.drawn k (omega (arith, lt, b.creation, h.lease.kept))
            | inr w ↦
                elim w [
                  | inl q ↦ h.create.early k (omega (arith, q)) e
                  | inr gt ↦ h.create.early k (omega (arith, gt)) e
                ]
          ];
      made = h.create.made;
      fresh = λ a q e. b.floor;
    };
    copy = record {
      answered = h.copy.answered;
      snapshot = λ k s g y z w e. let v = h.copy.snapshot k s g y z w e in
          record { low = v.low; newest = v.newest; content = v.content };
    };
    fencing = h.fencing;
    job = λ j e. none_some (JobClause sh.newest r.kept r.purpose r.booking r.floor j)
        (sym b.job ∙ e);
  }

  -- no lease is above the creation lease: nothing but creates was issued
  fits : (k : ℕ) (e : Effect) → FitsEffect r k e → FitsEffect r' k e
  fits k Create f = f
  fits k (Commit n x) f = none_some (FitsCommit r' k n) (sym b.floor ∙ f.floor)
  fits k (Apply g) f = record { at = f.at; doubt = f.doubt; floor = f.floor }
  fits k Remove f = absurd (f.floor b.floor)

  pub within : ReplicaClauses sh' r'
  within = record {
    book = record {
      floor = h.book.floor;
      at = h.book.at;
      doubt = λ a w d e. absurd (not_doubt a w d e);
      applies =
          λ k g e. value_case (λ y d. effect d ≡ Some (Apply g) → g ≤ sh.newest) r.purpose l
          (Creation false) k (λ q. absurd (let z : Create ≡ Apply g = cc in cc))
          (λ z q. h.book.applies k g q) e;
    };
    lease = record {
      kept = omega arith;
      committed = h.lease.committed;
      zero = value_elsewhere r.purpose l (Creation false) 0 (λ z. absurd (omega (arith, z)))
          ∙ h.lease.zero;
      drawn = λ k q. value_elsewhere r.purpose l (Creation false) k
          (λ z. absurd (omega (arith, z, q))) ∙ h.lease.drawn k (omega (arith, q, h.lease.kept));
      fence = λ e. omega (arith, h.lease.fence e, h.lease.kept);
    };
    node = record {
      bare = h.node.bare;
      early = h.node.early;
      level = λ k e. let v = h.node.level k e in
          record {
            held = v.held;
            had = v.had;
            newest = v.newest;
            floor = v.floor;
            content = v.content;
          };
    };
    live = record {
      fits = λ k e a q. value_case
          (λ y d. r.node.fence ≤ y → effect d ≡ Some e → FitsEffect r' y e) r.purpose l
          (Creation false) k
          (λ s t. subst (λ y. FitsEffect r' l y) (let z : Create ≡ e = cc in z) b.floor)
          (λ z s t. fits k e (h.live.fits k e s t)) a q;
      doubt = λ a w d e. absurd (not_doubt a w d e);
      commit =
          λ k n x a q. absurd
          (value_case (λ y d. r.node.fence ≤ y → effect d ≡ Some (Commit n x) → ⊥) r.purpose l
          (Creation false) k
          (λ s t. let z : Create ≡ Commit n x = cc in cc)
          (λ z s t. none_some ⊥ (sym b.floor ∙ (h.live.fits k (Commit n x) s t).floor)) a q);
    };
    commit = record {
      begun = λ k n x a e. value_case (λ y d. d ≡ Pushing n x a → n ≤ sh.newest) r.purpose l
          (Creation false) k (λ q. absurd (let z : Creation false ≡ Pushing n x a = q in cc))
          (λ z q. h.commit.begun k n x a q) e;
      issued =
          λ k n x e. value_case
          (λ y d. effect d ≡ Some (Commit n x) → IsIssued sh' y n x) r.purpose l (Creation false) k
          (λ q. absurd (let z : Create ≡ Commit n x = cc in cc))
          (λ z q. let v = h.commit.issued k n x q in
          record { newest = v.newest; lease = v.lease; hash = v.hash }) e;
      answered = λ k e. let q =
          value_case
          (λ y d. is_committed d ≡ true → (is_committed (r.purpose y) ≡ true)
          × (d ≡ r.purpose y)) r.purpose l (Creation false) k
          (λ q. absurd (let z : false ≡ true = q in cc)) (λ z q. (q, refl)) e in
          let v = h.commit.answered k q.0 in
          record {
            issued = λ z. v.issued (sym (ap effect q.1) ∙ z);
            fence = v.fence;
            doubt = λ w d e. absurd (not_doubt k w d e);
          };
    };
    doubt = record {
      early = λ a w d e. absurd (not_doubt a w d e);
      late = λ a w d e. absurd (not_doubt a w d e);
    };
    ready = λ p e. let v = h.ready p e in
        record { held = v.held; fence = v.fence; content = v.content; text = v.text };
    create = record {
      creating =
          λ k e. value_case (λ y d. is_creation d ≡ true → y ≤ l) r.purpose l (Creation false) k
          (λ q. omega arith) (λ z q. omega (arith, h.create.creating k q, b.creation)) e;
      early = λ k a e. value_case (λ y d. y ≤ l → is_creation d ≡ false → d ≡ Unused) r.purpose l
          (Creation false) k (λ s t. absurd (let z : true ≡ false = t in cc))
          (λ z s t. beside.create.early k s t) a e;
      made = λ k e. value_case (λ y d. d ≡ Creation true → IsMade r' y) r.purpose l
          (Creation false) k
          (λ q. absurd
          (let z : Creation false ≡ Creation true = q in let y : false ≡ true = cc in cc))
          (λ z q. let v = h.create.made k q in
          record { fence = v.fence; level = λ y. absurd (z (sym y)) }) e;
      fresh = λ a q e. b.floor;
    };
    copy = record {
      snapshot =
          λ k s g y z w e. value_case
          (λ v d. d ≡ Updating s g (Some (y, z)) w → IsSnapshot sh' g y z) r.purpose l
          (Creation false) k
          (λ q. absurd (let u : Creation false ≡ Updating s g (Some (y, z)) w = q in cc))
          (λ t q. let v = h.copy.snapshot k s g y z w q in
          record { low = v.low; newest = v.newest; content = v.content }) e;
      answered =
          λ k s g y e q. value_case
          (λ v d. d ≡ Updating s g y true → l ≡ v → IsApplied r.node.fence r.level v g) r.purpose l
          (Creation false) k (λ u. absurd (let z : Creation false ≡ Updating s g y true = u in cc))
          (λ t u v. absurd (t (sym v))) e q;
    };
    fencing =
        fence_over r.purpose l
        (Creation false) r.kept r.node.fence l r.node.fence r.node.committed r.node.committed
        h.fencing (λ y e. let z : Creation false ≡ Fencing (Some y) = e in cc) (omega arith)
        (λ k z w q. absurd (z (sym q)));
    job = λ j e. none_some (JobClause sh.newest l r'.purpose r.booking r.floor j) (sym b.job ∙ e);
  }

create_any : (st : State) (m : ℕ → Bool) → LogClause st.shared
    → ((s : ℕ) → IsUncreated st.shared (st.replica s)) → st.shared.newest ≡ 0 → st.turn ≡ None
    → (st.shared.entry 0).content ≡ Some empty
    → ((s : ℕ) → st.admitted ≤ s → IsUntouched (st.replica s))
    → ((t l s g : ℕ) (x : Option (Content × ℕ)) (a : Bool)
    → (st.replica t).purpose l ≡ Updating s g x a → SourceClause st.replica t s g)
    → CanCreate st m → Invariant (created st m)
create_any st m log replicas newest turn zero fresh source c = record {
  source =
      source_keeps st.replica (created st m).replica
      (λ s f e. none_some ((x : ℕ) × (((created st m).replica s).floor ≡ Some x) × (f ≤ x))
      (sym (replicas s).floor ∙ e))
      (λ t k a g. choose (λ r. IsUpdate (r.purpose k) a g → IsUpdate ((st.replica t).purpose k) a g)
      (m t) (drawn (st.replica t) (st.shared.last + 1) (Creation false)) (st.replica t)
      (λ q. update_over (st.replica t).purpose (st.shared.last + 1) (Creation false) refl k a g)
      (λ q v. v)) source;
  shape = record {
    some = c.some;
    known = c.known;
    fresh = λ s a. choose (λ r. IsUntouched r) (m s)
        (drawn (st.replica s) (st.shared.last + 1) (Creation false)) (st.replica s)
        (λ e. absurd (let z : false ≡ true = sym (c.known s a) ∙ e in cc)) (λ e. fresh s a);
  };
  log = record {
    creation = omega arith;
    zero_lease = log.zero_lease;
    zero_content = λ a. zero;
    given = log.given;
    pushed = λ n l a e. absurd (omega (arith, a, newest));
  };
  replicas =
      λ s. choose (λ r. ReplicaClauses (created st m).shared r) (m s)
      (drawn (st.replica s) (st.shared.last + 1) (Creation false)) (st.replica s)
      (λ e. within st.shared (st.replica s) (replicas s))
      (λ e. beside st.shared (st.replica s) (replicas s));
  blank = λ a. record {
    newest = newest;
    creation = refl;
    some = omega arith;
    idle = turn;
    floor = λ s. choose (λ r. r.floor ≡ None) (m s)
        (drawn (st.replica s) (st.shared.last + 1) (Creation false)) (st.replica s)
        (λ e. (replicas s).floor) (λ e. (replicas s).floor);
    job = λ s. choose (λ r. r.job ≡ None) (m s)
        (drawn (st.replica s) (st.shared.last + 1) (Creation false)) (st.replica s)
        (λ e. (replicas s).job) (λ e. (replicas s).job);
  };
  turn = λ p e. none_some (PushClause (created st m).shared (created st m).replica p)
      (sym turn ∙ e);
}

pub create_keeps : CreateKeeps
create_keeps st m i c =
    let b = i.blank c.absent in
    create_any st m i.log
    (λ s. record {
      ok = i.replicas s;
      booking = c.absent s;
      floor = b.floor s;
      creation = b.creation;
      job = b.job s;
    }) b.newest b.idle
    (i.log.zero_content b.some) i.shape.fresh i.source c

-- nothing is recorded of a replica of a repository that comes on record
opening_untouched : (node : ℕ → AtNode) (text : ℕ → Vote → Updates) (admitted s : ℕ)
    → IsUntouched ((opening node text admitted).replica s)
opening_untouched node text admitted s = record {
  kept = refl;
  booking = refl;
  floor = refl;
  level = refl;
  had = refl;
  purpose = λ l. refl;
  job = refl;
}

pub first_create_keeps : FirstCreateKeeps
first_create_keeps node text admitted m fresh c =
    let st = opening node text admitted in
    create_any st m
    (record {
      creation = omega arith;
      zero_lease = refl;
      zero_content = λ a. refl;
      given = λ d b e f. none_some ⊥ (sym f);
      pushed = λ n l a e. absurd (omega (arith, a));
    })
    (λ s. record {
      booking = refl;
      floor = refl;
      creation = refl;
      job = refl;
      ok = untouched_ok st.shared (st.replica s) (opening_untouched node text admitted s) (fresh s);
    })
    refl refl refl
    (λ s a. opening_untouched node text admitted s)
    (λ t l s g x a e. absurd (let z : Unused ≡ Updating s g x a = e in cc)) c
