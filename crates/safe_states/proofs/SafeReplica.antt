-- A replica with the invariant is safe.
use Rattle.std.proofs.Common.{◌≡◌, ℕ, ◌+◌, ◌≤◌, ◌<◌, ◌⊎◌, Option, None, Some, refl, sym, ◌∙◌, ap, inl, inr, arith}
use Rattle.replica_invariant.specs.Booking.{Absent, At, Doubt}
use Rattle.replica_invariant.specs.Contents.{Vote}
use Rattle.replica_invariant.specs.Purposes.{Apply, Commit, Create, Effect, Remove, effect}
use Rattle.replica_invariant.specs.ReplicaClauses.{FitsEffect, ReplicaClauses}
use Rattle.replica_invariant.specs.State.{Replica, Shared}
use Rattle.push_events.proofs.Dead.{current_dead, current_level, used_named}
use Rattle.push_events.proofs.Values.{none_some}
use Rattle.safe_states.specs.Safe.{AreContents, AreDoubts, AreEffects, AreGenerations, AreJobs, AreLeases, Holds, IsLive, IsSafeReplica}

-- ---- which effects fit which booking

module _ (r : Replica) where
  at_fits : (g l : ℕ) (e : Effect) → r.booking ≡ At g → r.floor ≡ Some g → FitsEffect r l e
      → (x : ℕ) × (e ≡ Apply x) × (g < x)
  at_fits g l Create b o q = none_some ((x : ℕ) × (Create ≡ Apply x) × (g < x)) (sym q ∙ o)
  at_fits g l (Commit n h) b o q =
      absurd (elim q.booking [
        | inl z ↦ let w : At g ≡ Absent = sym b ∙ z in cc
        | inr z ↦ let w : At g ≡ Doubt l n (n + 1) = sym b ∙ z in cc
      ])
  at_fits g l (Apply x) b o q = (x, refl, q.at g b)
  at_fits g l Remove b o q = absurd (let w : At g ≡ Absent = sym b ∙ q.booking in cc)

  doubt_fits : (l was due k : ℕ) (e : Effect) → r.booking ≡ Doubt l was due → r.floor ≡ Some was
      → FitsEffect r k e → ((h : Vote) × (e ≡ Commit was h) × (k ≡ l))
      ⊎ ((x : ℕ) × (e ≡ Apply x) × (due ≤ x))
  doubt_fits l was due k Create b o q = absurd (none_some ⊥ (sym q ∙ o))
  doubt_fits l was due k (Commit n h) b o q = inl (
    h,
    (let z : Some n ≡ Some was = sym q.floor ∙ o in let w : n ≡ was = cc in ap (λ y. Commit y h) w),
    elim q.booking [
      | inl z ↦ absurd (let w : Doubt l was due ≡ Absent = sym b ∙ z in cc)
      | inr z ↦ let w : Doubt l was due ≡ Doubt k n (n + 1) = sym b ∙ z in cc
    ],
  )
  doubt_fits l was due k (Apply x) b o q = inr (x, refl, q.doubt l was due b)
  doubt_fits l was due k Remove b o q =
      absurd (let w : Doubt l was due ≡ Absent = sym b ∙ q.booking in cc)

  absent_fits : (f k : ℕ) (e : Effect) → r.floor ≡ Some f → FitsEffect r k e → (e ≡ Remove)
      ⊎ (((n : ℕ) × (h : Vote) × (e ≡ Commit n h) × (f < n + 1))
      ⊎ ((x : ℕ) × (e ≡ Apply x) × (f ≤ x)))
  absent_fits f k Create o q = absurd (none_some ⊥ (sym q ∙ o))
  absent_fits f k (Commit n h) o q =
      inr (inl (
        n,
        h,
        refl,
        (let z : Some n ≡ Some f = sym q.floor ∙ o in let w : n ≡ f = cc in omega (arith, w)),
      ))
  absent_fits f k (Apply x) o q = inr (inr (x, refl, q.floor f o))
  absent_fits f k Remove o q = inl refl

-- ---- the parts

module _ (sh : Shared) (r : Replica) (h : ReplicaClauses sh r) where
  fits : (l : ℕ) (e : Effect) → IsLive r l e → FitsEffect r l e
  fits l e live = h.live.fits l e live.0 live.1

  holds : (x : ℕ) → r.level ≡ Some x → Holds sh r x
  holds x e = let v = h.node.level x e in record { held = v.held; exact = v.content }

  level_of : (booking : r.booking ≡ Absent → ⊥) (o : Option ℕ) → r.level ≡ o → (x : ℕ)
      × (r.level ≡ Some x)
  level_of booking None e = absurd (booking (h.node.bare e))
  level_of booking (Some x) e = (x, e)

  generations : AreGenerations sh r
  generations = record {
    floor = h.book.floor;
    at = h.book.at;
    doubt = λ l w d e. let v = h.book.doubt l w d e in (v.floor, v.next, v.newest);
    commits = λ l n x e. let v = (h.commit.issued l n x e).newest in omega (arith, v);
    applies = h.book.applies;
    jobs = λ j e. (h.job j e).generation;
  }

  leases : AreLeases sh r
  leases = record {
    kept = h.lease.kept;
    drawn = λ l e u. used_named sh r h.lease l (λ z. none_some ⊥ (sym (ap effect z) ∙ u));
    fence = h.lease.fence;
  }

  contents : AreContents sh r
  contents = record {
    there = λ b. level_of b r.level refl;
    level = λ x e. ((h.node.level x e).newest, holds x e);
    floor = λ x f e q. (h.node.level x e).floor f q;
    early = λ e q. (h.node.bare q, h.node.early e q);
  }

  live : AreEffects sh r
  live = record {
    at = λ g l e b v. at_fits r g l e b (h.book.at g b) (fits l e v);
    doubt = λ l w d x e b v. doubt_fits r l w d x e b (h.book.doubt l w d b).floor (fits x e v);
    absent = λ f x e b o v. absent_fits r f x e o (fits x e v);
  }

  jobs : AreJobs sh r
  jobs = record {
    lease = λ j l e p. let v = (h.job j e).running l p in sym v.lease;
    snapshot = λ l x g m k a e. let v = h.copy.snapshot l x g m k a e in
        (v.low, v.newest, v.content);
  }

  doubts : AreDoubts sh r
  doubts = record { ready = λ p e. (h.ready p e).fence; early = h.doubt.early; late = h.doubt.late }

  pub safe_replica : IsSafeReplica sh r
  safe_replica = record {
    generations = generations;
    leases = leases;
    contents = contents;
    effects = live;
    jobs = jobs;
    doubts = doubts;
    newest = λ e. holds sh.newest (current_level sh r h e);
    still = λ l e b v. none_some ⊥ (sym (current_dead sh r h b l v.0) ∙ v.1);
  }
