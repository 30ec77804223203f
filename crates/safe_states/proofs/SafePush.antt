-- A push that has the turn is safe, and so is the whole.
use Rattle.std.proofs.Common.{◌≡◌, ℕ, ◌+◌, ◌<◌, Bool, true, false, Option, None, Some, refl, sym, ◌∙◌, ap, inl, inr, arith}
use Rattle.replica_invariant.specs.Booking.{At, Doubt}
use Rattle.replica_invariant.specs.Contents.{Vote}
use Rattle.replica_invariant.specs.Invariant.{Invariant, MemberClause, PushClause}
use Rattle.replica_invariant.specs.Purposes.{Commit, Effect, Pushing, effect}
use Rattle.replica_invariant.specs.ReplicaClauses.{ReplicaClauses}
use Rattle.replica_invariant.specs.State.{OpenPush, Replica, Shared, State}
use Rattle.push_events.proofs.Dead.{quiet_dead}
use Rattle.push_events.proofs.Values.{bool, none_some, three}
use Rattle.safe_states.specs.Safe.{InvariantIsSafe, IsBefore, IsInDoubt, IsSafeMember, IsSafePush, ReachedIsSafe}
use Rattle.safe_states.proofs.Reached.{every_state_has_the_invariant}
use Rattle.safe_states.proofs.SafeReplica.{safe_replica}

some_is : {A : Type 0} (a b : A) → Some a ≡ Some b → a ≡ b
some_is a b e = cc

-- ---- members

module _ (sh : Shared) (r : Replica) (p : OpenPush) (told cast : Bool) (h : ReplicaClauses sh r)
    (m : MemberClause p told cast r) where
  before : told ≡ false → IsBefore p r
  before e = let u = m.untold e in record {
    booking = u.booking;
    level = u.level;
    quiet = λ l x v. none_some ⊥
        (sym (quiet_dead sh r p.lease h.lease m.kept m.quiet (ap effect u.purpose) l v.0) ∙ v.1);
  }

  -- under the lease of the push there is a commit, or nothing
  own : (l : ℕ) (e : Effect) → l ≡ p.lease → effect (r.purpose l) ≡ Some e → (hash : Vote)
      × (e ≡ Commit p.begun hash) × (l ≡ p.lease)
  own l e q u = by (m.purpose.0) (m.purpose.2)
    where
      by : (o : Option Vote) → r.purpose p.lease ≡ Pushing p.begun o (m.purpose.1) → (hash : Vote)
          × (e ≡ Commit p.begun hash) × (l ≡ p.lease)
      by None c =
          absurd (none_some ⊥ (sym (ap effect c) ∙ ap (λ n. effect (r.purpose n)) (sym q) ∙ u))
      by (Some x) c = (
        x,
        some_is e (Commit p.begun x) (sym u ∙ ap (λ n. effect (r.purpose n)) q ∙ ap effect c),
        q,
      )

  in_doubt : r.booking ≡ Doubt p.lease p.begun (p.begun + 1) → IsInDoubt p r
  in_doubt b = record {
    booking = b;
    quiet = λ l x v. elim (three l p.lease) [
      | inl lt ↦
          none_some ((hash : Vote) × (x ≡ Commit p.begun hash) × (l ≡ p.lease))
          (sym (m.quiet l v.0 lt) ∙ v.1)
      | inr z ↦ elim z [
        | inl eq ↦ own l x eq v.1
        | inr gt ↦
            none_some ((hash : Vote) × (x ≡ Commit p.begun hash) × (l ≡ p.lease))
            (sym (ap effect (h.lease.drawn l (let c = m.kept in omega (arith, gt, c)))) ∙ v.1)
      ]
    ];
  }

  pub safe_member : IsSafeMember p r
  safe_member = record {
    kept = m.kept;
    is = elim (bool told) [
      | inl e ↦ elim (m.told e).booking [ inl b ↦ inr (inl (in_doubt b)) | inr b ↦ inr (inr b.0) ]
      | inr e ↦ inl (before e)
    ];
  }

-- ---- the push

module _ (st : State) (p : OpenPush) (i : Invariant st) (turn : st.turn ≡ Some p) where
  t : PushClause st.shared st.replica p
  t = i.turn p turn

  decides : (s n : ℕ) (h : Vote) (a : Bool) → (st.replica s).purpose p.lease ≡ Pushing n (Some h) a
      → p.members s ≡ true → (o : Option Vote) → p.decided ≡ o → p.decided ≡ Some h
  decides s n h a e m o d =
      let issued = (i.replicas s).commit.issued p.lease n h (ap effect e) in
      let q = t.member s m in
      let z : Pushing p.begun (q.purpose.0) (q.purpose.1) ≡ Pushing n (Some h) a = sym q.purpose.2
      ∙ e in
      let same : p.begun ≡ n = cc in
      by same issued.newest issued.hash o d
    where
      by : p.begun ≡ n → n < st.shared.newest → (st.shared.entry (n + 1)).hash ≡ h
          → (x : Option Vote) → p.decided ≡ x → p.decided ≡ Some h
      by same lt is None x = absurd (let z = t.undecided x in omega (arith, z, same, lt))
      by same lt is (Some g) x = x
          ∙ ap Some
          (sym ((t.decided g x).hash) ∙ ap (λ y. (st.shared.entry (y + 1)).hash) same ∙ is)

  waits : (s : ℕ) (h : Vote) → p.decided ≡ Some h → (st.replica s).booking ≡ At st.shared.newest
      → (x : ℕ) × (p.members x ≡ true) × ((st.replica x).booking ≡ At st.shared.newest)
      × (p.cast x ≡ true)
  waits s h d b =
      let n : st.shared.newest ≡ p.begun + 1 = (t.decided h d).newest in
      let f : (st.replica s).floor ≡ Some (p.begun + 1) = (i.replicas s).book.at st.shared.newest b
      ∙ ap Some n in
      let w = t.first h s d f in
      (w.0, w.1, w.2 ∙ ap At (sym n), cast (w.0) (w.1) (w.2) (p.told (w.0)) refl)
    where
      cast : (x : ℕ) → p.members x ≡ true → (st.replica x).booking ≡ At (p.begun + 1) → (y : Bool)
          → p.told x ≡ y → p.cast x ≡ true
      cast x m c true e = elim ((t.member x m).told e).booking [
        | inl z ↦
            absurd (let w : At (p.begun + 1) ≡ Doubt p.lease p.begun (p.begun + 1) = sym c ∙ z in
            cc)
        | inr z ↦ z.2
      ]
      cast x m c false e =
          absurd (let z : At (p.begun + 1) ≡ At p.begun = sym c
          ∙ ((t.member x m).untold e).booking in let w : p.begun + 1 ≡ p.begun = cc in
          omega (arith, w))

  pub safe_push : IsSafePush st.shared st.replica p
  safe_push = record {
    members =
        λ s m. safe_member st.shared (st.replica s) p (p.told s) (p.cast s) (i.replicas s)
        (t.member s m);
    before = t.undecided;
    after = λ h e. (t.decided h e).newest;
    told = λ s n h a e. let m = t.named s n (Some h) a e in (m, decides s n h a e m p.decided refl);
    waits = waits;
  }

pub the_invariant_is_safe : InvariantIsSafe
the_invariant_is_safe st i = record {
  replica = λ s. safe_replica st.shared (st.replica s) (i.replicas s);
  source = λ t l s g x a e. (i.source t l s g x a e).floor;
  push = λ p e. safe_push st p i e;
}

pub every_state_is_safe : ReachedIsSafe
every_state_is_safe st r = the_invariant_is_safe st (every_state_has_the_invariant st r)
