-- A replica of which nothing was ever recorded, and a node that appears there.
use Rattle.std.proofs.Common.{◌≡◌, ℕ, ◌≤◌, Bool, Some, None, true, false, refl, sym, ◌∙◌, ap, arith}
use Rattle.replica_invariant.specs.Booking.{Absent, At, Doubt}
use Rattle.replica_invariant.specs.Creations.{AppearKeeps, IsFromBefore, with_node}
use Rattle.replica_invariant.specs.Invariant.{IsUntouched, MemberClause}
use Rattle.replica_invariant.specs.Purposes.{Creation, effect, Fencing, is_committed, is_creation, Pushing, Unused, Updating}
use Rattle.replica_invariant.specs.ReplicaClauses.{FitsEffect, HasLevel, IsIssued, JobClause, QuietBelow, ReplicaClauses}
use Rattle.replica_invariant.specs.State.{OpenPush, Replica, Shared}
use Rattle.push_events.proofs.OneReplica.{later_self, replica_event}
use Rattle.push_events.proofs.Values.{none_some}

module _ (sh : Shared) (r : Replica) (u : IsUntouched r) where
  not_doubt : (a w d : ℕ) → r.booking ≡ Doubt a w d → ⊥
  not_doubt a w d e = let z : Absent ≡ Doubt a w d = sym u.booking ∙ e in cc

  no_effect : (l : ℕ) → effect (r.purpose l) ≡ None
  no_effect l = ap effect (u.purpose l)

  -- whatever calls made of an empty one at its node is as it may be
  pub untouched_ok : IsFromBefore r.node sh.text → ReplicaClauses sh r
  untouched_ok f = record {
    book = record {
      floor = λ x e. none_some (x ≤ sh.newest) (sym u.floor ∙ e);
      at = λ g e. absurd (let z : Absent ≡ At g = sym u.booking ∙ e in cc);
      doubt = λ a w d e. absurd (not_doubt a w d e);
      applies = λ l g e. none_some (g ≤ sh.newest) (sym (no_effect l) ∙ e);
    };
    lease = record {
      kept = (let k = u.kept in omega (arith, k));
      zero = u.purpose 0;
      drawn = λ l a. u.purpose l;
      fence = λ e. absurd (let z : false ≡ true = sym u.had ∙ e in cc);
      committed = f.committed;
    };
    node = record {
      bare = λ e. u.booking;
      level = λ k e. none_some (HasLevel sh r k) (sym u.level ∙ e);
      early = λ a b. u.floor;
    };
    live = record {
      fits = λ l e a q. none_some (FitsEffect r l e) (sym (no_effect l) ∙ q);
      doubt = λ a w d e. absurd (not_doubt a w d e);
      commit = λ l n x a q. none_some (QuietBelow r l) (sym (no_effect l) ∙ q);
    };
    commit = record {
      begun = λ l n x a e. absurd (let z : Unused ≡ Pushing n x a = sym (u.purpose l) ∙ e in cc);
      issued = λ l n x e. none_some (IsIssued sh l n x) (sym (no_effect l) ∙ e);
      answered =
          λ l e. absurd (let z : false ≡ true = sym (ap is_committed (u.purpose l)) ∙ e in cc);
    };
    doubt = record {
      early = λ a w d e. absurd (not_doubt a w d e);
      late = λ a w d e. absurd (not_doubt a w d e);
    };
    ready = λ p e. let v = f.ready p e in
        record { held = v.0; fence = v.1; content = v.2; text = v.3 };
    create = record {
      creating = λ l e. absurd (let z : false ≡ true = sym (ap is_creation (u.purpose l)) ∙ e in cc);
      early = λ l a e. u.purpose l;
      made = λ l e. absurd (let z : Unused ≡ Creation true = sym (u.purpose l) ∙ e in cc);
      fresh = λ a b e. u.floor;
    };
    copy = record {
      snapshot = λ l s g m k a e. absurd
          (let z : Unused ≡ Updating s g (Some (m, k)) a = sym (u.purpose l) ∙ e in cc);
      answered = λ l s g x e q. absurd
          (let z : Unused ≡ Updating s g x true = sym (u.purpose l) ∙ e in cc);
    };
    fencing = record {
      reached = λ l x e. absurd (let z : Unused ≡ Fencing (Some x) = sym (u.purpose l) ∙ e in cc);
      same = λ l x e q. absurd (let z : Unused ≡ Fencing (Some x) = sym (u.purpose l) ∙ e in cc);
    };
    job = λ j e. none_some (JobClause sh.newest r.kept r.purpose r.booking r.floor j)
        (sym u.job ∙ e);
  }

-- no push has it for a member
no_member : (r : Replica) (p : OpenPush) (told cast : Bool) → IsUntouched r
    → MemberClause p told cast r → ⊥
no_member r p told cast u m =
    let z : Unused ≡ Pushing p.begun (m.purpose.0) (m.purpose.1) = sym (u.purpose p.lease)
    ∙ m.purpose.2 in cc

pub appear_keeps : AppearKeeps
appear_keeps st s node i u f =
    let still : IsUntouched (with_node (st.replica s) node) = record {
      kept = u.kept;
      booking = u.booking;
      floor = u.floor;
      level = u.level;
      had = u.had;
      purpose = u.purpose;
      job = u.job;
    } in
    replica_event st st.shared s (with_node (st.replica s) node) i (later_self st.shared) refl refl
    i.log (untouched_ok st.shared (with_node (st.replica s) node) still f) (λ q. still) refl refl
    refl (λ k a g v. v) (λ k w v. v)
    (λ p e m. absurd
    (no_member (st.replica s) p (p.told s) (p.cast s) u ((i.turn p e).member s m)))
