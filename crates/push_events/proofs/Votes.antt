-- More members have voted in the committed phase of a push, and nothing is booked.
use Rattle.std.proofs.Common.{◌≡◌, true, Bool, inl, inr, refl, sym, ◌∙◌, subst}
use Rattle.replica_invariant.specs.Invariant.{MemberClause, PushClause}
use Rattle.replica_invariant.specs.Pushes.{VotesKeep}
use Rattle.replica_invariant.specs.State.{OpenPush, Replica}
use Rattle.push_events.proofs.Booked.{member_as}
use Rattle.push_events.proofs.Values.{none_some}

-- what holds of a member goes on holding where it has voted if it had
voted_member : (p : OpenPush) (told cast cast' : Bool) (r : Replica) → (cast ≡ true → cast' ≡ true)
    → MemberClause p told cast r → MemberClause p told cast' r
voted_member p told cast cast' r more m = record {
  kept = m.kept;
  purpose = m.purpose;
  quiet = m.quiet;
  told = λ e. let d = m.told e in record {
    decided = d.decided;
    booking = elim d.booking [ inl x ↦ inl x | inr x ↦ inr (x.0, x.1, more x.2) ];
  };
  untold = m.untold;
}

pub votes_keep : VotesKeep
votes_keep st p cast i is more = record {
  source = i.source;
  shape = i.shape;
  log = i.log;
  replicas = i.replicas;
  blank = λ a. absurd (none_some ⊥ (sym (i.blank a).idle ∙ is));
  turn = λ q e. subst (λ x. PushClause st.shared st.replica x)
      (let z : record p { cast = cast } ≡ q = cc in z) turn;
}
  where
    turn : PushClause st.shared st.replica (record p { cast = cast })
    turn = let t = i.turn p is in record {
      some = t.some;
      member = λ s m. voted_member (record p { cast = cast }) (p.told s) (p.cast s) (cast s)
          (st.replica s) (more s)
          (member_as p (record p { cast = cast }) (p.told s) (p.cast s) (st.replica s) refl refl
          (λ e. e) (t.member s m));
      undecided = t.undecided;
      decided = λ h d. let q = t.decided h d in
          record { newest = q.newest; lease = q.lease; hash = q.hash };
      told = t.told;
      named = t.named;
      first = t.first;
    }
