-- A replica that was booked goes absent only where a lease was drawn to delete it.
use Rattle.std.proofs.Common.{◌≡◌, ◌<◌, ◌+◌, ◌⊎◌, ℕ, Bool, true, false, if◌then◌else◌, None, refl, sym, ◌∙◌, ap, inl, inr, arith}
use Rattle.replica_invariant.specs.Booking.{Absent, At, Booking, Doubt}
use Rattle.replica_invariant.specs.Creations.{drawn}
use Rattle.replica_invariant.specs.Invariant.{Invariant}
use Rattle.replica_invariant.specs.Purposes.{Creation, Deleting, Fencing, Purpose, Pushing, Unused, Updating}
use Rattle.replica_invariant.specs.Pushes.{confirmed, doubted}
use Rattle.replica_invariant.specs.State.{Replica, State, with_value}
use Rattle.push_events.proofs.Values.{choose, value_case, value_here}
use Rattle.safe_states.specs.Grows.{LeadsTo, Stays, Then}
use Rattle.safe_states.specs.Happens.{Aborts, Accepts, Admits, AnswersFence, Appears, Applies, Assigns, Begins, Commits, Confirms, Creates, Decides, DrawsFence, Drops, EndsUpdate, Enrols, Fails, Finishes, Happens, Issues, Joins, Loses, Makes, MissesFence, Plans, Prepares, Queues, Reads, Removes, Settles, TakesDelete, TakesUpdate, Votes}
use Rattle.safe_states.proofs.Grows.{leads_keeps, nothing_falls}

-- the lease was drawn for a delete
abbrev pub is_delete : Purpose → Bool
is_delete Unused = false
is_delete (Creation made) = false
is_delete (Pushing begun commit answered) = false
is_delete (Updating source generation kept answered) = false
is_delete (Deleting answered) = true
is_delete (Fencing last) = false

-- a lease above this one was drawn to delete the replica
pub record IsDeleted (last : ℕ) (replica : Replica) : Type 0 where
  pub lease : ℕ
  pub later : last < lease
  pub delete : is_delete (replica.purpose lease) ≡ true

-- what was drawn for a delete stays so, and only by such a draw the replica goes absent
pub record GoesSo (last : ℕ) (old new : Replica) : Type 0 where
  pub deletes : (lease : ℕ) → is_delete (old.purpose lease) ≡ true
      → is_delete (new.purpose lease) ≡ true
  pub gone : (old.booking ≡ Absent → ⊥) → new.booking ≡ Absent → IsDeleted last new

-- ---- one replica

abbrev Keeps : (ℕ → Purpose) → (ℕ → Purpose) → Type 0
Keeps old new = (lease : ℕ) → is_delete (old lease) ≡ true → is_delete (new lease) ≡ true

-- what a lease was drawn for changes, and was no delete
other : (f : ℕ → Purpose) (lease : ℕ) (before now : Purpose) → f lease ≡ before
    → is_delete before ≡ false → Keeps f (with_value f lease now)
other f lease before now was none at = value_case
    (λ l p. is_delete (f l) ≡ true → is_delete p ≡ true) f lease now at
    (λ is. absurd (let z : true ≡ false = sym is ∙ ap is_delete was ∙ none in cc)) (λ else_ is. is)

module _ (last : ℕ) (old new : Replica) where
  -- it is absent only where it was before
  stays : Keeps old.purpose new.purpose → (new.booking ≡ Absent → old.booking ≡ Absent)
      → GoesSo last old new
  stays keeps absent = record { deletes = keeps; gone = λ booked is. absurd (booked (absent is)) }

  -- what its leases were drawn for is the same
  same : new.purpose ≡ old.purpose → (new.booking ≡ Absent → old.booking ≡ Absent)
      → GoesSo last old new
  same is absent = stays (λ lease was. ap (λ f. is_delete (f lease)) is ∙ was) absent

itself : (last : ℕ) (replica : Replica) → GoesSo last replica replica
itself last replica = same last replica replica refl (λ is. is)

at_not_absent : (held : ℕ) (P : Type 0) → At held ≡ Absent → P
at_not_absent held P is = absurd (cc)

doubt_not_absent : (lease was due : ℕ) (P : Type 0) → Doubt lease was due ≡ Absent → P
doubt_not_absent lease was due P is = absurd (cc)

confirms : (last : ℕ) (replica : Replica) (booking : Booking)
    → GoesSo last replica (confirmed booking replica)
confirms last replica Absent = itself last replica
confirms last replica (At held) = itself last replica
confirms last replica (Doubt lease was due) =
    same last replica (confirmed (Doubt lease was due) replica) refl
    (λ is. at_not_absent due (replica.booking ≡ Absent) is)

-- ---- one event

module _ (st : State) (i : Invariant st) where
  abbrev last : ℕ
  last = st.shared.last

  -- one replica changes
  one : (at : ℕ) (new : Replica) → GoesSo last (st.replica at) new → (s : ℕ)
      → GoesSo last (st.replica s) (with_value st.replica at new s)
  one at new goes s = value_case (λ x r. GoesSo last (st.replica x) r) st.replica at new s goes
      (λ else_. itself last (st.replica s))

  -- some do
  some : (test : ℕ → Bool) (f : ℕ → Replica) → ((s : ℕ) → GoesSo last (st.replica s) (f s))
      → (s : ℕ) → GoesSo last (st.replica s) (if test s then f s else st.replica s)
  some test f goes s = choose (GoesSo last (st.replica s)) (test s) (f s) (st.replica s)
      (λ holds. goes s) (λ fails. itself last (st.replica s))

  -- the next lease was drawn for nothing yet
  unused : (s : ℕ) → (st.replica s).purpose (last + 1) ≡ Unused
  unused s = let lease = (i.replicas s).lease in
      lease.drawn (last + 1) (let kept = lease.kept in omega (arith, kept))

  draws : (s : ℕ) (now : Purpose)
      → Keeps (st.replica s).purpose (with_value (st.replica s).purpose (last + 1) now)
  draws s now = other (st.replica s).purpose (last + 1) Unused now (unused s) refl

-- a lease is drawn to delete it
taken : (st : State) (i : Invariant st) (at : ℕ) (new : Replica)
    → new.purpose ≡ with_value (st.replica at).purpose (st.shared.last + 1) (Deleting false)
    → GoesSo st.shared.last (st.replica at) new
taken st i at new is = record {
  deletes = λ lease was. ap (λ f. is_delete (f lease)) is ∙ draws st i at (Deleting false) lease was;
  gone = λ booked absent. record {
    lease = st.shared.last + 1;
    later = omega arith;
    delete = ap (λ f. is_delete (f (st.shared.last + 1))) is
        ∙ ap is_delete
        (value_here (st.replica at).purpose (st.shared.last + 1) (Deleting false));
  };
}

event_goes : (old new : State) → Invariant old → Happens old new → (s : ℕ)
    → GoesSo old.shared.last (old.replica s) (new.replica s)
event_goes _ _ i (Creates st m c) s =
    some st i m (λ x. drawn (st.replica x) (st.shared.last + 1) (Creation false))
    (λ x. stays _ _ _ (draws st i x (Creation false)) (λ is. is)) s
event_goes _ _ i (Makes st t l b a c w) s = one st i t _
    (stays _ _ _ (other (st.replica t).purpose l (Creation b) _ c.purpose refl) (λ is. is)) s
event_goes _ _ i (Enrols st t c) s =
    one st i t _ (same _ _ _ refl (λ is. at_not_absent 0 _ is)) s
event_goes _ _ i (Admits st) s = itself _ _
event_goes _ _ i (Appears st t node u f) s = one st i t _ (same _ _ _ refl (λ is. is)) s
event_goes _ _ i (Assigns st m some_ known) s = itself _ _
event_goes _ _ i (Begins st m c) s = some st i m
    (λ x. drawn (st.replica x) (st.shared.last + 1) (Pushing st.shared.newest None false))
    (λ x. stays _ _ _ (draws st i x (Pushing st.shared.newest None false)) (λ is. is)) s
event_goes _ _ i (Prepares st t l u c) s = one st i t _ (same _ _ _ refl (λ is. is)) s
event_goes _ _ i (Aborts st t l c) s = one st i t _ (same _ _ _ refl (λ is. is)) s
event_goes _ _ i (Loses st t) s = one st i t _ (same _ _ _ refl (λ is. is)) s
event_goes _ _ i (Decides st p told h c) s = some st i told
    (λ x. doubted (st.replica x) p.lease (st.shared.newest + 1))
    (λ x. same _ _ _ refl (λ is. doubt_not_absent _ _ _ _ is)) s
event_goes _ _ i (Joins st p v h c) s =
    one st i v _ (same _ _ _ refl (λ is. doubt_not_absent _ _ _ _ is)) s
event_goes _ _ i (Issues st p v h x a c) s = one st i v _
    (stays _ _ _ (other (st.replica v).purpose p.lease _ _ c.purpose refl) (λ is. is)) s
event_goes _ _ i (Commits st t l n h b a p c w) s = one st i t _
    (stays _ _ _ (other (st.replica t).purpose l _ _ c.purpose refl) (λ is. is)) s
event_goes _ _ i (Confirms st p v h c) s =
    one st i v _ (confirms _ (st.replica v) (st.replica v).booking) s
event_goes _ _ i (Votes st p cast t more) s = itself _ _
event_goes _ _ i (Finishes st) s = itself _ _
event_goes _ _ i (Plans st t j c) s = one st i t _ (same _ _ _ refl (λ is. is)) s
event_goes _ _ i (Drops st t) s = one st i t _ (same _ _ _ refl (λ is. is)) s
event_goes _ _ i (Fails st t j x e n) s = one st i t _ (same _ _ _ refl (λ is. is)) s
event_goes _ _ i (Queues st jobs fits) s = same _ _ _ refl (λ is. is)
event_goes _ _ i (TakesUpdate st t source c) s =
    one st i t _ (stays _ _ _ (draws st i t _) (λ is. is)) s
event_goes _ _ i (TakesDelete st t c) s = one st i t _ (taken st i t _ refl) s
event_goes _ _ i (Reads st t l source g k x a c) s = one st i t _
    (stays _ _ _ (other (st.replica t).purpose l _ _ c.purpose refl) (λ is. is)) s
event_goes _ _ i (Applies st t l source g k m b a c) s = one st i t _
    (stays _ _ _ (other (st.replica t).purpose l _ _ c.purpose refl) (λ is. is)) s
event_goes _ _ i (Removes st t l b a c) s = one st i t _
    (stays _ _ _ (λ lease. value_case
    (λ x p. is_delete ((st.replica t).purpose x) ≡ true → is_delete p ≡ true)
    (st.replica t).purpose l (Deleting a) lease (λ was. refl) (λ else_ was. was)) (λ is. is)) s
event_goes _ _ i (EndsUpdate st t j l source x c) s =
    one st i t _ (same _ _ _ refl (λ is. at_not_absent _ _ is)) s
event_goes _ _ i (DrawsFence st t o c) s =
    one st i t _ (stays _ _ _ (draws st i t _) (λ is. is)) s
event_goes _ _ i (AnswersFence st t l f o c) s = one st i t _
    (stays _ _ _ (other (st.replica t).purpose l _ _ c.purpose.1 refl) (λ is. is)) s
event_goes _ _ i (MissesFence st t l f o c) s = one st i t _ (same _ _ _ refl (λ is. is)) s
event_goes _ _ i (Settles st t answer l was due g c) s =
    one st i t _ (same _ _ _ refl (λ is. at_not_absent _ _ is)) s
event_goes _ _ i (Accepts st t c) s =
    one st i t _ (same _ _ _ refl (λ is. at_not_absent _ _ is)) s

-- ---- any events

is_absent : (booking : Booking) → (booking ≡ Absent) ⊎ (booking ≡ Absent → ⊥)
is_absent Absent = inl refl
is_absent (At held) = inr (λ is. at_not_absent held ⊥ is)
is_absent (Doubt lease was due) = inr (λ is. doubt_not_absent lease was due ⊥ is)

pub replica_goes : (old new : State) → Invariant old → LeadsTo old new → (s : ℕ)
    → GoesSo old.shared.last (old.replica s) (new.replica s)
replica_goes _ _ i (Stays st) s = itself _ _
replica_goes _ _ i (Then old st new l e) s =
    let first = replica_goes old st i l s in
    let step = event_goes st new (leads_keeps old st i l) e s in
    let rise = (nothing_falls old st i l).log.last in
    record {
      deletes = λ lease was. step.deletes lease (first.deletes lease was);
      gone = λ booked absent. elim (is_absent (st.replica s).booking) [
        | inl gone ↦ let before = first.gone booked gone in record {
          lease = before.lease;
          later = before.later;
          delete = step.deletes before.lease before.delete;
        }
        | inr there ↦ let now = step.gone there absent in record {
          lease = now.lease;
          later = (let less = now.later in omega (arith, rise, less));
          delete = now.delete;
        }
      ];
    }
