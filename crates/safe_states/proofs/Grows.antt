-- Nothing falls.
use Rattle.std.proofs.Common.{◌≡◌, ◌≢◌, ℕ, ◌+◌, ◌≤◌, if◌then◌else◌, Option, Some, None, Bool, true, false, inl, inr, refl, sym, ◌∙◌, ap, arith}
use Rattle.replica_invariant.specs.Booking.{Absent, At, Booking, Doubt, generation}
use Rattle.replica_invariant.specs.Contents.{Content}
use Rattle.replica_invariant.specs.Creations.{drawn}
use Rattle.replica_invariant.specs.Invariant.{Invariant}
use Rattle.replica_invariant.specs.Jobs.{draw_at}
use Rattle.replica_invariant.specs.Purposes.{Creation, Pushing}
use Rattle.replica_invariant.specs.Pushes.{confirmed, doubted, fill}
use Rattle.replica_invariant.specs.Repairs.{Tells, booked_at, entry_of}
use Rattle.replica_invariant.specs.State.{Entry, OpenPush, Replica, Shared, State, with_replica, with_value}
use Rattle.push_events.proofs.Filled.{fill_hash, fill_lease, fill_content}
use Rattle.push_events.proofs.Values.{choose, none_some, value_case, value_elsewhere}
use Rattle.safe_states.specs.Grows.{BookingsGrow, Grows, LeadsTo, LogGrows, NothingFalls, RoutedReads, Stays, Then}
use Rattle.safe_states.specs.Happens.{Aborts, Accepts, Admits, AnswersFence, Appears, Applies, Assigns, Begins, Commits, Confirms, Creates, Decides, DrawsFence, Drops, EndsUpdate, Enrols, Fails, Finishes, Happens, Issues, Joins, Loses, Makes, MissesFence, Plans, Prepares, Queues, Reads, Removes, Settles, TakesDelete, TakesUpdate, Votes}
use Rattle.safe_states.specs.Safe.{Holds}
use Rattle.safe_states.proofs.Reached.{each_event_keeps_the_invariant}
use Rattle.push_events.proofs.Small.{never_booked}

-- the floor of one replica does not fall
abbrev FloorGrows : Replica → Replica → Type 0
FloorGrows old new = (f : ℕ) → old.floor ≡ Some f → (x : ℕ) × (new.floor ≡ Some x) × (f ≤ x)

floor_stays : (r r' : Replica) → r'.floor ≡ r.floor → FloorGrows r r'
floor_stays r r' q f e = (f, q ∙ e, omega arith)

log_stays : (sh sh' : Shared) → sh'.newest ≡ sh.newest → sh.last ≤ sh'.last
    → ((g : ℕ) → sh'.entry g ≡ sh.entry g) → LogGrows sh sh'
log_stays sh sh' n l q = record {
  newest = omega (arith, n);
  last = l;
  lease = λ g b. ap (λ e. e.lease) (q g);
  hash = λ g b. ap (λ e. e.hash) (q g);
  content = λ g x b e. ap (λ y. y.content) (q g) ∙ e;
}

-- a new entry is above newest
log_adds : (sh : Shared) (e : Entry)
    → LogGrows sh
    (record sh { newest = sh.newest + 1; entry = with_value sh.entry (sh.newest + 1) e })
log_adds sh e =
    let other : (g : ℕ) → g ≤ sh.newest
    → with_value sh.entry (sh.newest + 1) e g ≡ sh.entry g =
    λ g b. value_elsewhere sh.entry (sh.newest + 1) e g (λ q. absurd (omega (arith, q, b))) in
    record {
      newest = omega arith;
      last = omega arith;
      lease = λ g b. ap (λ y. y.lease) (other g b);
      hash = λ g b. ap (λ y. y.hash) (other g b);
      content = λ g x b q. ap (λ y. y.content) (other g b) ∙ q;
    }

log_fills : (sh : Shared) (d : ℕ) (m : Content) → LogGrows sh (fill sh d m)
log_fills sh d m =
    record {
      newest = omega arith;
      last = omega arith;
      lease = λ g b. fill_lease sh d m g;
      hash = λ g b. fill_hash sh d m g;
      content = λ g x b e. fill_content sh d m g x e;
    }

-- one replica changes
one : (st : State) (sh : Shared) (s : ℕ) (r' : Replica) (o : Option OpenPush)
    → LogGrows st.shared sh → FloorGrows (st.replica s) r'
    → Grows st (record st { shared = sh; replica = with_value st.replica s r'; turn = o })
one st sh s r' o g f = record {
  log = g;
  floor = λ x k. value_case
      (λ y r. (st.replica y).floor ≡ Some k → (z : ℕ) × (r.floor ≡ Some z)
      × (k ≤ z)) st.replica s r' x (f k) (λ n. floor_stays (st.replica x) (st.replica x) refl k);
}

self : (sh : Shared) → LogGrows sh sh
self sh = log_stays sh sh refl (omega arith) (λ g. refl)

at_one : (st : State) (s : ℕ) (r' : Replica) → FloorGrows (st.replica s) r'
    → Grows st (with_replica st s r')
at_one st s r' f = one st st.shared s r' st.turn (self st.shared) f

unmoved : (st : State) (s : ℕ) (r' : Replica) → r'.floor ≡ (st.replica s).floor
    → Grows st (with_replica st s r')
unmoved st s r' q = at_one st s r' (floor_stays (st.replica s) r' q)

-- a lease is drawn
draws : (st : State) (s : ℕ) (r' : Replica) → r'.floor ≡ (st.replica s).floor
    → Grows st (draw_at st s r')
draws st s r' q =
    one st (record st.shared { last = st.shared.last + 1 }) s r' st.turn
    (log_stays st.shared (record st.shared { last = st.shared.last + 1 }) refl (omega arith)
    (λ g. refl)) (floor_stays (st.replica s) r' q)

-- some replicas change, and no floor
some : (st : State) (sh : Shared) (m : ℕ → Bool) (f : ℕ → Replica) (assigned : ℕ → Bool)
    (o : Option OpenPush) → LogGrows st.shared sh → ((s : ℕ) → (f s).floor ≡ (st.replica s).floor)
    → Grows st
    (record st {
      shared = sh;
      assigned = assigned;
      replica = λ s. if m s then f s else st.replica s;
      turn = o;
    })
some st sh m f assigned o g q = record {
  log = g;
  floor = λ s k e. choose (λ r. (z : ℕ) × (r.floor ≡ Some z) × (k ≤ z)) (m s) (f s) (st.replica s)
      (λ b. floor_stays (st.replica s) (f s) (q s) k e)
      (λ b. floor_stays (st.replica s) (st.replica s) refl k e);
}

-- a floor rises to what is booked
rises : (r r' : Replica) (low g : ℕ) → r.floor ≡ Some low → low ≤ g → r'.floor ≡ Some g
    → FloorGrows r r'
rises r r' low g q b e f w =
    (g, e, (let z : Some low ≡ Some f = sym q ∙ w in let y : low ≡ f = cc in omega (arith, y, b)))

confirms : (st : State) (i : Invariant st) (v : ℕ) (b : Booking) → (st.replica v).booking ≡ b
    → FloorGrows (st.replica v) (confirmed b (st.replica v))
confirms st i v Absent e = floor_stays (st.replica v) (st.replica v) refl
confirms st i v (At g) e = floor_stays (st.replica v) (st.replica v) refl
confirms st i v (Doubt l w d) e = let q = (i.replicas v).book.doubt l w d e in
    rises (st.replica v) (confirmed (Doubt l w d) (st.replica v)) w d q.floor
    (let n = q.next in omega (arith, n)) refl

settles : (answer : Option ℕ) (l w d g : ℕ) → d ≡ w + 1 → Tells answer l w d g → w ≤ g
settles answer l w d g n t =
    elim t [
      | inl x ↦ (let q = x.1 in omega (arith, n, q))
      | inr x ↦ (let q = x.1 in omega (arith, q))
    ]

happens_grows : (old new : State) → Invariant old → Happens old new → Grows old new
happens_grows _ _ i (Creates st m c) =
    some st (record st.shared { last = st.shared.last + 1; creation = st.shared.last + 1 }) m
    (λ s. drawn (st.replica s) (st.shared.last + 1) (Creation false)) m st.turn
    (log_stays st.shared
    (record st.shared { last = st.shared.last + 1; creation = st.shared.last + 1 }) refl
    (omega arith) (λ g. refl)) (λ s. refl)
happens_grows _ _ i (Makes st s l b a c w) = unmoved st s _ refl
happens_grows _ _ i (Enrols st s c) =
    at_one st s _
    (λ f e. none_some ((x : ℕ) × (Some 0 ≡ Some x) × (f ≤ x))
    (sym (never_booked st s i c) ∙ e))
happens_grows _ _ i (Admits st) =
    record { log = self st.shared; floor = λ s f e. (f, e, omega arith) }
happens_grows _ _ i (Appears st s node u f) = unmoved st s _ refl
happens_grows _ _ i (Assigns st m some known) =
    record { log = self st.shared; floor = λ s f e. (f, e, omega arith) }
happens_grows _ _ i (Begins st m c) =
    some st (record st.shared { last = st.shared.last + 1 }) m
    (λ s. drawn (st.replica s) (st.shared.last + 1)
    (Pushing st.shared.newest None false)) st.assigned _
    (log_stays st.shared (record st.shared { last = st.shared.last + 1 }) refl (omega arith)
    (λ g. refl)) (λ s. refl)
happens_grows _ _ i (Prepares st s l u c) = unmoved st s _ refl
happens_grows _ _ i (Aborts st s l c) = unmoved st s _ refl
happens_grows _ _ i (Loses st s) = unmoved st s _ refl
happens_grows _ _ i (Decides st p told h c) =
    some st _ told (λ s. doubted (st.replica s) p.lease (st.shared.newest + 1)) st.assigned _
    (log_adds st.shared (record { lease = Some p.lease; hash = h; content = None })) (λ s. refl)
happens_grows _ _ i (Joins st p v h c) =
    one st st.shared v _ _ (self st.shared) (λ f e. (f, e, omega arith))
happens_grows _ _ i (Issues st p v h x a c) = unmoved st v _ refl
happens_grows _ _ i (Commits st s l n h b a p c w) =
    one st (fill st.shared (n + 1) p.content) s _ st.turn (log_fills st.shared (n + 1) p.content)
    (λ f e. (f, e, omega arith))
happens_grows _ _ i (Confirms st p v h c) =
    one st st.shared v _ _ (self st.shared) (confirms st i v (st.replica v).booking refl)
happens_grows _ _ i (Votes st p cast t more) =
    record { log = self st.shared; floor = λ s f e. (f, e, omega arith) }
happens_grows _ _ i (Finishes st) =
    record { log = self st.shared; floor = λ s f e. (f, e, omega arith) }
happens_grows _ _ i (Plans st t j c) = unmoved st t _ refl
happens_grows _ _ i (Drops st t) = unmoved st t _ refl
happens_grows _ _ i (Fails st t j x e n) = unmoved st t _ refl
happens_grows _ _ i (Queues st jobs fits) =
    record { log = self st.shared; floor = λ s f e. (f, e, omega arith) }
happens_grows _ _ i (TakesUpdate st t s c) = draws st t _ refl
happens_grows _ _ i (TakesDelete st t c) = draws st t _ refl
happens_grows _ _ i (Reads st t l s g k x a c) = unmoved st t _ refl
happens_grows _ _ i (Applies st t l s g k m b a c) = unmoved st t _ refl
happens_grows _ _ i (Removes st t l b a c) = unmoved st t _ refl
happens_grows _ _ i (EndsUpdate st t j l s x c) =
    at_one st t _
    (λ f e. (
      j.generation,
      refl,
      (((i.replicas t).job j c.job_).running l c.running).low c.update f e,
    ))
happens_grows _ _ i (DrawsFence st t o c) = draws st t _ refl
happens_grows _ _ i (AnswersFence st t l f o c) = unmoved st t _ refl
happens_grows _ _ i (MissesFence st t l f o c) = unmoved st t _ refl
happens_grows _ _ i (Settles st s answer l w d g c) = let q =
    (i.replicas s).book.doubt l w d c.booking in
    at_one st s _ (rises (st.replica s) (booked_at (st.replica s) g) w g q.floor (settles answer l w d g q.next c.tells) refl)
happens_grows _ _ i (Accepts st s c) =
    one st _ s _ st.turn (log_adds st.shared (entry_of (st.replica s)))
    (λ f e. (
      st.shared.newest + 1,
      refl,
      (let b = (i.replicas s).book.floor f e in omega (arith, b)),
    ))

-- ---- over lists of events

then_grows : (a b c : State) → Grows a b → Grows b c → Grows a c
then_grows a b c g h = record {
  log = record {
    newest = omega (arith, g.log.newest, h.log.newest);
    last = omega (arith, g.log.last, h.log.last);
    lease = λ d w. h.log.lease d (omega (arith, w, g.log.newest)) ∙ g.log.lease d w;
    hash = λ d w. h.log.hash d (omega (arith, w, g.log.newest)) ∙ g.log.hash d w;
    content = λ d x w e. h.log.content d x (omega (arith, w, g.log.newest)) (g.log.content d x w e);
  };
  floor = λ s f e. let x = g.floor s f e in let y = h.floor s (x.0) (x.1) in
      (y.0, y.1, omega (arith, x.2, y.2));
}

pub leads_keeps : (old new : State) → Invariant old → LeadsTo old new → Invariant new
leads_keeps _ _ i (Stays st) = i
leads_keeps _ _ i (Then old st new l e) =
    each_event_keeps_the_invariant st new e (leads_keeps old st i l)

leads_grows : (old new : State) → Invariant old → LeadsTo old new → Grows old new
leads_grows _ _ i (Stays st) = record { log = self st.shared; floor = λ s f e. (f, e, omega arith) }
leads_grows _ _ i (Then old st new l e) =
    then_grows old st new (leads_grows old st i l) (happens_grows st new (leads_keeps old st i l) e)

pub nothing_falls : NothingFalls
nothing_falls = leads_grows

-- the floor of a replica that is booked at a generation, or in doubt, is that of the booking
booked_floor : (st : State) (s : ℕ) → Invariant st → (b : Booking) → (st.replica s).booking ≡ b
    → b ≢ Absent → (st.replica s).floor ≡ Some (generation b)
booked_floor st s i Absent e booked = absurd (booked refl)
booked_floor st s i (At g) e booked = (i.replicas s).book.at g e
booked_floor st s i (Doubt l w d) e booked = ((i.replicas s).book.doubt l w d e).floor

pub a_booking_never_falls : BookingsGrow
a_booking_never_falls old new s i l before after =
    let first = booked_floor old s i (old.replica s).booking refl before in
    let f = (leads_grows old new i l).floor s (generation (old.replica s).booking) first in
    let last = booked_floor new s (leads_keeps old new i l) (new.replica s).booking refl after in
    let z : Some (f.0) ≡ Some (generation (new.replica s).booking) = sym f.1 ∙ last in
    let y : f.0 ≡ generation (new.replica s).booking = cc in omega (arith, f.2, y)

module _ (old new : State) (s a : ℕ) (i : Invariant old) (l : LeadsTo old new)
    (e : (old.replica s).booking ≡ At a) where
  h : Invariant new
  h = leads_keeps old new i l

  f : (x : ℕ) × ((new.replica s).floor ≡ Some x) × (a ≤ x)
  f = (leads_grows old new i l).floor s a ((i.replicas s).book.at a e)

  there : (new.replica s).node.held ≡ true → (o : Option ℕ) → (new.replica s).level ≡ o → (g : ℕ)
      × (a ≤ g) × (g ≤ new.shared.newest) × Holds new.shared (new.replica s) g
  there t None q =
      none_some ((g : ℕ) × (a ≤ g) × (g ≤ new.shared.newest) × Holds new.shared (new.replica s) g)
      (sym ((h.replicas s).node.early t q) ∙ f.1)
  there t (Some k) q = let v = (h.replicas s).node.level k q in (
    k,
    omega (arith, f.2, v.floor (f.0) f.1),
    v.newest,
    record { held = v.held; exact = v.content },
  )

  gone : (new.replica s).node.held ≡ false → (o : Option ℕ) → (new.replica s).level ≡ o
      → (new.replica s).booking ≡ Absent
  gone t None q = (h.replicas s).node.bare q
  gone t (Some k) q =
      absurd (let z : false ≡ true = sym t ∙ ((h.replicas s).node.level k q).held in cc)

pub a_routed_read_is_answered : RoutedReads
a_routed_read_is_answered old new s a i l e = (
  λ t. there old new s a i l e t (new.replica s).level refl,
  λ t. gone old new s a i l e t (new.replica s).level refl,
)
