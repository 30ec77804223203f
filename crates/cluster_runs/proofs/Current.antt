-- What a node holds of a replica that is booked.
use Rattle.std.proofs.Common.{◌≡◌, ◌≢◌, ℕ, is_some, true, false, Option, None, Some, refl, sym, ◌∙◌, ap, subst, inl, inr, arith}
use Rattle.std.proofs.lemmas.Bool.{cases_lt}
use Rattle.px_base.specs.declared.ids.Gen.{Gen}
use Rattle.px_ops.specs.declared.booking.Booking.{Booking as BookedSo}
use Rattle.px_ops.specs.declared.booking.Booking.TheVariants as booking
use Rattle.px_cluster.specs.Book.{Replica as BookedReplica, Repository, booking_in, booking_on, generation, has_replica_on, replica_on}
use Rattle.px_cluster.specs.Cluster.{Cluster}
use Rattle.px_cluster.specs.Core.{repository}
use Rattle.px_cluster.specs.Ids.{gen}
use Rattle.px_cluster.specs.Ledger as ledger
use Rattle.replica_invariant.specs.Booking.{Absent, At}
use Rattle.replica_invariant.specs.Contents.{Content}
use Rattle.replica_invariant.specs.Purposes.{Apply, Commit, Create, Effect, Remove, effect}
use Rattle.replica_invariant.specs.State.{AtNode, Replica, Shared}
use Rattle.safe_states.proofs.Grows.{nothing_falls}
use Rattle.safe_states.proofs.Reached.{every_state_has_the_invariant}
use Rattle.safe_states.specs.Safe.{Holds, IsSafeReplica}
use Rattle.cluster_form.proofs.Lists.{some_is}
use Rattle.cluster_history.specs.History.{Whole}
use Rattle.cluster_history.specs.Seen.{node_if, replica_of, seen_booking, seen_node, seen_purpose, shared_of, state_of}
use Rattle.cluster_runs.specs.Current.{AgreeOnNewest, BookedReplicasHold, ContentsStay, CurrentReplicasAgree, CurrentReplicasAgreeAtOnce, CurrentReplicasHold, HoldsAtLeast, HoldsGeneration, IsStill, LogsStay, changes_content}
use Rattle.cluster_runs.specs.Safe.{IsFollowed, IsSafeCluster}

-- ---- what is booked

-- it is on a storage of the virtual storage
pub booked_there : (there : Option BookedReplica) → booking_in there ≢ booking.Absent
    → is_some there ≡ true
booked_there None booked = absurd (booked refl)
booked_there (Some replica) booked = refl

-- what is seen as absent is absent
pub absent_is : (booked : BookedSo) → seen_booking booked ≡ Absent → booked ≡ booking.Absent
absent_is booking.Absent is = refl
absent_is (booking.At held) is = absurd (let z : At held.0 ≡ Absent = is in cc)
absent_is (booking.Doubt lease was due) is = absurd (cc)

pub at_is_booked : (booked : BookedSo) (held : Gen) → booked ≡ booking.At held
    → booked ≢ booking.Absent
at_is_booked booked held at is =
    let z : booking.At held ≡ booking.Absent = sym at ∙ is in cc

-- ---- what its node holds

module _ (whole : Whole) (repo storage : ℕ) (book : Repository) (safe : IsSafeCluster whole)
    (has : has_replica_on book storage ≡ true) where
  abbrev pub shared : Shared
  shared = shared_of whole.history repo book

  abbrev pub seen : Replica
  seen = replica_of whole repo book storage

  -- what the node has is what is seen of it
  pub node_is : seen.node ≡ seen_node (whole.cluster.node storage book.path)
  node_is = ap (λ b. node_if b (whole.cluster.node storage book.path)) has

  pub holds : (held : ℕ) → Holds shared seen held → HoldsGeneration whole repo storage book held
  holds held is =
      let whole_ = safe.whole_ storage book.path in
      record {
        held = sym (ap (λ (n : AtNode). n.held) node_is) ∙ is.held;
        exact = is.exact
            ∙ ap (λ (n : AtNode). let one : Option Content = Some n.refs in one) node_is;
        named = whole_.store;
        closed = whole_.closed;
      }

-- what changes the content is seen as an effect
seen_effect : (level : ℕ) (purpose : ledger.Purpose) → changes_content purpose ≡ true
    → (issued : Effect) × (effect (seen_purpose level purpose) ≡ Some issued)
seen_effect level ledger.Unused is = absurd (let z : false ≡ true = is in cc)
seen_effect level (ledger.Creation made) is = (Create, refl)
seen_effect level (ledger.Pushing begun None answered) is =
    absurd (let z : false ≡ true = is in cc)
seen_effect level (ledger.Pushing begun (Some hash) answered) is = (Commit begun hash, refl)
seen_effect level (ledger.Updating job source generation_ kept answered) is =
    (Apply generation_, refl)
seen_effect level (ledger.Deleting job answered) is = (Remove, refl)
seen_effect level (ledger.Fencing last) is = absurd (let z : false ≡ true = is in cc)

module _ (whole : Whole) (repo storage : ℕ) (book : Repository) (safe : IsSafeCluster whole)
    (there : repository whole.cluster.core repo ≡ Some book)
    (booked : booking_on book storage ≢ booking.Absent) where
  has : has_replica_on book storage ≡ true
  has = booked_there (replica_on book storage) booked

  is_safe : IsSafeReplica (shared whole repo storage book safe has)
      (seen whole repo storage book safe has)
  is_safe = (safe.safe repo book there).replica storage

  -- ---- at newest

  holds_newest : booking_on book storage ≡ booking.At (gen book.newest)
      → HoldsGeneration whole repo storage book book.newest
  holds_newest at =
      holds whole repo storage book safe has book.newest (is_safe.newest (ap seen_booking at))

  still : booking_on book storage ≡ booking.At (gen book.newest)
      → IsStill whole.cluster repo storage book
  still at lease is =
      let out = seen_effect (whole.history.read_at repo storage lease)
      (whole.cluster.ledger repo storage lease) is in
      let fence = ap (λ (n : AtNode). n.fence) (node_is whole repo storage book safe has) in
      elim (cases_lt lease (whole.cluster.node storage book.path).fence) [
        | inl below ↦ below
        | inr above ↦ absurd (is_safe.still lease out.0 (ap seen_booking at)
            (omega (arith, above, fence), out.1))
      ]

  -- ---- at a generation, or in doubt

  floor_of : (so : BookedSo) → booking_on book storage ≡ so → so ≢ booking.Absent
      → (seen whole repo storage book safe has).floor ≡ Some (generation so)
  floor_of booking.Absent is booked_ = absurd (booked_ refl)
  floor_of (booking.At held) is booked_ = is_safe.generations.at held.0 (ap seen_booking is)
  floor_of (booking.Doubt lease was due) is booked_ =
      (is_safe.generations.doubt lease was.0 due.0 (ap seen_booking is)).0

  holds_at_least : HoldsAtLeast whole repo storage book (generation (booking_on book storage))
  holds_at_least =
      let level = is_safe.contents.there (λ is. booked (absent_is (booking_on book storage) is)) in
      let at = is_safe.contents.level level.0 level.1 in
      record {
        generation = level.0;
        low = is_safe.contents.floor level.0 (generation (booking_on book storage)) level.1
            (floor_of (booking_on book storage) refl booked);
        newest = at.0;
        holds = holds whole repo storage book safe has level.0 at.1;
      }

pub current_replicas_hold : CurrentReplicasHold
current_replicas_hold whole safe repo storage book there at =
    let booked = at_is_booked (booking_on book storage) (gen book.newest) at in
    record {
      holds = holds_newest whole repo storage book safe there booked at;
      still = still whole repo storage book safe there booked at;
    }

pub booked_replicas_hold : BookedReplicasHold
booked_replicas_hold whole safe repo storage book there booked =
    holds_at_least whole repo storage book safe there booked

-- ---- the log, and what replicas hold by it

contents_stay : (old new : Whole) → IsSafeCluster old → IsFollowed old new → ContentsStay old new
contents_stay old new safe follows repo held book content here within is =
    let on = follows repo book here in
    let first = every_state_has_the_invariant (state_of old repo book)
    (safe.reached repo book here) in
    (nothing_falls (state_of old repo book) (state_of new repo on.now) first on.leads).log.content
    held content within is

pub logs_stay : LogsStay
logs_stay old new together =
    contents_stay together.before together.after together.safe_before together.follows

agree : (old new : Whole) → IsSafeCluster old → IsSafeCluster new → ContentsStay old new
    → AgreeOnNewest old.cluster new.cluster
agree old new first second stay repo one other book now here there same at later =
    let held = (current_replicas_hold old first repo one book here at).holds.exact in
    let holds_ = (current_replicas_hold new second repo other now there later).holds.exact in
    let refs = (old.cluster.node one book.path).refs in
    let stays = stay repo book.newest book refs here (omega arith) held in
    let kept : (new.history.entry repo now.newest).content ≡ Some refs =
    subst (λ n. (new.history.entry repo n).content ≡ Some refs) same stays in
    some_is refs (new.cluster.node other now.path).refs (sym kept ∙ holds_)

pub current_replicas_agree : CurrentReplicasAgree
current_replicas_agree old new together =
    subst (λ (c : Cluster). AgreeOnNewest c new) together.is_before
    (subst (λ (c : Cluster). AgreeOnNewest together.before.cluster c) together.is_after
    (agree together.before together.after together.safe_before together.safe_after
    (logs_stay old new together)))

pub current_replicas_agree_at_once : CurrentReplicasAgreeAtOnce
current_replicas_agree_at_once whole safe =
    agree whole whole safe safe (λ repo held book content here within is. is)
