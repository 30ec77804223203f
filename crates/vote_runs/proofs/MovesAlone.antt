-- Over moves that leave a transaction alone it stays on record with its push. A cast among them that was
-- accepted leaves what such a cast gives.
use Rattle.std.proofs.Common.{◌≡◌, ◌⊎◌, ℕ, List, [], ◌∷◌, true, false, Option, None, Some, refl, sym, ◌∙◌, ap, subst, inl, inr}
use Rattle.std.specs.List.{AllByRecursion}
use Rattle.node_calls.specs.ReplicaState.{ReplicaState}
use Rattle.px_base.specs.declared.hash.Hash.{Hash}
use Rattle.px_base.specs.declared.ids.TxId.{TxId}
use Rattle.px_base.specs.declared.phase.Phase.{Phase}
use Rattle.px_ops.specs.declared.node_refusal.NodeRefusal.{NodeRefusal}
use Rattle.px_ops.specs.declared.op.Op.{Op}
use Rattle.px_ops.specs.declared.op.Op.TheVariants as op
use Rattle.px_ops.specs.declared.refusal.Refusal.{Refusal}
use Rattle.px_ops.specs.declared.reply.Reply.{Reply}
use Rattle.px_ops.specs.declared.reply.Reply.TheVariants as reply
use Rattle.txmanager.specs.Registry.{answer_at}
use Rattle.txmanager.specs.VoterCalls.{after_cast, cast_answer}
use Rattle.txmanager.specs.Voting.{Voting}
use Rattle.voters.specs.declared.voter_result.VoterResult.{VoterResult}
use Rattle.px_cluster.specs.Acknowledged.{done_in, event_refusal}
use Rattle.px_cluster.specs.Astray.{FencesUnanswered, GoesAstray, GoesUnanswered, Happens, IsLost, Move, Moves, MovesOn, Unanswered}
use Rattle.px_cluster.specs.Cluster.{Cluster}
use Rattle.px_cluster.specs.Core.{Core, OpenPush, push_of, voting}
use Rattle.px_cluster.specs.Deliveries.{Delivers, Fences, ReadsRefs, TakesSnapshot}
use Rattle.px_cluster.specs.Effects.{Effect, Location, effect_of, location_of, source_of}
use Rattle.px_cluster.specs.Events.{Answer, Event, Replied, Voted, refused}
use Rattle.px_cluster.specs.Events as event
use Rattle.px_cluster.specs.Ledger.{Purpose, answered}
use Rattle.px_cluster.specs.Ops.{answer_of, left_by, refusal_of, told, unless_refused}
use Rattle.px_cluster.specs.Pushes.{finish_reply}
use Rattle.px_cluster.specs.Refusals.{refusal_in}
use Rattle.px_cluster.specs.Step.{IsAsked, Step, keeps_nothing, settling, tells_done}
use Rattle.cluster_form.proofs.Induction.{first_none}
use Rattle.cluster_form.proofs.Lists.{bool}
use Rattle.vote_runs.specs.Complete.{HasAccepted, IsAcceptedCast, IsLeftAlone, IsRefused, LeavesAlone, hinders}
use Rattle.vote_runs.proofs.LeftAlone.{Holds, counted, left_alone}

-- ---- what hinders is not answered with a refusal, unless it is refused

-- a Finish answers an end
finish_told : (vote : Option Voting) (push : Option OpenPush) (why : Refusal)
    → finish_reply vote push ≡ reply.Refused why → ⊥
finish_told None push why is = cc
finish_told (Some vote) None why is = cc
finish_told (Some vote) (Some push) why is = cc

-- by its reply
hinders_so : (tx : TxId) (core : Core) (asked : Op) (why : Refusal) → hinders tx asked ≡ true
    → answer_of core asked ≡ reply.Refused why → ⊥
hinders_so tx core (op.Withdraw other voter) why hinder is = cc
hinders_so tx core (op.Cancel other) why hinder is = cc
hinders_so tx core (op.Stop other) why hinder is = cc
hinders_so tx core (op.Close other) why hinder is = cc
hinders_so tx core (op.Finish other) why hinder is =
    finish_told (voting core other) (push_of core other) why is
hinders_so tx core other why hinder is = let z : false ≡ true = hinder in cc

-- so a cause was found
was_refused : (tx : TxId) (core : Core) (asked : Op) (cause_ : Option Refusal) (why : Refusal)
    → hinders tx asked ≡ true
    → Replied (told cause_ (answer_of core asked)) ≡ refused why → cause_ ≡ None → ⊥
was_refused tx core asked None why hinder is none =
    hinders_so tx core asked why hinder
    (let same : answer_of core asked ≡ reply.Refused why = cc in same)
was_refused tx core asked (Some cause_) why hinder is none =
    let z : Some cause_ ≡ None = none in cc

-- ---- each move

module _ (tx : TxId) (push : OpenPush) (Q : Voting → Type 0)
    (keeps : (name : List ℕ) (phase : Phase) (hash : Hash) (old : Voting) → Q old
    → Q (after_cast name phase hash old)) where
  abbrev HoldsIn : Cluster → Type 0
  HoldsIn cluster = Holds tx push Q cluster.core

  -- an operation, refused or not
  asking : (old new : Cluster) (asked : Op) (answer : Answer) → hinders tx asked ≡ false
      → IsAsked old asked answer new → HoldsIn old → HoldsIn new
  asking old new asked answer alone is holds =
      subst HoldsIn (sym is.leads) (by (event_refusal old asked))
    where
      by : (refusal : Option Refusal) → HoldsIn (unless_refused refusal old (done_in old asked))
      by None = left_alone tx push Q keeps old.core asked alone holds
      by (Some why) = holds

  -- .. refused
  asking_refused : (old new : Cluster) (asked : Op) (answer : Answer) → IsRefused answer
      → IsAsked old asked answer new → HoldsIn old → HoldsIn new
  asking_refused old new asked answer why is holds = elim (bool (hinders tx asked)) [
    | inr alone ↦ asking old new asked answer alone is holds
    | inl hinder ↦ subst HoldsIn (sym is.leads) (by hinder (event_refusal old asked) refl)
  ]
    where
      by : hinders tx asked ≡ true → (refusal : Option Refusal) → event_refusal old asked ≡ refusal
          → HoldsIn (unless_refused refusal old (done_in old asked))
      by hinder None none = absurd (was_refused tx old.core asked (event_refusal old asked) why.0
          hinder (sym is.replied ∙ why.1) none)
      by hinder (Some cause_) none = holds

  -- the core as it was
  same_core : (old new : Cluster) → new ≡ old → HoldsIn old → HoldsIn new
  same_core old new is holds = subst HoldsIn (sym is) holds

  module _ {A : Type 0} (refuses : ReplicaState → NodeRefusal → Type 0)
      (does : ReplicaState → A → ReplicaState → Type 0) (tells : A → Answer)
      (keeps_ : Purpose → Purpose) where
    -- a delivery
    delivering : (old new : Cluster) (effect : Option Effect) (answer : Answer)
        → Delivers refuses does tells keeps_ old effect answer new → HoldsIn old → HoldsIn new
    delivering old new None answer is = same_core old new is.1
    delivering old new (Some effect) answer (inl is) = same_core old new is.same
    delivering old new (Some effect) answer (inr is) =
        λ holds. subst HoldsIn (sym is.changes) holds

  -- a fence that is delivered
  fencing : (old new : Cluster) (effect : Option Effect) (answer : Answer)
      → Fences old effect answer new → HoldsIn old → HoldsIn new
  fencing old new None answer is = same_core old new is.1
  fencing old new (Some effect) answer is = λ holds. subst HoldsIn (sym is.1) holds

  -- references that are read
  reading : (old new : Cluster) (location : Option Location) (answer : Answer)
      → ReadsRefs old location answer new → HoldsIn old → HoldsIn new
  reading old new None answer is = same_core old new is.1
  reading old new (Some location) answer is = same_core old new is.1

  -- a snapshot that is taken
  taking_snapshot : (old new : Cluster) (source : Option Location) (effect : Option Effect)
      (answer : Answer) → TakesSnapshot old source effect answer new → HoldsIn old → HoldsIn new
  taking_snapshot old new source None answer is = same_core old new is.1
  taking_snapshot old new None (Some effect) answer is = same_core old new is.1
  taking_snapshot old new (Some source) (Some effect) answer (inl is) = same_core old new is.same
  taking_snapshot old new (Some source) (Some effect) answer (inr is) =
      λ holds. subst HoldsIn (sym is.kept) holds

  -- each event
  by_event : (old new : Cluster) (happened : Event) (answer : Answer)
      → IsRefused answer ⊎ LeavesAlone tx happened
      → Step old happened answer new → HoldsIn old → HoldsIn new
  by_event old new (event.Asks asked) answer (inl why) is =
      asking_refused old new asked answer why is
  by_event old new (event.Asks asked) answer (inr alone) is =
      asking old new asked answer alone is
  by_event old new (event.Settled repo storage lease) answer alone is =
      asking old new (settling old repo storage lease) answer refl is
  by_event old new (event.Make storage repo lease) answer alone is =
      delivering _ _ tells_done answered old new (effect_of old (event.Make storage repo lease))
      answer is
  by_event old new (event.Prepare other storage pushed) answer alone is =
      delivering _ _ Voted keeps_nothing old new
      (effect_of old (event.Prepare other storage pushed)) answer is
  by_event old new (event.Commit other storage) answer alone is =
      delivering _ _ Voted answered old new (effect_of old (event.Commit other storage)) answer is
  by_event old new (event.Abort other storage) answer alone is =
      delivering _ _ tells_done keeps_nothing old new (effect_of old (event.Abort other storage))
      answer is
  by_event old new (event.Refs storage repo) answer alone is =
      reading old new (location_of old repo storage) answer is
  by_event old new (event.TakeSnapshot job lease) answer alone is =
      let effect = effect_of old (event.TakeSnapshot job lease) in
      taking_snapshot old new (source_of old job effect) effect answer is
  by_event old new (event.Apply job lease) answer alone is =
      delivering _ _ tells_done answered old new (effect_of old (event.Apply job lease)) answer is
  by_event old new (event.Remove job lease) answer alone is =
      delivering _ _ tells_done answered old new (effect_of old (event.Remove job lease)) answer is
  by_event old new (event.Fence storage repo lease) answer alone is =
      fencing old new (effect_of old (event.Fence storage repo lease)) answer is
  by_event old new event.Restart answer (inl why) is = absurd
      (let z : Replied reply.Done ≡ refused why.0 = sym is.replied ∙ why.1 in cc)
  by_event old new event.Restart answer (inr alone) is = absurd alone

  -- an effect whose answer is lost
  by_loss : {A : Type 0} (does : ReplicaState → A → ReplicaState → Type 0) (old new : Cluster)
      (effect : Option Effect) → GoesUnanswered does old effect new → HoldsIn old → HoldsIn new
  by_loss does old new None is = absurd is
  by_loss does old new (Some effect) is = λ holds. subst HoldsIn (sym is.changes) holds

  -- a fence whose answer is lost
  by_fence_loss : (old new : Cluster) (effect : Option Effect) → FencesUnanswered old effect new
      → HoldsIn old → HoldsIn new
  by_fence_loss old new None is = absurd is
  by_fence_loss old new (Some effect) is = λ holds. subst HoldsIn (sym is) holds

  -- whichever it is
  astray : (old new : Cluster) (happened : Event) → Unanswered old happened new → HoldsIn old
      → HoldsIn new
  astray old new (event.Make storage repo lease) is =
      by_loss _ old new (effect_of old (event.Make storage repo lease)) is
  astray old new (event.Prepare other storage pushed) is =
      by_loss _ old new (effect_of old (event.Prepare other storage pushed)) is
  astray old new (event.Commit other storage) is =
      by_loss _ old new (effect_of old (event.Commit other storage)) is
  astray old new (event.Abort other storage) is =
      by_loss _ old new (effect_of old (event.Abort other storage)) is
  astray old new (event.Apply job lease) is =
      by_loss _ old new (effect_of old (event.Apply job lease)) is
  astray old new (event.Remove job lease) is =
      by_loss _ old new (effect_of old (event.Remove job lease)) is
  astray old new (event.Fence storage repo lease) is =
      by_fence_loss old new (effect_of old (event.Fence storage repo lease)) is
  astray old new (event.Asks asked) is = absurd is
  astray old new (event.Settled repo storage lease) is = absurd is
  astray old new (event.Refs storage repo) is = absurd is
  astray old new (event.TakeSnapshot job lease) is = absurd is
  astray old new event.Restart is = absurd is

  -- each move
  by_move : (old new : Cluster) (move : Move) → IsLeftAlone tx move → Moves old move new
      → HoldsIn old → HoldsIn new
  by_move old new (Happens happened answer) alone is = by_event old new happened answer alone is
  by_move old new (GoesAstray happened) alone is = astray old new happened is
  by_move old new (IsLost storage test) alone is =
      λ holds. subst HoldsIn (sym is) holds

  -- .. and lists of them
  pub stays_on_record : (moves : List Move) (old new : Cluster) → MovesOn old moves new
      → AllByRecursion (IsLeftAlone tx) moves → HoldsIn old → HoldsIn new
  stays_on_record [] old new is alone holds = same_core old new is holds
  stays_on_record (move ∷ moves) old new is alone holds =
      stays_on_record moves is.0 new is.2 alone.1 (by_move old is.0 move alone.0 is.1 holds)

-- ---- a cast that was accepted

-- a result is no refusal
not_told : (why : Option Refusal) (answer : Reply) (sub : ℕ) (result : VoterResult)
    → Replied (reply.Counted sub result) ≡ Replied (told why answer) → why ≡ None
not_told None answer sub result is = refl
not_told (Some why) answer sub result is = absurd (cc)

module _ (tx : TxId) (push : OpenPush) (name : List ℕ) (phase : Phase) (hash : Hash)
    (Q R : Voting → Type 0)
    (keeps : (name : List ℕ) (phase : Phase) (hash : Hash) (old : Voting) → Q old
    → Q (after_cast name phase hash old))
    (still : (name : List ℕ) (phase : Phase) (hash : Hash) (old : Voting) → R old
    → R (after_cast name phase hash old))
    (gives : (old : Voting) → Q old → refusal_in (cast_answer name phase hash old) ≡ None
    → R (after_cast name phase hash old)) where
  -- what it leaves
  leaves : (core : Core) → refusal_of core (op.Cast tx name phase hash) ≡ None
      → Holds tx push Q core → Holds tx push R (left_by core (op.Cast tx name phase hash))
  leaves core none holds = counted tx push R core name phase hash holds.vote (voting core tx) refl
      holds.there holds.given holds.turn (gives holds.vote holds.so
      (ap (λ v. refusal_in (answer_at v tx (cast_answer name phase hash))) (sym holds.there)
      ∙ none))

  -- the move
  accepted : (old new : Cluster) (move : Move) → IsAcceptedCast tx name phase hash move
      → Moves old move new → Holds tx push Q old.core → Holds tx push R new.core
  accepted old new move cast is holds =
      let asked = op.Cast tx name phase hash in
      let step : IsAsked old asked (Replied (reply.Counted cast.sub cast.result)) new =
      subst (λ m. Moves old m new) cast.asked is in
      let none = not_told (event_refusal old asked) (answer_of old.core asked) cast.sub cast.result
      step.replied in
      subst (λ (c : Cluster). Holds tx push R c.core)
      (sym (step.leads ∙ ap (λ why. unless_refused why old (done_in old asked)) none))
      (leaves old.core (first_none (refusal_of old.core asked) _ none) holds)

  -- .. among others
  pub once_accepted : (moves : List Move) (old new : Cluster) → MovesOn old moves new
      → AllByRecursion (IsLeftAlone tx) moves → HasAccepted tx name phase hash moves
      → Holds tx push Q old.core → Holds tx push R new.core
  once_accepted [] old new is alone cast holds = absurd cast
  once_accepted (move ∷ moves) old new is alone (inl cast) holds =
      stays_on_record tx push R still moves is.0 new is.2 alone.1
      (accepted old is.0 move cast is.1 holds)
  once_accepted (move ∷ moves) old new is alone (inr later) holds =
      once_accepted moves is.0 new is.2 alone.1 later
      (by_move tx push Q keeps old is.0 move alone.0 is.1 holds)
