-- What is booked in a script, what is held of it, and what is read.
use Rattle.std.specs.Prelude.{◌++◌, ℕ, List}
use Rattle.px_base.specs.declared.ids.Gen.{Gen}
use Rattle.px_base.specs.declared.ids.RepoId.{RepoId}
use Rattle.px_ops.specs.declared.op.Op.TheVariants as op
use Rattle.px_ops.specs.declared.reply.Reply.TheVariants as reply
use Rattle.px_cluster.specs.Cluster.{Cluster}
use Rattle.px_cluster.specs.Growth.{Grows}
use Rattle.px_script.specs.declared.event.Event.{Event}
use Rattle.px_script.specs.declared.event.Event.TheVariants as script
use Rattle.cluster_runs.specs.Current.{AgreeOnNewest, ContentsStay, EachBookedHolds, EachCurrentHolds}
use Rattle.cluster_runs.specs.Later.{EachReadIsAnswered, GoesByDeletes, IsRouted, NoBookingFalls}
use Rattle.cluster_runs.specs.Safe.{AreSafeTogether}
use Rattle.script_rules.specs.Laws.{AreInOrder}
use Rattle.script_rules.specs.Machine.{Does}
use Rattle.script_rules.specs.Prepared.{AreLawful, HaveOneList}
use Rattle.script_rules.specs.Scripts.{LeadsTo}
use Rattle.script_rules.specs.declared.answer.Answer.{Answer}
use Rattle.script_rules.specs.declared.answer.Answer.TheVariants.{Replied}

-- What is so of each two states of a script, the one before the other, where every state is safe:
-- the updates are lawful, as all are that lines ask for, and no two different lists of them that
-- are handed to nodes under one transaction share a vote.
abbrev pub OfEachTwoStates : (Cluster → Cluster → Type 0) → Type 0
OfEachTwoStates law = (old new : Cluster) (states : AreInOrder old new)
    → AreLawful (states.first ++ states.more) → HaveOneList (states.first ++ states.more)
    → law old new

-- ---- bookings

-- Whatever the lines are, a repository stays on record under its number, with its virtual storage
-- and path, and its newest generation and its last lease do not fall.
abbrev pub NewestNeverFalls : Type 0
NewestNeverFalls = (old new : Cluster) → AreInOrder old new → Grows old.core new.core

abbrev pub BookingsNeverFall : Type 0
BookingsNeverFall = OfEachTwoStates NoBookingFalls

-- and what was booked is absent later only where a delete of it was taken in between
abbrev pub ReplicasGoByDeletes : Type 0
ReplicasGoByDeletes = OfEachTwoStates GoesByDeletes

-- ---- what is held

-- There is one log of what was decided. By it, in both states, each replica that is booked at
-- newest holds exactly that generation, and each that is booked or in doubt one that is not below
-- its booking.
pub record HoldWhatIsBooked (old new : Cluster) : Type 0 where
  pub together : AreSafeTogether old new
  pub log : ContentsStay together.before together.after
  pub current_before : EachCurrentHolds together.before
  pub current_after : EachCurrentHolds together.after
  pub booked_before : EachBookedHolds together.before
  pub booked_after : EachBookedHolds together.after

abbrev pub CurrentReplicasHold : Type 0
CurrentReplicasHold = OfEachTwoStates HoldWhatIsBooked

-- so replicas that are booked at newest hold the same references, as long as newest stays
abbrev pub CurrentReplicasAgree : Type 0
CurrentReplicasAgree = OfEachTwoStates AgreeOnNewest

-- ---- reads

-- By such a log, each read that was routed in the first state is answered in the second
pub record AnswerReads (old new : Cluster) : Type 0 where
  pub together : AreSafeTogether old new
  pub reads : EachReadIsAnswered old together.after

abbrev pub RoutedReadsAreAnswered : Type 0
RoutedReadsAreAnswered = OfEachTwoStates AnswerReads

-- whatever the lines are, one that asks for a read is refused, or it is routed to a storage that is
-- up and whose replica is booked at newest
abbrev pub ReadsGoToCurrentReplicas : Type 0
ReadsGoToCurrentReplicas = (asked : List Event) (answers : List Answer) (old new : Cluster)
    (repo : RepoId) (name : List ℕ) (generation : Gen) → LeadsTo asked answers old
    → Does old (script.Operation (op.RouteRead repo)) (Replied (reply.Route name generation)) new
    → IsRouted old.core repo.0 name generation
