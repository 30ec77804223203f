-- What is so of bookings in each two states of a script, by what is so over moves.
use Rattle.px_cluster.specs.Cluster.{Cluster, empty}
use Rattle.cluster_runs.proofs.Current.{booked_replicas_hold, current_replicas_agree, current_replicas_hold, logs_stay}
use Rattle.cluster_runs.proofs.Grown as moves
use Rattle.cluster_runs.proofs.Later.{bookings_never_fall, replicas_go_by_deletes, routed_reads_are_answered}
use Rattle.cluster_runs.proofs.Routes.{reads_go_to_current_replicas}
use Rattle.cluster_runs.specs.Safe.{AreSafeTogether}
use Rattle.script_rules.proofs.ScriptMoves.{every_state_is_safe, no_nodes, run_moves}
use Rattle.script_rules.specs.Booked.{BookingsNeverFall, CurrentReplicasAgree, CurrentReplicasHold, HoldWhatIsBooked, NewestNeverFalls, OfEachTwoStates, ReadsGoToCurrentReplicas, ReplicasGoByDeletes, RoutedReadsAreAnswered}

pub newest_never_falls : NewestNeverFalls
newest_never_falls old new states =
    let on = run_moves old new states.more states.others states.on in
    moves.newest_never_falls old new on.moves on.on

-- what follows of two states that are safe together is so of two states of a script
of_each : (law : Cluster → Cluster → Type 0)
    → ((old new : Cluster) → AreSafeTogether old new → law old new) → OfEachTwoStates law
of_each law follows old new states lawful premise =
    follows old new (every_state_is_safe old new states lawful premise)

pub what_is_booked_never_falls : BookingsNeverFall
what_is_booked_never_falls = of_each _ bookings_never_fall

pub what_is_booked_goes_by_deletes : ReplicasGoByDeletes
what_is_booked_goes_by_deletes = of_each _ replicas_go_by_deletes

held : (old new : Cluster) → AreSafeTogether old new → HoldWhatIsBooked old new
held old new together = record {
  together = together;
  log = logs_stay old new together;
  current_before = current_replicas_hold together.before together.safe_before;
  current_after = current_replicas_hold together.after together.safe_after;
  booked_before = booked_replicas_hold together.before together.safe_before;
  booked_after = booked_replicas_hold together.after together.safe_after;
}

pub current_replicas_are_held : CurrentReplicasHold
current_replicas_are_held = of_each HoldWhatIsBooked held

pub current_replicas_are_one : CurrentReplicasAgree
current_replicas_are_one = of_each _ current_replicas_agree

pub routed_reads_come : RoutedReadsAreAnswered
routed_reads_come old new states lawful premise =
    let together = every_state_is_safe old new states lawful premise in
    record { together = together; reads = routed_reads_are_answered old new together }

pub reads_go_there : ReadsGoToCurrentReplicas
reads_go_there asked answers old new repo name generation to does =
    let moves_ = run_moves empty old asked answers to in
    reads_go_to_current_replicas no_nodes moves_.moves old new repo name generation moves_.on does
