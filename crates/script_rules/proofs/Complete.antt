-- A push of a script that its members vote for ends committed, as it does over moves.
use Rattle.std.proofs.Common.{List, [], ◌∷◌, Result, Ok, Err, refl}
use Rattle.px_ops.specs.declared.refusal.Refusal.{Refusal}
use Rattle.px_cluster.specs.Astray.{MovesOn}
use Rattle.px_cluster.specs.Cluster.{Cluster, empty}
use Rattle.px_cluster.specs.Events.{Answer as Told, Event as Happening}
use Rattle.px_script.specs.declared.event.Event.{Event}
use Rattle.vote_runs.proofs.BegunPushes as moves
use Rattle.vote_runs.proofs.Complete.{pushes_end_committed, pushes_of_all_end_committed}
use Rattle.vote_runs.proofs.Transactions.{moves_both}
use Rattle.script_rules.proofs.ScriptMoves.{no_nodes}
use Rattle.script_rules.specs.Complete.{PushesBeginUntouched, PushesThatAQuorumVotesForEndCommitted, PushesThatAllVoteForEndCommitted}
use Rattle.script_rules.specs.Machine.{Leads, told}
use Rattle.script_rules.specs.Moves.{moves_by, moves_of}
use Rattle.script_rules.specs.Resolved.{resolved}
use Rattle.script_rules.specs.Scripts.{LeadsOn}
use Rattle.script_rules.specs.declared.answer.Answer.{Answer}

-- ---- the moves of a script lead where its events lead

one_on : (old new : Cluster) (asked : Result Happening Refusal) (answer : Told)
    → Leads old asked answer new → MovesOn old (moves_by asked answer) new
one_on old new (Ok happening) answer step = (new, step, refl)
one_on old new (Err why) answer same = same.1

moves_on : (old new : Cluster) (asked : List Event) (answers : List Answer)
    (run : LeadsOn old asked answers new) → MovesOn old (moves_of old new asked answers run) new
moves_on old new [] [] run = run
moves_on old new [] (answer ∷ answers) run = absurd run
moves_on old new (event ∷ asked) [] run = absurd run
moves_on old new (event ∷ asked) (answer ∷ answers) run =
    moves_both (moves_by (resolved old.core event) (told answer))
    (moves_of run.0 new asked answers run.2) old run.0 new
    (one_on old run.0 (resolved old.core event) (told answer) run.1)
    (moves_on run.0 new asked answers run.2)

-- ---- so what is so of moves is so of a script

pub pushes_begin_untouched : PushesBeginUntouched
pushes_begin_untouched asked answers old new repo begun to does =
    moves.pushes_begin_untouched no_nodes (moves_of empty old asked answers to) old new repo begun
    (moves_on empty old asked answers to) does

pub pushes_of_a_quorum_end_committed : PushesThatAQuorumVotesForEndCommitted
pushes_of_a_quorum_end_committed asked more answers others old new push hash on to untouched alone
    votes = pushes_end_committed no_nodes (moves_of empty old asked answers to)
    (moves_of old new more others on) old new push hash (moves_on empty old asked answers to)
    untouched (moves_on old new more others on) alone votes

pub pushes_of_all_members_end_committed : PushesThatAllVoteForEndCommitted
pushes_of_all_members_end_committed asked more answers others old new push hash on to untouched
    alone votes = pushes_of_all_end_committed no_nodes (moves_of empty old asked answers to)
    (moves_of old new more others on) old new push hash (moves_on empty old asked answers to)
    untouched (moves_on old new more others on) alone votes
