-- A push of a script that its members vote for ends committed.
use Rattle.std.specs.Prelude.{List}
use Rattle.std.specs.List.{AllByRecursion}
use Rattle.px_base.specs.declared.hash.Hash.{Hash}
use Rattle.px_base.specs.declared.ids.RepoId.{RepoId}
use Rattle.px_ops.specs.declared.op.Op.TheVariants as op
use Rattle.px_ops.specs.declared.push.Begun.{Begun}
use Rattle.px_ops.specs.declared.reply.Reply.TheVariants as reply
use Rattle.px_cluster.specs.Cluster.{Cluster}
use Rattle.px_cluster.specs.Core.{OpenPush}
use Rattle.px_script.specs.declared.event.Event.{Event}
use Rattle.px_script.specs.declared.event.Event.TheVariants as script
use Rattle.vote_runs.specs.Complete.{AllVoteFor, EndsCommitted, HasBegun, IsLeftAlone, IsUntouched, QuorumVotesFor}
use Rattle.script_rules.specs.Machine.{Does}
use Rattle.script_rules.specs.Moves.{moves_of}
use Rattle.script_rules.specs.Scripts.{LeadsOn, LeadsTo}
use Rattle.script_rules.specs.declared.answer.Answer.{Answer}
use Rattle.script_rules.specs.declared.answer.Answer.TheVariants.{Replied}

-- a line that begins a push and is not refused opens one on which nothing was done yet
abbrev pub PushesBeginUntouched : Type 0
PushesBeginUntouched = (asked : List Event) (answers : List Answer) (old new : Cluster)
    (repo : RepoId) (begun : Begun) → LeadsTo asked answers old
    → Does old (script.Operation (op.Begin repo)) (Replied (reply.Begun begun)) new
    → HasBegun new.core begun

-- From there on lines come of which none hinders the push, by a withdrawal, a cancel, a stop or an
-- end of its transaction, unless it is refused; and in them a quorum of the members vote for one
-- hash in both phases: the push ends committed.
abbrev pub PushesThatAQuorumVotesForEndCommitted : Type 0
PushesThatAQuorumVotesForEndCommitted = (asked more : List Event) (answers others : List Answer)
    (old new : Cluster) (push : OpenPush) (hash : Hash) (on : LeadsOn old more others new)
    → LeadsTo asked answers old → IsUntouched old.core push
    → AllByRecursion (IsLeftAlone push.tx) (moves_of old new more others on)
    → QuorumVotesFor old.core push hash (moves_of old new more others on)
    → EndsCommitted new.core push hash

-- so it does where all members vote so
abbrev pub PushesThatAllVoteForEndCommitted : Type 0
PushesThatAllVoteForEndCommitted = (asked more : List Event) (answers others : List Answer)
    (old new : Cluster) (push : OpenPush) (hash : Hash) (on : LeadsOn old more others new)
    → LeadsTo asked answers old → IsUntouched old.core push
    → AllByRecursion (IsLeftAlone push.tx) (moves_of old new more others on)
    → AllVoteFor old.core push hash (moves_of old new more others on)
    → EndsCommitted new.core push hash
