-- Who names the hash of a commit in a script, by what is so over moves.
use Rattle.std.proofs.Common.{◌≡◌, ℕ, List, Some, Result, Ok, Err, refl, subst}
use Rattle.px_base.specs.declared.hash.Hash.{Hash}
use Rattle.px_ops.specs.declared.refusal.Refusal.{Refusal}
use Rattle.txmanager.specs.Voting.{Voting}
use Rattle.px_cluster.specs.Astray.{Happens}
use Rattle.px_cluster.specs.Cluster.{Cluster, empty}
use Rattle.px_cluster.specs.Core.{voting}
use Rattle.px_cluster.specs.Events.{Event as Happening}
use Rattle.px_script.specs.declared.event.Event.{Event}
use Rattle.cluster_form.specs.Turns.{panel_for}
use Rattle.vote_runs.proofs.Decided.{open_pushes_commit_what_they_decided}
use Rattle.vote_runs.proofs.Named.{issued_commits_are_named}
use Rattle.vote_runs.specs.Commits.{IsNamedByQuorum, IsOut}
use Rattle.script_rules.proofs.ScriptMoves.{no_nodes, run_moves}
use Rattle.script_rules.specs.Commits.{CommitsAreNamed, IsIssuedByEvent, OpenPushesCommitWhatTheyDecided}
use Rattle.script_rules.specs.Machine.{Leads, told}
use Rattle.script_rules.specs.Resolved.{resolved}
use Rattle.script_rules.specs.Scripts.{LeadsOn, LeadsTo}
use Rattle.script_rules.specs.declared.answer.Answer.{Answer}

module _ (asked more : List Event) (answers others : List Answer) (old new later : Cluster)
    (event : Event) (answer : Answer) (repo storage lease : ℕ) (hash : Hash)
    (to : LeadsTo asked answers old) (out : IsOut new repo storage lease hash)
    (before : ¬ (IsOut old repo storage lease hash)) (on : LeadsOn new more others later) where
  abbrev IsNamed : Type 0
  IsNamed = (by : IsIssuedByEvent old event answer repo storage lease hash)
      × ((vote : Voting) → voting later.core by.issued.tx ≡ Some vote
      → IsNamedByQuorum (panel_for old.core.storages by.issued.push.members).threshold vote hash)

  named_by : (result : Result Happening Refusal) → resolved old.core event ≡ result
      → Leads old result (told answer) new → IsNamed
  named_by (Ok happening) is step =
      let first = run_moves empty old asked answers to in
      let second = run_moves new later more others on in
      let named = issued_commits_are_named no_nodes first.moves second.moves old new later
      (Happens happening (told answer)) repo storage lease hash first.on step out before
      second.on in
      (record { happening = happening; is = is; issued = named.0 }, named.1)
  named_by (Err why) is same =
      absurd (before (subst (λ (c : Cluster). IsOut c repo storage lease hash) same.1 out))

pub commits_are_named : CommitsAreNamed
commits_are_named asked more answers others old new later event answer repo storage lease hash to
    does out before on =
    named_by asked more answers others old new later event answer repo storage lease hash to out
    before on (resolved old.core event) refl does

pub open_pushes_commit_what_is_decided : OpenPushesCommitWhatTheyDecided
open_pushes_commit_what_is_decided asked answers new tx push vote storage hash to turn there out =
    let moves = run_moves empty new asked answers to in
    open_pushes_commit_what_they_decided no_nodes moves.moves new tx push vote storage hash moves.on
    turn there out
