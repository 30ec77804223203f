-- When a commit is issued in a script, and who voted for its hash.
use Rattle.std.specs.Prelude.{◌≡◌, ℕ, List, Ok, Some}
use Rattle.px_base.specs.declared.hash.Hash.{Hash}
use Rattle.px_base.specs.declared.ids.TxId.{TxId}
use Rattle.txmanager.specs.Voting.{Voting}
use Rattle.px_cluster.specs.Astray.{Happens}
use Rattle.px_cluster.specs.Cluster.{Cluster}
use Rattle.px_cluster.specs.Core.{OpenPush, push_of, voting}
use Rattle.px_cluster.specs.Events.{Event as Happening}
use Rattle.px_script.specs.declared.event.Event.{Event}
use Rattle.cluster_form.specs.Turns.{panel_for}
use Rattle.vote_runs.specs.Commits.{IsIssuedBy, IsNamedByQuorum, IsOut}
use Rattle.script_rules.specs.Machine.{Does, told}
use Rattle.script_rules.specs.Resolved.{resolved}
use Rattle.script_rules.specs.Scripts.{LeadsOn, LeadsTo}
use Rattle.script_rules.specs.declared.answer.Answer.{Answer}

-- The event issued the commit: to the cluster it is a collect in the prepared phase, by the name of
-- the member, and it was answered that this one is committed, with a verdict of the hash.
pub record IsIssuedByEvent (old : Cluster) (event : Event) (answer : Answer)
    (repo storage lease : ℕ) (hash : Hash) : Type 0 where
  pub happening : Happening
  pub is : resolved old.core event ≡ Ok happening
  pub issued : IsIssuedBy old (Happens happening (told answer)) repo storage lease hash

-- A commit that is out after an event, and was not before it, was issued by that event. In the
-- state after it, and in each later one in which the transaction of the push is still on record,
-- standing votes of at least the threshold of the members' panel name its hash.
abbrev pub CommitsAreNamed : Type 0
CommitsAreNamed = (asked more : List Event) (answers others : List Answer) (old new later : Cluster)
    (event : Event) (answer : Answer) (repo storage lease : ℕ) (hash : Hash)
    → LeadsTo asked answers old → Does old event answer new → IsOut new repo storage lease hash
    → ¬ (IsOut old repo storage lease hash) → LeadsOn new more others later
    → (by : IsIssuedByEvent old event answer repo storage lease hash)
    × ((vote : Voting) → voting later.core by.issued.tx ≡ Some vote
    → IsNamedByQuorum (panel_for old.core.storages by.issued.push.members).threshold vote hash)

-- In every state, a commit that was issued under the lease of an open push is that of the hash that
-- its prepared phase decided for, and standing votes of at least the threshold name it.
abbrev pub OpenPushesCommitWhatTheyDecided : Type 0
OpenPushesCommitWhatTheyDecided = (asked : List Event) (answers : List Answer) (new : Cluster)
    (tx : TxId) (push : OpenPush) (vote : Voting) (storage : ℕ) (hash : Hash)
    → LeadsTo asked answers new → push_of new.core tx ≡ Some push → voting new.core tx ≡ Some vote
    → IsOut new push.repo storage push.lease hash
    → IsNamedByQuorum (panel_for new.core.storages push.members).threshold vote hash
