-- What replicas hold, and what a push does to it. The proofs see nothing of these but their names.
use Rattle.std.specs.Prelude.{List, []}
use Rattle.px_base.specs.Hash.{zero_hash}
use Rattle.px_base.specs.RefList.{References}
use Rattle.px_base.specs.declared.hash.Hash.{Hash}
use Rattle.px_base.specs.declared.push.Update.{Update}
use Rattle.refstore.specs.Hook.{vote_on}
use Rattle.refstore.specs.Updates.{after as after_updates}

-- what a replica holds: its references
abbrev pub Content : Type 0
Content = References

-- what a push asks for
abbrev pub Updates : Type 0
Updates = List Update

-- what a member of a push votes
abbrev pub Vote : Type 0
Vote = Hash

-- the content of a repository that was just created
abbrev pub empty : Content
empty = []

-- the content after the updates
abbrev pub after : Content → Updates → Content
after content updates = after_updates content updates

-- the vote on the updates: the hash of what Git's reference-transaction hook is given of them
abbrev pub vote : Updates → Vote
vote updates = vote_on updates

-- the hash that stands at an entry of the log which no vote decided
abbrev pub undecided : Vote
undecided = zero_hash
