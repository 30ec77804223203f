use Rattle.std.proofs.Common.{take}
use Rattle.sha1.specs.Sha1.{Holds}
use Rattle.refstore.specs.Hook.{text_of}
use Rattle.refstore.proofs.hook.vote_of.Given as goal

-- the lines so far are hashed
abbrev pub invariant-loop-update : goal.invariant-loop-update
invariant-loop-update l = Holds l.hasher (text_of (take l.update-index l.updates))
