use Rattle.std.proofs.Common.{◌≡◌, take}
use Rattle.refstore.specs.Hook.{text_of}
use Rattle.refstore.proofs.hook.hook_text.Given as goal

-- the lines so far
abbrev pub invariant-loop-update : goal.invariant-loop-update
invariant-loop-update l = l.text ≡ text_of (take l.update-index l.updates)
