use Rattle.std.proofs.Common.{◌≡◌, take}
use Rattle.txmanager.proofs.subs.copied.Given as goal

-- those so far are copied
abbrev pub invariant-loop-sub : goal.invariant-loop-sub
invariant-loop-sub l = l.copies.items ≡ take l.sub-index l.subs
