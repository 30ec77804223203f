use Rattle.std.proofs.Common.{◌≡◌, drop}
use Rattle.refstore.proofs.Stages.{all_restored}
use Rattle.refstore.proofs.ref_map.RefMap.take_back.Given as goal

-- with what is left taken back as well, all is
abbrev pub invariant-loop-update : goal.invariant-loop-update
invariant-loop-update l =
    all_restored l.self (drop l.update-index l.updates) ≡ all_restored l.initial.self l.updates
