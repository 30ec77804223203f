use Rattle.std.proofs.Common.{arith, subst, sym}
use Rattle.std.proofs.lemmas.List.{take_all}
use Rattle.node_rows.proofs.KeyLemmas.{HasNoNul, cut_at, not_cut}
use Rattle.node_rows.proofs.reading.parts_of.Goals as goal

pub returns-then-byte-eq0 : goal.returns-then-byte-eq0
returns-then-byte-eq0 c =
    sym (cut_at c.args.key.now c.loop-place.place (omega arith) c.loop-place.invariant
    c.if-byte-eq0.true)

pub returns : goal.returns
returns c =
    sym (not_cut c.args.key.now (subst HasNoNul
    (take_all c.loop-place.place c.args.key.now (omega arith)) c.loop-place.invariant))
