-- Where there is room, the creation may be done, and leaves references such as a repository may have.
use Rattle.std.proofs.Common.{inr, sym, ◌∙◌, subst, arith}
use Rattle.px_base.specs.RefList.{IsRefList}
use Rattle.refstore.specs.RefMap.{IsRefMap}
use Rattle.refstore.proofs.Creations.{after-creation, refusal_of-many, Fits-creation, IsRefList-creation}
use Rattle.refstore.proofs.refs.add_apart.Goals as goal

pub returns-then-len-ge-MAX_REFS-clause-refused : goal.returns-then-len-ge-MAX_REFS-clause-refused
returns-then-len-ge-MAX_REFS-clause-refused c =
    inr (refusal_of-many c.args.map.now c.args.name.now c.args.id c.requires.some
    c.requires.absent c.requires.apart
    (omega (arith, c.if-len-ge-MAX_REFS.true, c.len.ensures.len)))

pub returns-clause-ok : goal.returns-clause-ok
returns-clause-ok c =
    c.in_ok-set.ensures.ok
    ∙ sym (after-creation c.args.map.now c.args.name.now c.args.id c.requires.some)

pub returns-clause-list : goal.returns-clause-list
returns-clause-list c = λ lawful.
    subst IsRefList (sym c.in_ok-set.ensures.ok)
    (IsRefList-creation c.args.map.now c.args.name.now c.args.id c.requires.some c.requires.absent
    c.requires.apart (omega (arith, c.if-len-ge-MAX_REFS.false, c.len.ensures.len)) lawful
    (subst IsRefMap c.in_ok-set.ensures.ok c.in_ok-set.ensures.map))

pub returns-clause-accepted : goal.returns-clause-accepted
returns-clause-accepted c =
    Fits-creation c.args.map.now c.args.name.now c.args.id c.requires.some c.requires.absent
    c.requires.apart (omega (arith, c.if-len-ge-MAX_REFS.false, c.len.ensures.len))
