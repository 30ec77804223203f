-- The object that a row tells is taken over, or it is not.
use Rattle.std.proofs.Common.{ap, sym}
use Rattle.std.specs.Option.{is_some}
use Rattle.px_node.proofs.OpeningLemmas.{as_err, found_unready, no_object, takes_object, tells_object, told_with_object}
use Rattle.px_node.proofs.opening.take_object.Goals as goal

pub returns-in-Err-clause-bad : goal.returns-in-Err-clause-bad
returns-in-Err-clause-bad c =
    λ bad path id object comes. c.in-Err.ensures.bad (as_err c.in-Err.error bad) path id object
    (tells_object c.args.replicas.now.entries c.args.key.now c.args.value.now path id object
    c.requires.told.lawful comes)

pub take_object-taken-requires : goal.take_object-taken-requires
take_object-taken-requires c = record {
  unready = found_unready c.args.replicas.now.entries c.in-Ok.row.repo c.in-Some.replica.now
      c.requires.told c.in-Some.ensures.value;
}

pub returns-in-Some-clause-ok : goal.returns-in-Some-clause-ok
returns-in-Some-clause-ok c =
    let row = c.in-Ok.row in
    let now_ = c.take_object-taken.new.self in
    takes_object c.args.replicas.now.entries (c.get_mut.follows.lender now_).entries c.args.key.now
    c.args.value.now row.repo row.id row.object c.in-Some.replica.now now_ c.in-Ok.ensures.ok
    c.in-Some.ensures.value c.take_object-taken.result
    ((c.get_mut.follows.holds now_).3 (sym (ap is_some c.in-Some.ensures.value))).0
    c.take_object-taken.ensures.ok c.take_object-taken.ensures.accepted

pub returns-in-Some-clause-bad : goal.returns-in-Some-clause-bad
returns-in-Some-clause-bad c =
    let row = c.in-Ok.row in
    let now_ = c.take_object-taken.new.self in
    no_object c.args.replicas.now.entries (c.get_mut.follows.lender now_).entries c.args.key.now
    c.args.value.now row.repo row.id row.object c.in-Some.replica.now now_ c.in-Ok.ensures.ok
    c.in-Some.ensures.value c.take_object-taken.result c.take_object-taken.ensures.bad

pub returns-in-Some-clause-told : goal.returns-in-Some-clause-told
returns-in-Some-clause-told c =
    let row = c.in-Ok.row in
    let now_ = c.take_object-taken.new.self in
    told_with_object c.args.replicas.now.entries (c.get_mut.follows.lender now_).entries
    c.args.key.now c.args.value.now row.repo row.id row.object c.in-Some.replica.now now_
    c.in-Ok.ensures.ok c.in-Some.ensures.value c.take_object-taken.result
    ((c.get_mut.follows.holds now_).3 (sym (ap is_some c.in-Some.ensures.value))).0
    c.requires.told c.is_lawful.ensures c.take_object-taken.ensures.ok
