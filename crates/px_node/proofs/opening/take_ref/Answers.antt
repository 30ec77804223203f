-- The reference that a row tells is taken over, or it is not.
use Rattle.std.proofs.Common.{ap, sym}
use Rattle.std.specs.Option.{is_some}
use Rattle.px_node.proofs.OpeningLemmas.{as_err, found_unready, no_ref, takes_ref, tells_ref, told_with_ref}
use Rattle.px_node.proofs.opening.take_ref.Goals as goal

pub returns-in-Err-clause-bad : goal.returns-in-Err-clause-bad
returns-in-Err-clause-bad c =
    λ bad path name id comes. c.in-Err.ensures.bad (as_err c.in-Err.error bad) path name id
    (tells_ref c.args.replicas.now.entries c.args.key.now c.args.value.now path name id
    c.requires.told.lawful comes)

pub take_ref-taken-requires-clause-unready : goal.take_ref-taken-requires-clause-unready
take_ref-taken-requires-clause-unready c =
    found_unready c.args.replicas.now.entries c.in-Ok.row.repo c.in-Some.replica.now
    c.requires.told c.in-Some.ensures.value

pub returns-in-Some-clause-ok : goal.returns-in-Some-clause-ok
returns-in-Some-clause-ok c =
    let row = c.in-Ok.row in
    let now_ = c.take_ref-taken.new.self in
    takes_ref c.args.replicas.now.entries (c.get_mut.follows.lender now_).entries c.args.key.now
    c.args.value.now row.repo row.name row.id c.in-Some.replica.now now_ c.in-Ok.ensures.ok
    c.in-Some.ensures.value c.take_ref-taken.result
    ((c.get_mut.follows.holds now_).3 (sym (ap is_some c.in-Some.ensures.value))).0
    c.take_ref-taken.ensures.ok c.take_ref-taken.ensures.accepted

pub returns-in-Some-clause-bad : goal.returns-in-Some-clause-bad
returns-in-Some-clause-bad c =
    let row = c.in-Ok.row in
    let now_ = c.take_ref-taken.new.self in
    no_ref c.args.replicas.now.entries (c.get_mut.follows.lender now_).entries c.args.key.now
    c.args.value.now row.repo row.name row.id c.in-Some.replica.now now_ c.in-Ok.ensures.ok
    c.in-Some.ensures.value c.take_ref-taken.result c.take_ref-taken.ensures.bad

pub returns-in-Some-clause-told : goal.returns-in-Some-clause-told
returns-in-Some-clause-told c =
    let row = c.in-Ok.row in
    let now_ = c.take_ref-taken.new.self in
    told_with_ref c.args.replicas.now.entries (c.get_mut.follows.lender now_).entries
    c.args.key.now c.args.value.now row.repo row.name row.id c.in-Some.replica.now now_
    c.in-Ok.ensures.ok c.in-Some.ensures.value c.take_ref-taken.result
    ((c.get_mut.follows.holds now_).3 (sym (ap is_some c.in-Some.ensures.value))).0
    c.requires.told c.is_lawful.ensures c.take_ref-taken.ensures.ok
