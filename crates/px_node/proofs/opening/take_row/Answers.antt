-- The next row is taken over, or is the first bad one.
use Rattle.node_rows.proofs.ReadTables.{bad_table}
use Rattle.px_node.proofs.Places.{OnOk-on}
use Rattle.px_node.proofs.RowSteps.{bad_row_of_object, bad_row_of_ref, bad_row_of_replica, row_of_object, row_of_ref, row_of_replica}
use Rattle.px_node.specs.Opening.{TakesObject, TakesRef, TakesReplica}
use Rattle.px_node.specs.Shelf.{place_at}
use Rattle.px_node.proofs.opening.take_row.Goals as goal

pub returns-then-table-eq6-clause-ok : goal.returns-then-table-eq6-clause-ok
returns-then-table-eq6-clause-ok c =
    let old = place_at c.args.replicas.now.entries in
    let new = place_at c.take_replica.new.replicas.entries in
    OnOk-on (TakesReplica old new c.args.key.now c.args.value.now) _ c.take_replica.result
    (λ takes rows last reads next. row_of_replica c.args.table rows last old new c.args.key.now
    c.args.value.now reads next c.if-table-eq6.true takes)
    c.take_replica.ensures.ok

pub returns-then-table-eq6-clause-bad : goal.returns-then-table-eq6-clause-bad
returns-then-table-eq6-clause-bad c =
    let old = place_at c.args.replicas.now.entries in
    λ bad rows last reads next. bad_row_of_replica c.args.table rows last old old c.args.key.now
    c.args.value.now reads next c.if-table-eq6.true (c.take_replica.ensures.bad bad)

pub returns-then-table-eq7-clause-ok : goal.returns-then-table-eq7-clause-ok
returns-then-table-eq7-clause-ok c =
    let old = place_at c.args.replicas.now.entries in
    let new = place_at c.take_ref.new.replicas.entries in
    OnOk-on (TakesRef old new c.args.key.now c.args.value.now) _ c.take_ref.result
    (λ takes rows last reads next. row_of_ref c.args.table rows last old new c.args.key.now
    c.args.value.now reads next c.if-table-eq7.true takes)
    c.take_ref.ensures.ok

pub returns-then-table-eq7-clause-bad : goal.returns-then-table-eq7-clause-bad
returns-then-table-eq7-clause-bad c =
    let old = place_at c.args.replicas.now.entries in
    λ bad rows last reads next. bad_row_of_ref c.args.table rows last old old c.args.key.now
    c.args.value.now reads next c.if-table-eq7.true (c.take_ref.ensures.bad bad)

pub returns-then-table-eq8-clause-ok : goal.returns-then-table-eq8-clause-ok
returns-then-table-eq8-clause-ok c =
    let old = place_at c.args.replicas.now.entries in
    let new = place_at c.take_object.new.replicas.entries in
    OnOk-on (TakesObject old new c.args.key.now c.args.value.now) _ c.take_object.result
    (λ takes rows last reads next. row_of_object c.args.table rows last old new c.args.key.now
    c.args.value.now reads next c.if-table-eq8.true takes)
    c.take_object.ensures.ok

pub returns-then-table-eq8-clause-bad : goal.returns-then-table-eq8-clause-bad
returns-then-table-eq8-clause-bad c =
    let old = place_at c.args.replicas.now.entries in
    λ bad rows last reads next. bad_row_of_object c.args.table rows last old old c.args.key.now
    c.args.value.now reads next c.if-table-eq8.true (c.take_object.ensures.bad bad)

pub returns-clause-bad : goal.returns-clause-bad
returns-clause-bad c = λ bad rows last reads next.
    bad_table rows c.args.table last (place_at c.args.replicas.now.entries) c.args.key.now
    c.args.value.now reads next c.if-table-eq6.false c.if-table-eq7.false c.if-table-eq8.false
