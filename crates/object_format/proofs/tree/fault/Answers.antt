use Rattle.std.proofs.Common.{◌∙◌, sym}
use Rattle.object_format.proofs.Contents.{links_more}
use Rattle.object_format.proofs.Loops.{fault_more, fault_none, fault_stops, has_byte, has_none}
use Rattle.object_format.proofs.tree.fault.Goals as goal

pub loop-rest-smaller : goal.loop-rest-smaller
loop-rest-smaller c = (links_more c.loop-rest.rest.now c.in-Ok.field-0-0 c.in-Ok.more.now c.in-Ok.ensures).1

pub loop-rest-preserved : goal.loop-rest-preserved
loop-rest-preserved c = sym (fault_more c.loop-rest.rest.now c.in-Ok.field-0-0 c.in-Ok.more.now c.in-Ok.ensures) ∙ c.loop-rest.invariant

pub returns-in-Err : goal.returns-in-Err
returns-in-Err c =
    sym (fault_stops c.loop-rest.rest.now c.in-Err.left (has_byte c.loop-rest.rest.now c.loop-rest-test.ensures) c.in-Err.ensures) ∙ c.loop-rest.invariant

pub returns : goal.returns
returns c = sym (fault_none c.loop-rest.rest.now (has_none c.loop-rest.rest.now c.loop-rest-test.ensures)) ∙ c.loop-rest.invariant
