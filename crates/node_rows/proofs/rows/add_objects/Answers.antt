-- One object more was added.
use Rattle.std.proofs.Common.{arith, sym, ◌∙◌}
use Rattle.node_rows.proofs.ComingRows.{not_past, one_more_coming}
use Rattle.node_rows.proofs.rows.add_objects.Goals as goal
use Rattle.node_rows.proofs.rows.add_objects.Goals.{in-Some+in_ok-add_object, in_default}

pub loop-at-preserved : goal.loop-at-preserved
loop-at-preserved c =
    elim c.match-get.branch [
      | in-Some+in_ok-add_object w ↦ rw w.batch-is
          (one_more_coming c.args.repo.now c.args.store.now c.args.objects.now c.loop-at.at
          w.in-Some.object.now c.loop-at.batch w.add_object.new.batch
          (sym w.in-Some.ensures.value) w.in_ok-add_object.ensures
          ∙ c.loop-at.invariant)
      | in_default w ↦ absurd (not_past c.args.objects.now c.loop-at.at (omega arith)
          (sym w.in_default.ensures.value))
    ]
