-- A word that is not 'with' is an update, or nothing is read.
use Rattle.std.proofs.Common.{sym, ◌∙◌}
use Rattle.px_script.proofs.PushLemmas.{no_update, one_more_update}
use Rattle.px_script.proofs.push_lists.read_updates.Goals as goal

pub loop-word-preserved : goal.loop-word-preserved
loop-word-preserved c =
    one_more_update _ _ _ _ _ _ _ _ c.loop-word.invariant c.in-Some.ensures.some c.if-is_text.ensures (sym c.in-Some-2.is ∙ c.in_ok-update.ensures) c.in_ok-push-in-Some-2.ensures.ok

pub returns-in-None-clause-updates : goal.returns-in-None-clause-updates
returns-in-None-clause-updates c =
    no_update _ _ _ _ _ c.loop-word.invariant.0 c.in-Some.ensures.some c.if-is_text.ensures (sym c.in-None.is ∙ c.in_ok-update.ensures)
