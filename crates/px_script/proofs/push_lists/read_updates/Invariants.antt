-- The updates so far, put before those of the words that are left before 'with', are those of all the
-- words before it; and what stands behind it is the same.
use Rattle.std.proofs.Common.{◌≡◌, length}
use Rattle.std.specs.List.{after_first, before_first}
use Rattle.px_script.specs.PushWords.{is_with, update_of}
use Rattle.px_script.specs.Words.{each_of}
use Rattle.px_script.proofs.EachLemmas.{after_these}
use Rattle.px_script.proofs.push_lists.read_updates.Given as goal

abbrev pub invariant-loop-word : goal.invariant-loop-word
invariant-loop-word l =
    (each_of update_of (before_first is_with l.initial.words) ≡ after_these l.updates (each_of update_of (before_first is_with l.words)))
    × (after_first is_with l.initial.words ≡ after_first is_with l.words)

abbrev pub decreases-loop-word : goal.decreases-loop-word
decreases-loop-word l = length l.words
