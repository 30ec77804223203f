-- The objects so far, put before those of the words that are left, are those of all the words.
use Rattle.std.proofs.Common.{◌≡◌, length}
use Rattle.px_script.specs.PushWords.{object_of}
use Rattle.px_script.specs.Words.{each_of}
use Rattle.px_script.proofs.EachLemmas.{after_these}
use Rattle.px_script.proofs.push_lists.read_objects.Given as goal

abbrev pub invariant-loop-word : goal.invariant-loop-word
invariant-loop-word l = each_of object_of l.initial.words ≡ after_these l.objects (each_of object_of l.words)

abbrev pub decreases-loop-word : goal.decreases-loop-word
decreases-loop-word l = length l.words
