-- The voters so far, put before those of the words that are left, are those of all the words.
use Rattle.std.proofs.Common.{◌≡◌, length}
use Rattle.px_script.specs.Words.{each_of, voter_of}
use Rattle.px_script.proofs.EachLemmas.{after_these}
use Rattle.px_script.proofs.voter_list.read_voters.Given as goal

abbrev pub invariant-loop-word : goal.invariant-loop-word
invariant-loop-word l = each_of voter_of l.initial.words ≡ after_these l.voters (each_of voter_of l.words)

abbrev pub decreases-loop-word : goal.decreases-loop-word
decreases-loop-word l = length l.words
