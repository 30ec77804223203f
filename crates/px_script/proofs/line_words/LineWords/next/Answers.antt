-- The next word stands before the next space, or is all that is left.
use Rattle.px_script.proofs.WordLemmas.{cut_word, last_word}
use Rattle.px_script.proofs.line_words.LineWords.next.Goals as goal

pub returns-in-Some-clause-some : goal.returns-in-Some-clause-some
returns-in-Some-clause-some c =
    cut_word c.self.inside.is_over c.self.inside.bytes.now c.in-Some.word.now c.in-Some.rest.now c.args.self.now
    c.self.view_is c.if-self.false c.in-Some.ensures.some

pub returns-in-None-clause-some : goal.returns-in-None-clause-some
returns-in-None-clause-some c =
    last_word c.self.inside.is_over c.self.inside.bytes.now c.args.self.now c.self.view_is c.if-self.false c.in-None.ensures.none
