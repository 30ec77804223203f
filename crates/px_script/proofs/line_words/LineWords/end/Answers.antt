-- Where the line is not over, a word is left.
use Rattle.px_script.proofs.WordLemmas.{not_over}
use Rattle.px_script.proofs.line_words.LineWords.end.Goals as goal

pub returns-else-self : goal.returns-else-self
returns-else-self c = not_over c.self.inside.is_over c.self.inside.bytes.now c.args.self.now c.self.view_is c.if-self.false
