-- A name is what the reader of names of px_base takes.
use Rattle.std.proofs.Common.{◌∙◌}
use Rattle.px_script.proofs.NameLemmas.{name_of-read}
use Rattle.px_script.proofs.line_words.read_name.Goals as goal

pub returns : goal.returns
returns c = c.ok.ensures.value ∙ name_of-read c.args.word.now c.read.result c.read.ensures.ok c.read.ensures.err
