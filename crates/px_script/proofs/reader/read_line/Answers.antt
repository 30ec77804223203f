-- What the words of a line give is what the line asks.
use Rattle.std.proofs.Common.{sym, ◌∙◌}
use Rattle.std.proofs.lemmas.Bool.{iff_false}
use Rattle.px_script.proofs.LineLemmas.{line_takes, read_is_spelled, unasked}
use Rattle.px_script.proofs.reader.read_line.Goals as goal

-- an event that is read is spelled
pub returns-in-Ok-Some : goal.returns-in-Ok-Some
returns-in-Ok-Some c =
    read_is_spelled c.in-Ok-Some.event c.args.line.now (sym c.in-Ok-Some.ensures.event ∙ c.in-Ok-Some.field-0-is)

-- where none is read, a line that is not silent asks nothing
pub returns-in-Ok-None : goal.returns-in-Ok-None
returns-in-Ok-None c = λ asked asks.
    unasked asked c.args.line.now (iff_false c.is_silent.ensures c.if-is_silent.false)
    (sym c.in-Ok-None.ensures.event ∙ c.in-Ok-None.field-0-is) asks

-- only these words take memory
pub returns-in-Err : goal.returns-in-Err
returns-in-Err c = line_takes c.args.line.now c.in-Err.ensures.memory
