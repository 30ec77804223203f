-- The name of a reference is what the reader of such names of px_base takes.
use Rattle.std.proofs.Common.{ap, sym, ◌∙◌, ℕ, List, Some}
use Rattle.px_script.proofs.NameLemmas.{ref_of-bad, ref_of-name}
use Rattle.px_script.proofs.line_words.read_ref.Goals as goal

pub returns-in-Ok : goal.returns-in-Ok
returns-in-Ok c = ap (λ (n : List ℕ). Some n) c.in-Ok.ensures.ok.1 ∙ sym (ref_of-name c.args.word.now c.in-Ok.ensures.ok.0)

pub returns-in-Err-BadName : goal.returns-in-Err-BadName
returns-in-Err-BadName c =
    sym (ref_of-bad c.args.word.now c.in-Err-BadName.field-0 c.in-Err-BadName.field-0-0 c.in-Err-BadName.field-0-is c.in-Err-BadName.ensures.err)
