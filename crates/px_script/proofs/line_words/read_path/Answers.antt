-- A path is what the reader of paths of px_base takes.
use Rattle.std.proofs.Common.{ap, sym, ◌∙◌, ℕ, List, Some}
use Rattle.px_script.proofs.NameLemmas.{path_of-bad, path_of-path}
use Rattle.px_script.proofs.line_words.read_path.Goals as goal

pub returns-in-Ok : goal.returns-in-Ok
returns-in-Ok c = ap (λ (p : List ℕ). Some p) c.in-Ok.ensures.ok.1 ∙ sym (path_of-path c.args.word.now c.in-Ok.ensures.ok.0)

pub returns-in-Err-BadName : goal.returns-in-Err-BadName
returns-in-Err-BadName c =
    sym (path_of-bad c.args.word.now c.in-Err-BadName.field-0 c.in-Err-BadName.field-0-0 c.in-Err-BadName.field-0-is c.in-Err-BadName.ensures.err)
