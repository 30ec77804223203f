-- A word whose second part is no object's name is no update.
use Rattle.std.proofs.Common.{sym}
use Rattle.px_script.proofs.PushLemmas.{no_second_object}
use Rattle.px_script.proofs.push_lists.read_update.Goals as goal

pub returns-in_default-read-2 : goal.returns-in_default-read-2
returns-in_default-read-2 c =
    no_second_object c.args.word.now c.in-Some.old.now c.in-Some.rest.now c.in-Some-cut_at.new.now c.in-Some-cut_at.name.now
    c.in-Some.ensures.some c.in-Some-cut_at.ensures.some (sym c.in_default-read-2.ensures.is)
