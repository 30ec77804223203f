use Rattle.txmanager.proofs.CallLemmas.{cast_counted}
use Rattle.txmanager.proofs.subs.cast_sub.Goals as goal

pub returns-in-Ok-clause-answer : goal.returns-in-Ok-clause-answer
returns-in-Ok-clause-answer c =
    cast_counted c.args.name.now c.args.voter c.args.hash.now c.args.sub.now c.cast.new.self c.in-Ok.counted c.in-Ok.ensures.refused c.in-Ok.ensures.ok c.in-Ok.ensures.value
