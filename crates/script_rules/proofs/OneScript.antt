-- What the lines of a script ask is one list of events, and these have one run.
use Rattle.std.proofs.Common.{List, [], ◌∷◌, Option, refl, subst, sym}
use Rattle.px_cluster.specs.Cluster.{empty}
use Rattle.px_script.proofs.LineLemmas.{asked_once}
use Rattle.px_script.specs.declared.event.Event.{Event}
use Rattle.script_run.proofs.OneReading as reading
use Rattle.script_run.proofs.Runs.{one_run}
use Rattle.script_run.specs.Machine.{events, Runs}
use Rattle.script_run.specs.Script.{AllAsk}
use Rattle.script_rules.specs.Laws.{LinesAreOne, ScriptIsOne}
use Rattle.script_rules.specs.Machine.{machine}
use Rattle.script_rules.proofs.OneAnswer.{one_answer}

pub one_list : LinesAreOne
one_list [] [] [] a b = refl
one_list [] [] (o ∷ others) a b = absurd b
one_list [] (x ∷ asked) others a b = absurd a
one_list (l ∷ lines) [] others a b = absurd a
one_list (l ∷ lines) (x ∷ asked) [] a b = absurd b
one_list (l ∷ lines) (x ∷ asked) (o ∷ others) a b =
    let one = asked_once x o l a.0.asks b.0.asks in
    let rest = one_list lines asked others a.1 b.1 in
    λ i. one i ∷ rest i

pub one_script : ScriptIsOne
one_script text answers others new other a b =
    let lines = reading.one_list a.lines b.lines text a.whole b.whole in
    let asked = one_list a.lines a.asked b.asked a.lawful
    (subst (AllAsk machine b.asked) (sym lines) b.lawful) in
    one_run machine one_answer empty new other (events a.asked) answers others a.run
    (subst (λ (es : List (Option Event)). Runs machine empty (events es) others other) (sym asked) b.run)
