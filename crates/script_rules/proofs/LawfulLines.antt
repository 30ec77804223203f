-- The updates that lines ask for are lawful.
use Rattle.std.proofs.Common.{◌≡◌, ℕ, List, [], ◌∷◌, None, Some, subst, inl, inr}
use Rattle.px_base.specs.Update.{AreUpdates}
use Rattle.px_base.specs.declared.push.Push.{Push}
use Rattle.px_script.specs.Spelling.{AreWordsOf}
use Rattle.px_script.specs.declared.event.Event.{Event}
use Rattle.px_script.specs.declared.event.Event.TheVariants as script
use Rattle.cluster_runs.specs.Lists.{Prepared}
use Rattle.script_rules.specs.Laws.{LinesAreLawful}
use Rattle.script_rules.specs.Prepared.{prepared_by}

-- those of words are
words_lawful : (event : Event) (words : List (List ℕ)) (handed : Prepared) → AreWordsOf event words
    → prepared_by event ≡ Some handed → AreUpdates handed.push.updates
words_lawful (script.Prepare tx name push) words handed (inl vote) is = absurd vote
words_lawful (script.Prepare tx name push) words handed (inr (inl cluster)) is = absurd cluster.0
words_lawful (script.Prepare tx name push) words handed (inr (inr (inr (inl job)))) is =
    absurd job.0
words_lawful (script.Prepare tx name push) words handed (inr (inr (inr (inr repair)))) is =
    absurd repair.0
words_lawful (script.Prepare tx name push) words handed (inr (inr (inl line))) is =
    let one : push ≡ handed.push = cc in
    subst (λ (p : Push). AreUpdates p.updates) one line.lawful.updates
words_lawful other words handed are is = absurd (cc)

pub lines_are_lawful : LinesAreLawful
lines_are_lawful [] [] all tx push is = absurd is
lines_are_lawful [] (asked ∷ more) all tx push is = absurd all
lines_are_lawful (line ∷ lines) [] all tx push is = absurd all
lines_are_lawful (line ∷ lines) (None ∷ more) all tx push is =
    lines_are_lawful lines more all.1 tx push is
lines_are_lawful (line ∷ lines) (Some event ∷ more) all tx push (inl is) =
    words_lawful event all.0.asks.words (record { tx = tx; push = push }) all.0.asks.spelled is
lines_are_lawful (line ∷ lines) (Some event ∷ more) all tx push (inr is) =
    lines_are_lawful lines more all.1 tx push is
