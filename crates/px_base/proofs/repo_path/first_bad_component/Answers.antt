use Rattle.std.proofs.Common.{◌≡◌, ◌-◌, length, take, drop, arith, ap, sym, ◌∙◌, inl, inr}
use Rattle.std.proofs.lemmas.Bool.{cases_lt, false≢true}
use Rattle.std.proofs.lemmas.List.{length-drop, take_all}
use Rattle.px_base.specs.RepoPath.{IsBadComponentAt, is_bad_component}
use Rattle.px_base.proofs.repo_path.first_bad_component.Goals as goal
use Rattle.px_base.proofs.repo_path.first_bad_component.Goals.{else-begins-via-then-begins+else-is_bad_component, else-begins-via-else-begins}

pub loop-at-preserved : goal.loop-at-preserved
loop-at-preserved c = λ k near bad.
    elim (cases_lt k c.loop-at.at) [
      | inl lt ↦ c.loop-at.invariant k lt bad
      | inr le ↦
          let here : k ≡ c.loop-at.at = omega arith in
          let b : IsBadComponentAt c.args.text.now c.loop-at.at = rw here at bad in
          elim c.else-begins.branch [
            | else-begins-via-then-begins+else-is_bad_component w ↦
                let text = c.args.text.now in
                let at = c.loop-at.at in
                let rest : take (length text - at) (drop at text) ≡ drop at text = take_all (length text - at) (drop at text) (omega (arith, length-drop at text)) in
                false≢true (sym (sym (ap is_bad_component rest) ∙ sym w.is_bad_component.ensures ∙ w.if-is_bad_component.false) ∙ b.2)
            | else-begins-via-else-begins w ↦ false≢true (sym (sym c.begins.ensures ∙ w.if-begins.false) ∙ b.1)
          ]
    ]

pub returns-clause-none : goal.returns-clause-none
returns-clause-none c = λ k bad. c.loop-at.invariant k (omega (arith, bad.0)) bad
