-- What stops the loop leaves no number.
use Rattle.std.proofs.Common.{arith, ◌≡◌, ◌<◌, ◌∙◌, ap, sym, refl, fold, take, get_or, length, List, ℕ, Some, None}
use Rattle.std.proofs.lemmas.Grind.{common_steps}
use Rattle.std.proofs.lemmas.List.Folds.{fold_stuck}
use Rattle.px_script.specs.Words.{with_digit}
use Rattle.px_script.proofs.number.read_digits.Goals as goal

-- what is refused once is refused at the end
stuck : (digits : List ℕ) (i number : ℕ) → i < length digits → Some number ≡ fold with_digit (Some 0) (take i digits)
    → with_digit (Some number) (get_or digits i 0) ≡ None → None ≡ fold with_digit (Some 0) digits
stuck digits i number lt so_far refused =
    fold_stuck with_digit None (λ b. refl) (Some 0) digits i 0 lt (ap (λ o. with_digit o (get_or digits i 0)) (sym so_far) ∙ refused)

pub returns-then-not-is_ascii_digit : goal.returns-then-not-is_ascii_digit
returns-then-not-is_ascii_digit c =
    let e : with_digit (Some c.loop-digit.number) (get_or c.args.digits.now c.loop-digit.digit-index 0) ≡ None = grind (arith, common_steps) in
    stuck c.args.digits.now c.loop-digit.digit-index c.loop-digit.number (omega arith) c.loop-digit.invariant e

pub returns-in_err-tens : goal.returns-in_err-tens
returns-in_err-tens c =
    let e : with_digit (Some c.loop-digit.number) (get_or c.args.digits.now c.loop-digit.digit-index 0) ≡ None = grind (arith, common_steps) in
    rw c.from_residual.ensures (stuck c.args.digits.now c.loop-digit.digit-index c.loop-digit.number (omega arith) c.loop-digit.invariant e)

pub returns-in_err-number : goal.returns-in_err-number
returns-in_err-number c =
    let e : with_digit (Some c.loop-digit.number) (get_or c.args.digits.now c.loop-digit.digit-index 0) ≡ None = grind (arith, common_steps) in
    rw c.from_residual-in_err-number.ensures (stuck c.args.digits.now c.loop-digit.digit-index c.loop-digit.number (omega arith) c.loop-digit.invariant e)
