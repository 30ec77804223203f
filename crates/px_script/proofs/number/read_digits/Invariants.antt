-- The number so far is the fold of the digits so far.
use Rattle.std.proofs.Common.{◌≡◌, fold, take, Some}
use Rattle.px_script.specs.Words.{with_digit}
use Rattle.px_script.proofs.number.read_digits.Given as goal

abbrev pub invariant-loop-digit : goal.invariant-loop-digit
invariant-loop-digit l = Some l.number ≡ fold with_digit (Some 0) (take l.digit-index l.digits)
