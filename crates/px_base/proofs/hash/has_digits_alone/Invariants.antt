-- Whether each byte is a digit.
use Rattle.std.proofs.Common.{◌≡◌, take}
use Rattle.std.specs.List.{list_all}
use Rattle.px_base.specs.Hash.{is_hex_digit}
use Rattle.px_base.proofs.hash.has_digits_alone.Given as goal

-- whether each of those so far is one
abbrev pub invariant-loop-byte : goal.invariant-loop-byte
invariant-loop-byte l = l.alone ≡ list_all is_hex_digit (take l.byte-index l.text)
