use Rattle.std.proofs.Common.{arith, rules}
use Rattle.std.proofs.lemmas.Nat.{be_bytes_2}
use Rattle.std.specs.Int.{w16}
use Rattle.px_fields.proofs.FieldBytes.{number_in_front}
use Rattle.px_fields.proofs.reading.u16_at.Goals as goal

pub returns-in-Some-clause-some : goal.returns-in-Some-clause-some
returns-in-Some-clause-some c =
    let parts = c.in-Some.ensures.cases in
    number_in_front 2 w16 be_bytes_2 c.args.bytes.now c.in-Some.front.now c.in-Some.rest.now
    c.from_be_bytes.result (omega (arith, parts.2)) (search rules) parts.0 parts.1
    c.from_be_bytes.ensures
