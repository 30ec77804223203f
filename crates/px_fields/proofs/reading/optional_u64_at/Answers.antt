use Rattle.px_fields.proofs.FieldBytes.{no_optional_u64}
use Rattle.px_fields.proofs.reading.optional_u64_at.Goals as goal

pub returns-in_default-clause-none : goal.returns-in_default-clause-none
returns-in_default-clause-none c = λ number rest.
    no_optional_u64 c.args.bytes.now c.in_default.ensures.none number rest
