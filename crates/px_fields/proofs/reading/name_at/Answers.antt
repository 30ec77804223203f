use Rattle.std.proofs.Common.{◌∙◌, arith, subst, sym}
use Rattle.px_base.specs.StorageName.{IsStorageName}
use Rattle.px_fields.proofs.OneValue.{one_text}
use Rattle.px_fields.proofs.reading.name_at.Goals as goal

-- a name in front would be the text that was read, which is none
pub returns-in-Err-clause-none : goal.returns-in-Err-clause-none
returns-in-Err-clause-none c = λ name rest lawful same.
    let one = one_text name c.in-Some.text.now rest c.in-Some.rest.now
    (omega (arith, lawful.few)) c.in-Some.ensures.fits (sym same ∙ c.in-Some.ensures.some) in
    c.in-Err.ensures.err.0 (subst IsStorageName one.0 lawful)
