-- The name of the refusal is written out.
use Rattle.px_ops.proofs.refusal_text.add_unknown_storage.Goals as goal

pub returns-in-Some : goal.returns-in-Some
returns-in-Some c = rw (c.in-Some.is, ← c.as_bytes.ensures) c.add_name.ensures

pub returns-in-None : goal.returns-in-None
returns-in-None c = rw c.in-None.is c.add.ensures
