-- The names of these refusals are written out, and the fields of one stand behind it together.
use Rattle.std.proofs.Common.{◌∷◌, ◌++◌, append_assoc, codes}
use Rattle.px_base.specs.Hash.{hash_text}
use Rattle.px_ops.proofs.refusal_text.add_node_refusal.Goals as goal

pub returns-in_ok-add_name-in-Stale : goal.returns-in_ok-add_name-in-Stale
returns-in_ok-add_name-in-Stale c =
    let front = c.in_ok-add_name-in-Stale.ensures in
    let name = c.as_bytes-in-Stale.result.now in
    rw (c.in-Stale.is, ← c.as_bytes-in-Stale.ensures.value)
    (rw (← append_assoc c.args.text.now (codes "Stale " ++ name) (32 ∷ hash_text c.in-Stale.have), ← front) c.add_hash-in-Stale.ensures)

pub returns-in-TooManyRefs : goal.returns-in-TooManyRefs
returns-in-TooManyRefs c = rw c.in-TooManyRefs.is c.add-in-TooManyRefs.ensures
