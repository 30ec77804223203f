-- The line that is printed of an answer.
use Rattle.std.specs.Prelude.{ℕ, List, [], ◌∷◌, ◌++◌, codes, decimal, Option, None, Some}
use Rattle.px_base.specs.Hash.{hash_text}
use Rattle.px_base.specs.RefList.{References}
use Rattle.px_base.specs.declared.hash.Hash.{Hash}
use Rattle.px_ops.specs.BookingTexts.{each_after_space}
use Rattle.px_ops.specs.Texts.{reply_text}
use Rattle.script_rules.specs.declared.answer.Answer.{Answer}
use Rattle.script_rules.specs.declared.answer.Answer.TheVariants.{Replied, Done, Voted, Refs, Snapshot, Last}

-- a reference, and the object that it names
abbrev pub ref_text : List ℕ × Hash → List ℕ
ref_text reference = reference.0 ++ 61 ∷ hash_text reference.1

abbrev pub refs_text : References → List ℕ
refs_text refs = codes "refs" ++ each_after_space ref_text refs

-- how many references and objects a snapshot has
abbrev pub snapshot_text : ℕ → ℕ → List ℕ
snapshot_text refs objects = codes "snapshot " ++ decimal refs ++ 32 ∷ decimal objects

-- the last lease that a node committed, or '-' for none
abbrev pub last_text : Option ℕ → List ℕ
last_text None = codes "last -"
last_text (Some lease) = codes "last " ++ decimal lease

abbrev pub answer_text : Answer → List ℕ
answer_text (Replied reply) = reply_text reply
answer_text Done = codes "done"
answer_text (Voted hash) = codes "vote " ++ hash_text hash
answer_text (Refs refs) = refs_text refs
answer_text (Snapshot refs objects) = snapshot_text refs objects
answer_text (Last last) = last_text last

-- its text, with a line feed behind it
abbrev pub text_of : Answer → List ℕ
text_of answer = answer_text answer ++ 10 ∷ []
