use Rattle.px_base.proofs.HexText.{hash_of-hash_text, hash_of-some}
use Rattle.px_base.proofs.hash.a_hash_and_its_text_are_one.Goals as goal

pub returns-clause-read : goal.returns-clause-read
returns-clause-read c = hash_of-hash_text

pub returns-clause-written : goal.returns-clause-written
returns-clause-written c = hash_of-some
