-- Fields behind a word: each after a space.
use Rattle.std.specs.Prelude.{ℕ, List, ◌∷◌, decimal}
use Rattle.px_base.specs.Hash.{hash_text}
use Rattle.px_base.specs.declared.hash.Hash.{Hash}

-- a name
abbrev pub name_field : List ℕ → List ℕ
name_field name = 32 ∷ name

-- a hash, or the name of an object
abbrev pub hash_field : Hash → List ℕ
hash_field hash = 32 ∷ hash_text hash

-- a number
abbrev pub number_field : ℕ → List ℕ
number_field n = 32 ∷ decimal n
