-- The names of objects (git-hash-object(1); SHA-1 is that of FIPS 180-4).
use Rattle.std.specs.Prelude.{ℕ, List, ◌∷◌, ◌++◌, length, codes, decimal}
use Rattle.sha1.specs.Sha1.{sha1}
use Rattle.px_base.specs.declared.hash.Hash.{Hash}
use Rattle.px_base.specs.declared.kind.Kind.{Kind}
use Rattle.px_base.specs.declared.kind.Kind.TheVariants.{Commit, Tree, Blob, Tag}

-- the word that stands for a kind
abbrev pub kind_word : Kind → List ℕ
kind_word Commit = codes "commit"
kind_word Tree = codes "tree"
kind_word Blob = codes "blob"
kind_word Tag = codes "tag"

-- what is hashed: the kind, a space, the length in decimal, a NUL, and the content
abbrev pub named_bytes : Kind → List ℕ → List ℕ
named_bytes kind content = kind_word kind ++ codes " " ++ decimal (length content) ++ 0 ∷ content

-- the name of the object of that kind and content
unfoldable pub object_name : Kind → List ℕ → Hash
object_name kind content = record { 0 = sha1 (named_bytes kind content) }
