-- The links of an object and the first bad byte of its content, as functions, for those that walk.
-- What they are stands in Grammar; that they are so is a law.
use Rattle.std.specs.Prelude.{ℕ, ◌-◌, List, [], ◌∷◌, length, Option, Some, None, Result, Ok, Err, codes}
use Rattle.std.specs.Result.{result_unwrap_or}
use Rattle.px_base.specs.declared.hash.Hash.{Hash}
use Rattle.px_base.specs.declared.kind.Kind.{Kind}
use Rattle.px_base.specs.declared.kind.Kind.TheVariants.{Commit, Tree, Blob, Tag}
use Rattle.object_format.specs.Reading.{and_then, line_at, parents_of, tag_at}
use Rattle.object_format.specs.TreeReading.{tree_of}

-- the names that the object links to, in order, or how many bytes are left from a bad one on
unfoldable pub links_at : Kind → List ℕ → Result (List Hash) ℕ
links_at Commit bytes =
    and_then (line_at (codes "tree ") bytes) (λ tree. Ok (tree.0 ∷ parents_of tree.1))
links_at Tree bytes = tree_of bytes
links_at Blob bytes = Ok []
links_at Tag bytes = and_then (tag_at bytes) (λ tag. Ok (tag.0 ∷ []))

-- the same names; none where the form is broken
unfoldable pub links_of : Kind → List ℕ → List Hash
links_of kind content = result_unwrap_or (links_at kind content) []

-- the place of a byte, by how many are left from it on
abbrev pub place_of : {A : Type 0} → ℕ → Result A ℕ → Option ℕ
place_of size (Ok a) = None
place_of size (Err left) = Some (size - left)

-- the place of the first bad byte, from 0; the length where the content ends too early; none where
-- the form is right
unfoldable pub bad_byte : Kind → List ℕ → Option ℕ
bad_byte kind content = place_of (length content) (links_at kind content)
