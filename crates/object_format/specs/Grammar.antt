-- The form of each kind of object, and what it spells: the names that the object links to, in
-- order. The forms are those of Git's own objects (gitglossary(7), git-mktree(1), git-mktag(1)). A
-- content is a list of numbers here; those of the code are bytes, and no form asks for it.
use Rattle.std.specs.Prelude.{◌≡◌, ◌≢◌, ℕ, ◌+◌, ◌<◌, ◌≤◌, ◌&&◌, nat_le, nat_lt, List, [], ◌∷◌, ◌++◌, Bool, true, take, length, if◌then◌else◌, Option, Some, None, codes}
use Rattle.std.specs.List.{AllByRecursion, filter_map, flat_map, list_all}
use Rattle.std.specs.Str.{bytes_eq}
use Rattle.px_base.specs.Hash.{hash_text, IsHash}
use Rattle.px_base.specs.declared.hash.Hash.{Hash}
use Rattle.px_base.specs.declared.kind.Kind.{Kind}
use Rattle.px_base.specs.declared.kind.Kind.TheVariants.{Commit, Tree, Blob, Tag}
use Rattle.object_format.specs.Name.{kind_word}

-- ---- trees

-- an entry of a tree: its mode, its file name, and the name of its object
pub record Entry : Type 0 where
  pub mode : List ℕ
  pub name : List ℕ
  pub id : Hash

-- one of 0 to 7
abbrev pub is_octal_digit : ℕ → Bool
is_octal_digit c = nat_le 48 c && nat_le c 55

-- one to six octal digits, a name of at least one byte and no NUL, and 20 bytes
pub record IsEntry (entry : Entry) : Type 0 where
  pub some_mode : 1 ≤ length entry.mode
  pub short_mode : length entry.mode ≤ 6
  pub octal : AllByRecursion (λ c. is_octal_digit c ≡ true) entry.mode
  pub some_name : 1 ≤ length entry.name
  pub no_nul : AllByRecursion (λ b. b ≢ 0) entry.name
  pub size : length entry.id.0 ≡ 20

-- the mode, a space, the name, a NUL, and the 20 bytes
abbrev pub entry_text : Entry → List ℕ
entry_text entry = entry.mode ++ 32 ∷ entry.name ++ 0 ∷ entry.id.0

-- an entry links to its object, but for a submodule, whose commit is another repository's
abbrev pub link_of : Entry → Option Hash
link_of entry = if bytes_eq entry.mode (codes "160000") then None else Some entry.id

-- a tree is its entries, one after the other
pub record SpellsTree (ids : List Hash) (content : List ℕ) : Type 0 where
  pub entries : List Entry
  pub lawful : AllByRecursion IsEntry entries
  pub written : content ≡ flat_map entry_text entries
  pub linked : ids ≡ filter_map link_of entries

-- ---- commits and tags

-- a word with its space, a name in hexadecimal digits, and a line feed
abbrev pub header_line : List ℕ → Hash → List ℕ
header_line word id = word ++ hash_text id ++ 10 ∷ []

-- a line of a parent
abbrev pub parent_line : Hash → List ℕ
parent_line id = header_line (codes "parent ") id

-- bytes that begin with a whole line of a parent
pub record BeginsWithParent (bytes : List ℕ) : Type 0 where
  pub id : Hash
  pub rest : List ℕ
  pub lawful : IsHash id
  pub written : bytes ≡ parent_line id ++ rest

-- a commit is a line of its tree, the lines of its parents, and anything that is no further one
pub record SpellsCommit (ids : List Hash) (content : List ℕ) : Type 0 where
  pub tree : Hash
  pub parents : List Hash
  pub rest : List ℕ
  pub lawful : IsHash tree × AllByRecursion IsHash parents
  pub written : content ≡ header_line (codes "tree ") tree ++ flat_map parent_line parents ++ rest
  pub whole : ¬ (BeginsWithParent rest)
  pub linked : ids ≡ tree ∷ parents

-- a line of a kind
abbrev pub kind_line : Kind → List ℕ
kind_line kind = codes "type " ++ kind_word kind ++ 10 ∷ []

-- a tag is a line of its object, a line of that object's kind, and anything
pub record SpellsTag (ids : List Hash) (content : List ℕ) : Type 0 where
  pub id : Hash
  pub kind : Kind
  pub rest : List ℕ
  pub lawful : IsHash id
  pub written : content ≡ header_line (codes "object ") id ++ kind_line kind ++ rest
  pub linked : ids ≡ id ∷ []

-- ---- all kinds

-- the content of an object of that kind spells these links; a blob is any bytes, and spells none
abbrev pub Spells : Kind → List Hash → List ℕ → Type 0
Spells Commit ids content = SpellsCommit ids content
Spells Tree ids content = SpellsTree ids content
Spells Blob ids content = ids ≡ []
Spells Tag ids content = SpellsTag ids content

-- some lawful content begins so
abbrev pub GoesOn : Kind → List ℕ → Type 0
GoesOn kind front = (ids : List Hash) × (rest : List ℕ) × Spells kind ids (front ++ rest)

-- each number is a byte
abbrev pub are_bytes : List ℕ → Bool
are_bytes text = list_all (λ b. nat_lt b 256) text

-- some lawful content begins so, and goes on in bytes
pub record GoesOnInBytes (kind : Kind) (front : List ℕ) : Type 0 where
  pub ids : List Hash
  pub rest : List ℕ
  pub bytes : are_bytes rest ≡ true
  pub spelled : Spells kind ids (front ++ rest)

-- the first byte that breaks the form, or the length where the content ends too early: what stands
-- before it goes on in bytes, and with it nothing goes on
pub record IsFirstBad (kind : Kind) (content : List ℕ) (at : ℕ) : Type 0 where
  pub within : at ≤ length content
  pub before : GoesOnInBytes kind (take at content)
  pub early : at ≡ length content → (ids : List Hash) → ¬ (Spells kind ids content)
  pub breaks : at < length content → ¬ (GoesOn kind (take (at + 1) content))
