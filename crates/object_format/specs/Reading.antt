-- What the readers of lines compute, from left to right: a value and the bytes behind it, or how
-- many bytes are left from the first bad one on. The rule of the forms stands in Grammar.
use Rattle.std.specs.Prelude.{◌≡◌, ℕ, zero, suc, ◌==◌, Bool, List, [], ◌∷◌, ◌++◌, length, if◌then◌else◌, min, Option, Some, None, Result, Ok, Err, codes}
use Rattle.px_base.specs.Hash.{hash_of, is_hex_digit}
use Rattle.px_base.specs.declared.hash.Hash.{Hash}
use Rattle.px_base.specs.declared.kind.Kind.{Kind}
use Rattle.px_base.specs.declared.kind.Kind.TheVariants.{Commit, Tree, Blob, Tag}
use Rattle.object_format.specs.declared.read_fault.ReadFault.{ReadFault}
use Rattle.object_format.specs.declared.read_fault.ReadFault.TheVariants.{Left, Memory}
use Rattle.object_format.specs.Name.{kind_word}

-- what a call of the code answers, seen by view, is what reading gives
abbrev pub Gives : {X Y : Type 0} → (X → Y) → Result X ℕ → Result Y ℕ → Type 0
Gives view (Ok x) read = read ≡ Ok (view x)
Gives view (Err left) read = read ≡ Err left

-- the same of a call that takes memory, where memory does not want
abbrev pub Finds : {X : Type 0} → Result X ReadFault → Result X ℕ → Type 0
Finds (Ok x) read = read ≡ Ok x
Finds (Err (Left left)) read = read ≡ Err left
Finds (Err Memory) read = Unit {0}

-- a reading, and one that knows what it gave
abbrev pub and_then : {A B : Type 0} → Result A ℕ → (A → Result B ℕ) → Result B ℕ
and_then (Ok a) rest = rest a
and_then (Err left) rest = Err left

-- the first of two readings that gives something, or the fault of the one that went further
abbrev pub or_else : {A : Type 0} → Result A ℕ → Result A ℕ → Result A ℕ
or_else (Ok a) other = Ok a
or_else (Err left) (Ok a) = Ok a
or_else (Err left) (Err also) = Err (min left also)

-- one byte that passes a test
abbrev pub byte_at : (ℕ → Bool) → List ℕ → Result (ℕ × List ℕ) ℕ
byte_at test [] = Err 0
byte_at test (b ∷ bytes) = if test b then Ok (b, bytes) else Err (length (b ∷ bytes))

-- these bytes
unfoldable pub text_at : List ℕ → List ℕ → Result (Unit {0} × List ℕ) ℕ
text_at [] bytes = Ok (tt, bytes)
text_at (c ∷ text) bytes = and_then (byte_at (λ b. b == c) bytes) (λ b. text_at text b.1)

-- so many hexadecimal digits
unfoldable pub digits_at : ℕ → List ℕ → Result (List ℕ × List ℕ) ℕ
digits_at zero bytes = Ok ([], bytes)
digits_at (suc n) bytes =
    and_then (byte_at is_hex_digit bytes) (λ b.
    and_then (digits_at n b.1) (λ digits. Ok (b.0 ∷ digits.0, digits.1)))

-- a name, where the digits are those of one
abbrev pub named : Option Hash → List ℕ → Result (Hash × List ℕ) ℕ
named None rest = Err (length rest)
named (Some id) rest = Ok (id, rest)

-- the name of an object in hexadecimal digits
unfoldable pub name_at : List ℕ → Result (Hash × List ℕ) ℕ
name_at bytes = and_then (digits_at 40 bytes) (λ digits. named (hash_of digits.0) digits.1)

-- a word with its space, a name, and a line feed
unfoldable pub line_at : List ℕ → List ℕ → Result (Hash × List ℕ) ℕ
line_at word bytes =
    and_then (text_at word bytes) (λ start.
    and_then (name_at start.1) (λ id.
    and_then (text_at (10 ∷ []) id.1) (λ end. Ok (id.0, end.1))))

-- the parent of a line, and those behind it
abbrev pub with_parent : Result (Hash × List ℕ) ℕ → (List ℕ → List Hash) → List Hash
with_parent (Ok id) more = id.0 ∷ more id.1
with_parent (Err left) more = []

-- parents, for as long as the next bytes are the line of one
unfoldable pub parents_at : ℕ → List ℕ → List Hash
parents_at zero bytes = []
parents_at (suc n) bytes = with_parent (line_at (codes "parent ") bytes) (parents_at n)

-- the same of all bytes
abbrev pub parents_of : List ℕ → List Hash
parents_of bytes = parents_at (length bytes) bytes

-- the word of a kind, and a line feed
abbrev pub word_at : Kind → List ℕ → Result (Unit {0} × List ℕ) ℕ
word_at kind bytes = text_at (kind_word kind ++ 10 ∷ []) bytes

-- the word of some kind
unfoldable pub any_word_at : List ℕ → Result (Unit {0} × List ℕ) ℕ
any_word_at bytes =
    or_else (or_else (word_at Commit bytes) (word_at Tree bytes))
    (or_else (word_at Blob bytes) (word_at Tag bytes))

-- the object of a tag, and its kind
unfoldable pub tag_at : List ℕ → Result (Hash × List ℕ) ℕ
tag_at bytes =
    and_then (line_at (codes "object ") bytes) (λ id.
    and_then (text_at (codes "type ") id.1) (λ start.
    and_then (any_word_at start.1) (λ end. Ok (id.0, end.1))))
