-- The names of references, as lists of bytes: which places of a text are bad (git-check-ref-format(1)).
use Rattle.std.specs.Prelude.{◌≡◌, ℕ, ◌≤◌, Bool, true, false, not, ◌&&◌, ◌||◌, ◌==◌, nat_lt, nat_le, nat_eq, if◌then◌else◌, List, length, take, Option, None, Some, codes, slice_get}
use Rattle.std.specs.List.{ends_with}

-- the bytes end with these
abbrev pub ends : List ℕ → List ℕ → Bool
ends bytes last = nat_le (length last) (length bytes) && ends_with nat_eq bytes last

-- no name has this byte: a space, a control byte, one above ASCII, or one of ~ ^ : ? * [ \
abbrev pub is_forbidden : ℕ → Bool
is_forbidden b =
    nat_lt b 33 || nat_lt 126 b || (b == 126) || (b == 94) || (b == 58) || (b == 63) || (b == 42)
    || (b == 91) || (b == 92)

-- the byte that a name has at one of its first five places
abbrev pub is_other : ℕ → Option ℕ → Bool
is_other b None = false
is_other b (Some wanted) = not (b == wanted)

-- what each name begins with
abbrev pub prefix : List ℕ
prefix = codes "refs/"

-- so many bytes stand before it that it is not that of the prefix, or is one too many
abbrev pub is_misplaced : ℕ → ℕ → Bool
is_misplaced at b = nat_le 255 at || is_other b (slice_get prefix at)

-- a slash behind a slash or behind '.lock', a dot behind a slash or a dot, or a brace behind '@'
abbrev pub follows_badly : List ℕ → ℕ → Bool
follows_badly before b =
    if b == 47 then ends before (codes "/") || ends before (codes ".lock")
    else if b == 46 then ends before (codes "/") || ends before (codes ".")
    else if b == 123 then ends before (codes "@")
    else false

-- the byte is bad behind those that stand before it
abbrev pub is_bad_byte : List ℕ → ℕ → Bool
is_bad_byte before b =
    is_misplaced (length before) b || is_forbidden b || follows_badly before b

-- the end is bad behind all bytes: they are too few, or the last ones stand at no name's end
abbrev pub is_bad_end : List ℕ → Bool
is_bad_end text =
    nat_lt (length text) 6 || ends text (codes "/") || ends text (codes ".") || ends text (codes ".lock")

-- a place of a text: that of a byte, or the end
abbrev pub is_bad_place : List ℕ → ℕ → Option ℕ → Bool
is_bad_place text at (Some b) = is_bad_byte (take at text) b
is_bad_place text at None = is_bad_end text

-- the place, up to the end, is bad
abbrev pub IsBadAt : List ℕ → ℕ → Type 0
IsBadAt text at = (at ≤ length text) × (is_bad_place text at (slice_get text at) ≡ true)

-- a name: no place is bad
abbrev pub IsRefName : List ℕ → Type 0
IsRefName text = (at : ℕ) → ¬ (IsBadAt text at)
